-- Laws: what is known of the entries has one proof.
use Rattle.std.proofs.Common.{ℕ, ◌+◌, List, [], ◌∷◌, length, drop}
use Rattle.std.specs.Coded.{×_prop}
use mathlib.Core.HLevel.{Σ_prop_path}
use Rattle.std.proofs.Props.{props}
use Rattle.dw_forms.specs.Leb.{IsEnded, Uleb}
use Rattle.std.specs.List.{AllByRecursion-prop, AllZip}
use Rattle.dw_entries.specs.Entries.{PlacedUnit}
use Rattle.dw_entries.specs.Grammar.{AttributeSpec, Context, Attribute, AreAttributes, Head, IsHead, IsNull}
use Rattle.dw_entries.specs.Tree.{Node, Nodes, leaf, parent, none, ◌then◌, IsNode, AreNodes}
use Rattle.dw_entries.specs.Scanned.{Tables, UnitRecord, Record, IsRecordOfUnit, AreScanned, Scanned}
use Rattle.dw_entries.specs.UnitLaws.{one_list, DebugUnit, unit_bytes, AreNulls, IsUnit, AreUnits, Spells, AreFrom}

IsEnded-prop : (bytes : List ℕ) → IsProp (IsEnded bytes)
IsEnded-prop [] = hlevel props
IsEnded-prop (b ∷ []) = hlevel props
IsEnded-prop (b ∷ c ∷ bytes) = ×_prop (hlevel props) (IsEnded-prop (c ∷ bytes))

Uleb-prop : (bytes : List ℕ) (n : ℕ) → IsProp (Uleb bytes n)
Uleb-prop bytes n = hlevel (props, IsEnded-prop)

pub AreAttributes-prop : (t : Context) (specs : List AttributeSpec) (bs : List Attribute)
    → IsProp (AreAttributes t specs bs)
AreAttributes-prop t [] [] = hlevel props
AreAttributes-prop t [] (b ∷ bs) = hlevel props
AreAttributes-prop t (s ∷ specs) [] = hlevel props
AreAttributes-prop t (s ∷ specs) (b ∷ bs) = ×_prop (hlevel props) (AreAttributes-prop t specs bs)

IsHead-prop : (t : Context) (h : Head) → IsProp (IsHead t h)
IsHead-prop t h = hlevel (props, Uleb-prop, AreAttributes-prop)

mutual
  IsNode-prop : (t : Context) (n : Node) → IsProp (IsNode t n)
  IsNode-prop t (leaf h) = hlevel (props, IsHead-prop)
  IsNode-prop t (parent h ns z) = hlevel (props, IsHead-prop, Uleb-prop, AreNodes-prop t ns)

  AreNodes-prop : (t : Context) (ns : Nodes) → IsProp (AreNodes t ns)
  AreNodes-prop t none = hlevel props
  AreNodes-prop t (n then ns) = ×_prop (IsNode-prop t n) (AreNodes-prop t ns)

AreNulls-prop : (zs : List (List ℕ)) → IsProp (AreNulls zs)
AreNulls-prop = AllByRecursion-prop IsNull (λ z. Uleb-prop z 0)

IsUnit-prop : (a : List ℕ) (u : DebugUnit) → IsProp (IsUnit a u)
IsUnit-prop a u = hlevel (props, IsNode-prop, AreNulls-prop)

AreUnits-prop : (a : List ℕ) (us : List DebugUnit) → IsProp (AreUnits a us)
AreUnits-prop a = AllByRecursion-prop (IsUnit a) (IsUnit-prop a)

pub Spells-prop : (a : List ℕ) (us : List DebugUnit) (info : List ℕ) → IsProp (Spells a us info)
Spells-prop a us info = hlevel (props, AreUnits-prop)

AreFrom-prop : (at : ℕ) (us : List DebugUnit) → IsProp (AreFrom at us)
AreFrom-prop at [] = hlevel props
AreFrom-prop at (u ∷ us) = ×_prop (hlevel props) (AreFrom-prop (at + length (unit_bytes u)) us)

records_set : IsSet (List Record)
records_set = hlevel props

AllKept-prop : (tables : Tables) (rs : List UnitRecord) (ps : List PlacedUnit)
    → IsProp (AllZip (IsRecordOfUnit tables) rs ps)
AllKept-prop tables [] [] = hlevel props
AllKept-prop tables [] (p ∷ ps) = hlevel props
AllKept-prop tables (r ∷ rs) [] = hlevel props
AllKept-prop tables (r ∷ rs) (p ∷ ps) = ×_prop (hlevel props) (AllKept-prop tables rs ps)

AreScanned-prop : (base : ℕ) (a info : List ℕ) (tables : Tables) (rs : List UnitRecord) (records : List Record)
    (us : List DebugUnit) → IsProp (AreScanned base a info tables rs records us)
AreScanned-prop base a info tables rs records us = hlevel (props, Spells-prop, AreFrom-prop, AllKept-prop, records_set)

-- the units of a section, with what is kept of them
pub scanned_unique : (base : ℕ) (a info : List ℕ) (tables : Tables) (rs : List UnitRecord) (records : List Record)
    → IsProp (Scanned base a info tables rs records)
scanned_unique base a info tables rs records p q =
    Σ_prop_path (AreScanned-prop base a info tables rs records)
    (one_list base a (drop base info) p.0 q.0 p.1.spells q.1.spells p.1.are_from q.1.are_from)
