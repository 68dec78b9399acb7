-- Chapter: the first place at which .debug_info stops being a list of units, and the rule that fails there.
use Rattle.std.specs.Prelude.{◌≡◌, ◌≢◌, ℕ, zero, suc, true, ◌+◌, List, [], ◌∷◌, ◌++◌, length, Some, Result, Ok, Err}
use Rattle.dw_forms.specs.declared.fault.AbbrevFault.{AbbrevFault}
use Rattle.dw_forms.specs.AbbrevReading.{table_at}
use Rattle.dw_forms.specs.declared.rule.Rule.TheVariants.{NoUnitEntry, LeftOver}
use Rattle.dw_entries.specs.declared.fault.Section.TheVariants.{Abbrev, Info}
pub use Rattle.dw_entries.specs.declared.fault.PlainFault.{PlainFault}
use Rattle.dw_entries.specs.Header.{UnitHeader, HeaderKind, fits_tag, unit_header_size, header_at, Rule}
use Rattle.dw_entries.specs.ItemFormats.{Failing, failing_by, next_item}
use Rattle.dw_entries.specs.Items.{Item, entry, null, AreItems, items_bytes, tree_depth}
use Rattle.dw_entries.specs.Units.{DebugUnit, context_by, AreUnits, units_bytes, Declaration, Context, IsNull}

-- the fault of a table
abbrev pub in_table : AbbrevFault → PlainFault
in_table f = record { rule = f.rule; section = Abbrev; at = f.at; attribute = f.attribute }

-- the fault of a header at this offset
abbrev pub in_header : Rule → ℕ → PlainFault
in_header rule header = record { rule = rule; section = Info; at = header; attribute = 0 }

-- a missing first entry is at the header, and any other item where it is
abbrev pub place_of : Rule → ℕ → ℕ → ℕ
place_of NoUnitEntry header at = header
place_of rule header at = at

-- the fault of an item at this offset, in the unit of this header
abbrev pub in_unit : Failing → ℕ → ℕ → PlainFault
in_unit f header at = record { rule = f.rule; section = Info; at = place_of f.rule header at; attribute = f.attribute }

-- ---- inside a unit

-- the first of these items, if there is one, is an entry that fits the unit's type
abbrev pub FitsUnit : HeaderKind → List Item → Type 0
FitsUnit kind [] = Unit {0}
FitsUnit kind (entry h ∷ is) = fits_tag kind h.decl.tag ≡ true
FitsUnit kind (null z ∷ is) = ⊥

-- these items spell the beginning of a unit's body, and so many lists are open after them
pub record Front (x : Context) (kind : HeaderKind) (body : List ℕ) (is : List Item) (rest : List ℕ)
    (depth : ℕ) : Type 0 where
  pub are : AreItems x is
  pub fits : FitsUnit kind is
  pub at_depth : tree_depth is ≡ Some depth
  pub parts : body ≡ items_bytes is ++ rest

-- no null is at the front of these bytes
abbrev pub BeginsNoNull : List ℕ → Type 0
BeginsNoNull bytes = (z rest : List ℕ) → IsNull z → bytes ≢ z ++ rest

-- an item is missing inside the tree, or something else than nulls comes after it
abbrev pub Stops : Context → HeaderKind → List Item → List ℕ → ℕ → Failing → Type 0
Stops x kind is rest zero f = (rest ≢ []) × BeginsNoNull rest × (f ≡ failing_by LeftOver 0)
Stops x kind is rest (suc depth) f = (next_item x kind is).Fails rest f

-- some items begin the body of the unit, and it does not go on
pub record BodyFails (x : Context) (kind : HeaderKind) (header : ℕ) (body : List ℕ) (broken : PlainFault) : Type 0 where
  pub items : List Item
  pub rest : List ℕ
  pub depth : ℕ
  pub failing : Failing
  pub front : Front x kind body items rest depth
  pub stops : Stops x kind items rest depth failing
  pub is : broken ≡ in_unit failing header (header + unit_header_size kind + length (items_bytes items))

-- ---- the checks of a unit in their order: its header, its table, its items

-- the fault after a header at this offset, whose table reads so: an item of the body, or the table
abbrev pub FailsBehind : ℕ → UnitHeader → List ℕ → Result (List Declaration) AbbrevFault → PlainFault → Type 0
FailsBehind header h body (Ok table) broken = BodyFails (context_by h table) h.kind header body broken
FailsBehind header h body (Err f) broken = broken ≡ in_table f

-- the fault of a unit at this offset whose header reads so
abbrev pub FailsAs : List ℕ → ℕ → Result (UnitHeader × List ℕ) Rule → PlainFault → Type 0
FailsAs «abbrev» header (Ok u) broken = FailsBehind header u.0 u.1 (table_at «abbrev» u.0.abbrev_offset) broken
FailsAs «abbrev» header (Err rule) broken = broken ≡ in_header rule header

-- these bytes, which are at this offset of .debug_info, begin with no unit, and this is why
abbrev pub FailsHere : List ℕ → ℕ → List ℕ → PlainFault → Type 0
FailsHere «abbrev» header rest broken = FailsAs «abbrev» header (header_at (length «abbrev») rest) broken

-- these bytes, which are at this offset of .debug_info, are whole units, and then bytes that are none, by the first
-- check that fails
pub record Fails («abbrev» : List ℕ) (at : ℕ) (bytes : List ℕ) (broken : PlainFault) : Type 0 where
  pub units : List DebugUnit
  pub rest : List ℕ
  pub are : AreUnits «abbrev» units
  pub parts : bytes ≡ units_bytes units ++ rest
  pub more : rest ≢ []
  pub fails : FailsHere «abbrev» (at + length (units_bytes units)) rest broken
