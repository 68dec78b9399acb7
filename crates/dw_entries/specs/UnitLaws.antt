-- Laws: one list of units at most spells .debug_info, and where units begin changes nothing else of them.
use Rattle.std.proofs.Common.{◌≡◌, ◌<◌, ℕ, ◌+◌, List, [], ◌∷◌, ◌++◌, length, drop, Result, Ok, refl, sym, ap, subst}
use Rattle.std.proofs.Common.{◌∙◌, arith, drop_at, map}
use Rattle.std.specs.List.{AllByRecursion}
use Rattle.std.proofs.lemmas.List.{append_cancel_right}
use Rattle.dw_forms.specs.declared.fault.AbbrevFault.{AbbrevFault}
use Rattle.dw_forms.specs.AbbrevReading.{table_at}
use Rattle.dw_entries.specs.declared.header.UnitHeader.{UnitHeader}
use Rattle.dw_entries.specs.Grammar.{Declaration, Context, IsNull}
use Rattle.dw_entries.specs.Tree.{Node, IsNode}
pub use Rattle.dw_entries.specs.Units.{DebugUnit, context_by, context_of, nulls_bytes, AreNulls, body_bytes, unit_bytes}
pub use Rattle.dw_entries.specs.Units.{IsUnit, AreUnits, units_bytes, Spells, AreFrom}
use Rattle.dw_entries.specs.Joined.{IsUnique, one_row}
use Rattle.dw_entries.specs.HeaderLaws.{IsSized, sized, headers_apart}
use Rattle.dw_entries.specs.ItemLaws.{code_has_byte}
use Rattle.dw_forms.specs.WithBytes.{one_value}
use Rattle.dw_forms.specs.BaseFormats.{uleb}
use Rattle.dw_forms.specs.Formats.{apart}
use Rattle.dw_entries.specs.TreeLaws.{node_unique}

-- the unit with these parts
abbrev made : ℕ → UnitHeader → List ℕ → List Declaration → Node → List (List ℕ) → DebugUnit
made at header header_bytes table root nulls = record {
  at = at;
  header = header;
  header_bytes = header_bytes;
  table = table;
  root = root;
  nulls = nulls;
}

-- the unit at this offset
abbrev unit_from : ℕ → DebugUnit → DebugUnit
unit_from at u = made at u.header u.header_bytes u.table u.root u.nulls

-- the unit as if it began at offset 0
abbrev pub bare : DebugUnit → DebugUnit
bare u = unit_from 0 u

-- a unit of a section, at offset 0
abbrev pub IsBare : List ℕ → DebugUnit → Type 0
IsBare a u = IsUnit a u × (u.at ≡ 0)

null_unique : IsUnique (λ z. z) IsNull
null_unique z w x y p q e = ((apart uleb z w x y 0 0 p q e).0, (one_value uleb z w x y 0 0 p q e).1)

-- the same bytes of nulls are the same nulls
nulls_unique : (zs ws : List (List ℕ)) → AreNulls zs → AreNulls ws → nulls_bytes zs ≡ nulls_bytes ws
    → zs ≡ ws
nulls_unique = one_row (λ z. z) IsNull null_unique (λ z null. code_has_byte z 0 null)

table_is : (r : Result (List Declaration) AbbrevFault) (x y : List Declaration) → r ≡ Ok x → r ≡ Ok y → x ≡ y
table_is r x y p q = let same : ◌≡◌ {A = Result (List Declaration) AbbrevFault} (Ok x) (Ok y) = sym p ∙ q in cc

-- the sizes of a unit, and what is known of its header
pub unit_sized : (a : List ℕ) (u : DebugUnit) → IsUnit a u
    → IsSized (length a) (unit_bytes u) u.header (body_bytes u)
unit_sized a u p = sized (length a) (unit_bytes u) u.header (body_bytes u) p.header

-- a unit has some bytes
pub unit_some : (a : List ℕ) (u : DebugUnit) → IsUnit a u → 0 < length (unit_bytes u)
unit_some a u p = let whole = (unit_sized a u p).whole in omega (arith, whole)

-- no spelling of a unit begins another
pub unit_unique : (a : List ℕ) → IsUnique unit_bytes (IsBare a)
unit_unique a u v x y (p, from) (q, same_from) e =
    let both = headers_apart (length a) (unit_bytes u) (unit_bytes v) x y (u.header, body_bytes u)
    (v.header, body_bytes v) p.header q.header e in
    let header : u.header ≡ v.header = ap (λ (p : UnitHeader × List ℕ). p.0) both.1 in
    let bodies : body_bytes u ≡ body_bytes v = ap (λ (p : UnitHeader × List ℕ). p.1) both.1 in
    let header_bytes : u.header_bytes ≡ v.header_bytes =
    append_cancel_right u.header_bytes v.header_bytes (body_bytes v)
    (ap (λ (b : List ℕ). u.header_bytes ++ b) (sym bodies) ∙ both.0) in
    let table : u.table ≡ v.table =
    table_is (table_at a v.header.abbrev_offset) u.table v.table
    (ap (λ (h : UnitHeader). table_at a h.abbrev_offset) (sym header) ∙ p.table) q.table in
    let context : context_of v ≡ context_of u =
    ap (λ (h : UnitHeader). context_by h v.table) (sym header) ∙ ap (context_by u.header) (sym table) in
    let roots = node_unique (context_of u) u.root v.root (nulls_bytes u.nulls) (nulls_bytes v.nulls) p.root
    (subst (λ (t : Context). IsNode t v.root) context q.root) bodies in
    let root : u.root ≡ v.root = roots.0 in
    let nulls : u.nulls ≡ v.nulls = nulls_unique u.nulls v.nulls p.nulls q.nulls roots.1 in
    let whole : made u.at u.header u.header_bytes u.table u.root u.nulls
    ≡ made v.at v.header v.header_bytes v.table v.root v.nulls = cc in
    let same : unit_bytes v ≡ unit_bytes u = ap unit_bytes (sym whole) in (
      whole,
      sym (drop_at (unit_bytes u) x (length (unit_bytes u)) refl) ∙ ap (drop (length (unit_bytes u))) e
          ∙ drop_at (unit_bytes v) y (length (unit_bytes u)) (ap length same),
    )

-- the bytes of units do not depend on where they begin ..
pub bytes_bare : (us : List DebugUnit) → units_bytes (map bare us) ≡ units_bytes us
bytes_bare [] = refl
bytes_bare (u ∷ us) = ap (λ (b : List ℕ). unit_bytes u ++ b) (bytes_bare us)

-- .. nor does what a unit is
pub are_bare : (a : List ℕ) (us : List DebugUnit) → AreUnits a us → AllByRecursion (IsBare a) (map bare us)
are_bare a [] are = tt
are_bare a (u ∷ us) (is, are) = (
  (
    record {
      header = is.header;
      table = is.table;
      root = is.root;
      tag = is.tag;
      nulls = is.nulls;
    },
    refl,
  ),
  are_bare a us are,
)

-- units one after another are at the same places
one_places : (at : ℕ) (us vs : List DebugUnit) → map bare us ≡ map bare vs → AreFrom at us → AreFrom at vs → us ≡ vs
one_places at [] [] same from also = refl
one_places at [] (v ∷ vs) same from also = absurd cc
one_places at (u ∷ us) [] same from also = absurd cc
one_places at (u ∷ us) (v ∷ vs) same (here, from) (there, also) =
    let first : bare u ≡ bare v = cc in
    let others : map bare us ≡ map bare vs = cc in
    let one : u ≡ v = ap (λ (n : ℕ). unit_from n u) here ∙ ap (unit_from at) first
    ∙ sym (ap (λ (n : ℕ). unit_from n v) there) in
    let more = one_places (at + length (unit_bytes u)) us vs others from
    (subst (λ (w : DebugUnit). AreFrom (at + length (unit_bytes w)) vs) (sym one) also) in
    λ i. one i ∷ more i

-- two lists of units that spell the same bytes from the same offset on are one
pub one_list : (at : ℕ) (a : List ℕ) (bytes : List ℕ) (us vs : List DebugUnit) → Spells a us bytes
    → Spells a vs bytes → AreFrom at us → AreFrom at vs → us ≡ vs
one_list at a bytes us vs p q from also =
    one_places at us vs
    (one_row unit_bytes (IsBare a) (unit_unique a) (λ u is. unit_some a u is.0) (map bare us) (map bare vs)
    (are_bare a us p.are) (are_bare a vs q.are) (bytes_bare us ∙ sym p.parts ∙ q.parts ∙ sym (bytes_bare vs)))
    from also
