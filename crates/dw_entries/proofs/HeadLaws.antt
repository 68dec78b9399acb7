-- At each entry's offset is its head, in the context of its unit.
use Rattle.std.proofs.Common.{rules, ◌≡◌, ℕ, zero, suc, ◌+◌, ◌-◌, ◌<◌, ◌≤◌, List, [], ◌∷◌, ◌++◌, length, drop, Option, Some, None, Ok, refl, sym, ap, ◌∙◌, arith, length-append, length-drop, subst, append_assoc, append-nil, drop_at, drop-drop, replicate, slice_get, flat_map}
use Rattle.std.specs.List.{AllByRecursion}
use Rattle.std.proofs.lemmas.List.{length-replicate}
use Rattle.std.proofs.lemmas.Option.{slice_get_within, get_or_from_slice_get}
use Rattle.dw_entries.specs.Grammar.{Context, head_bytes, attribute_bytes, IsHead}
use Rattle.dw_entries.specs.Header.{unit_header_size}
pub use Rattle.dw_entries.specs.UnitLaws.{unit_sized, DebugUnit, context_of, body_bytes, nulls_bytes, unit_bytes, IsUnit, AreUnits, units_bytes, Spells, AreFrom}
use Rattle.dw_entries.specs.Items.{entry}
use Rattle.dw_entries.specs.ItemFormats.{code}
use Rattle.dw_entries.specs.ItemLaws.{item_some}
use Rattle.dw_entries.specs.Tree.{Node, Nodes, leaf, parent, none, ◌then◌, IsNode, AreNodes, node_bytes, nodes_bytes}
use Rattle.dw_entries.specs.Entries.{Entry, node_count, first_id, node_entries, nodes_entries, entries_from, start_of, entries_of}
use Rattle.dw_entries.specs.ByNumber.{unit_of}

-- the head of this entry is at its offset, and the entry is of this unit, whose context is x
pub record StandsIn (x : Context) (unit : ℕ) (info : List ℕ) (e : Entry) : Type 0 where
  pub is : IsHead x e.head
  pub in_unit : e.unit ≡ unit
  pub after : List ℕ
  pub parts : drop e.at info ≡ head_bytes e.head ++ after

-- the head of this entry is at its offset, in the context of its unit
pub record Stands (us : List DebugUnit) (info : List ℕ) (e : Entry) : Type 0 where
  pub within : e.unit < length us
  pub is : IsHead (context_of (unit_of us e.unit)) e.head
  pub after : List ℕ
  pub parts : drop e.at info ≡ head_bytes e.head ++ after

pub all-append : {A : Type 0} (P : A → Type 0) (xs ys : List A) → AllByRecursion P xs → AllByRecursion P ys
    → AllByRecursion P (xs ++ ys)
all-append P [] ys p q = q
all-append P (x ∷ xs) ys p q = (p.0, all-append P xs ys p.1 q)

all_map : {A : Type 0} (P Q : A → Type 0) (xs : List A) → ((x : A) → P x → Q x) → AllByRecursion P xs
    → AllByRecursion Q xs
all_map P Q [] f p = tt
all_map P Q (x ∷ xs) f p = (f x p.0, all_map P Q xs f p.1)

pub all_get : {A : Type 0} (P : A → Type 0) (xs : List A) (k : ℕ) (x : A) → AllByRecursion P xs
    → slice_get xs k ≡ Some x → P x
all_get P [] k x p is = absurd cc
all_get P (y ∷ ys) zero x p is = search (rules)
all_get P (y ∷ ys) (suc k) x p is = all_get P ys k x p.1 is

-- an element of two lists, one after the other
pub get_front : {A : Type 0} (xs ys : List A) (k : ℕ) → k < length xs → slice_get (xs ++ ys) k ≡ slice_get xs k
get_front [] ys k lt = absurd (omega arith)
get_front (x ∷ xs) ys zero lt = refl
get_front (x ∷ xs) ys (suc k) lt = get_front xs ys k (omega arith)

pub get_behind : {A : Type 0} (xs ys : List A) (k : ℕ) → length xs ≤ k
    → slice_get (xs ++ ys) k ≡ slice_get ys (k - length xs)
get_behind [] ys k le = search (rules)
get_behind (x ∷ xs) ys zero le = absurd (omega arith)
get_behind (x ∷ xs) ys (suc k) le = search (rules, (get_behind xs ys k (omega arith)))

-- what comes after it
behind : (info a b : List ℕ) (at : ℕ) → drop at info ≡ a ++ b → drop (at + length a) info ≡ b
behind info a b at e = sym (drop-drop (length a) at info) ∙ ap (drop (length a)) e ∙ drop_at a b (length a) refl

mutual
  node_stands : (x : Context) (info : List ℕ) (unit : ℕ) (above : Option ℕ) (depth : ℕ) (next : Option ℕ) (id at : ℕ)
      (n : Node) (after : List ℕ) → IsNode x n → drop at info ≡ node_bytes n ++ after
      → AllByRecursion (StandsIn x unit info) (node_entries unit above depth next id at n)
  node_stands x info unit above depth next id at (leaf h) after p e = search (rules)
  node_stands x info unit above depth next id at (parent h ns z) after p e =
      let parts : drop at info ≡ head_bytes h ++ (nodes_bytes ns ++ (z ++ after)) = search (rules, append_assoc) in (
        record { is = p.0; in_unit = refl; after = nodes_bytes ns ++ (z ++ after); parts = parts },
        nodes_stand x info unit id (suc depth) (suc id) (at + length (head_bytes h)) ns (z ++ after) p.2
            (behind info (head_bytes h) (nodes_bytes ns ++ (z ++ after)) at parts),
      )

  nodes_stand : (x : Context) (info : List ℕ) (unit above depth id at : ℕ) (ns : Nodes) (after : List ℕ) → AreNodes x ns
      → drop at info ≡ nodes_bytes ns ++ after
      → AllByRecursion (StandsIn x unit info) (nodes_entries unit above depth id at ns)
  nodes_stand x info unit above depth id at none after p e = tt
  nodes_stand x info unit above depth id at (n then ns) after p e =
      let parts : drop at info ≡ node_bytes n ++ (nodes_bytes ns ++ after) = search (rules, append_assoc) in
      search (
        rules,
        all-append,
        (node_stands x info unit (Some above) depth (first_id ns (id + node_count n)) id at n (nodes_bytes ns ++ after)
            p.0 parts),
        (nodes_stand x info unit above depth (id + node_count n) (at + length (node_bytes n)) ns after p.1
            (behind info (node_bytes n) (nodes_bytes ns ++ after) at parts)),
      )

-- these units are those of a longer list from the unit of this number on
abbrev From : List DebugUnit → ℕ → List DebugUnit → Type 0
From all unit us = (k : ℕ) (v : DebugUnit) → slice_get us k ≡ Some v → slice_get all (unit + k) ≡ Some v

from_next : (all : List DebugUnit) (unit : ℕ) (u : DebugUnit) (us : List DebugUnit) → From all unit (u ∷ us)
    → From all (suc unit) us
from_next all unit u us f k v is =
    ap (slice_get all) (let e : suc unit + k ≡ unit + suc k = omega arith in e) ∙ f (suc k) v is

from_here : (all : List DebugUnit) (unit : ℕ) (u : DebugUnit) (us : List DebugUnit) → From all unit (u ∷ us)
    → slice_get all unit ≡ Some u
from_here all unit u us f = ap (slice_get all) (let e : unit ≡ unit + 0 = omega arith in e) ∙ f 0 u refl

stands_among : (all : List DebugUnit) (info : List ℕ) (unit : ℕ) (u : DebugUnit) → slice_get all unit ≡ Some u
    → (e : Entry) → StandsIn (context_of u) unit info e → Stands all info e
stands_among all info unit u is e s = search (rules, get_or_from_slice_get, slice_get_within)

header_long : (a : List ℕ) (u : DebugUnit) → IsUnit a u → length u.header_bytes ≡ unit_header_size u.header.kind
header_long a u p = search (rules, unit_sized, length-append)

-- the bytes of a unit after its header
pub behind_header : (a info : List ℕ) (at : ℕ) (u : DebugUnit) (after : List ℕ) → IsUnit a u
    → drop at info ≡ unit_bytes u ++ after → drop (at + unit_header_size u.header.kind) info ≡ body_bytes u ++ after
behind_header a info at u after p e = search (rules, header_long, behind, append_assoc)

units_stand : (all : List DebugUnit) (a info : List ℕ) (unit id at : ℕ) (us : List DebugUnit) (after : List ℕ)
    → AreUnits a us → From all unit us → drop at info ≡ units_bytes us ++ after
    → AllByRecursion (Stands all info) (entries_from unit id at us)
units_stand all a info unit id at [] after p f e = tt
units_stand all a info unit id at (u ∷ us) after p f e =
    let parts : drop at info ≡ unit_bytes u ++ (units_bytes us ++ after) = search (rules, append_assoc) in
    let root : drop (at + unit_header_size u.header.kind) info
    ≡ node_bytes u.root ++ (nulls_bytes u.nulls ++ (units_bytes us ++ after)) =
    search (rules, behind_header, append_assoc) in
    search (
      rules,
      all-append,
      (all_map (StandsIn (context_of u) unit info) (Stands all info) _
          (stands_among all info unit u (from_here all unit u us f))
          (node_stands (context_of u) info unit None 0 None id (at + unit_header_size u.header.kind) u.root
          (nulls_bytes u.nulls ++ (units_bytes us ++ after)) p.0.root root)),
      (units_stand all a info (suc unit) (id + node_count u.root) (at + length (unit_bytes u)) us after p.1
          (from_next all unit u us f) (behind info (unit_bytes u) (units_bytes us ++ after) at parts)),
    )

stands_from : (a info : List ℕ) (us : List DebugUnit) (id : ℕ) (e : Entry) → Spells a us (drop (start_of us) info)
    → slice_get (entries_of us) id ≡ Some e → Stands us info e
stands_from a info us id e s is =
    all_get (Stands us info) (entries_of us) id e
    (units_stand us a info 0 0 (start_of us) us [] s.are
    (λ k v at_k. ap (slice_get us) (let e : 0 + k ≡ k = omega arith in e) ∙ at_k)
    (s.parts ∙ sym (append-nil (units_bytes us)))) is

-- the head of each entry is at its offset
pub head_stands : (base : ℕ) (a info : List ℕ) (us : List DebugUnit) (id : ℕ) (e : Entry)
    → Spells a us (drop base info) → AreFrom base us → slice_get (entries_of us) id ≡ Some e → Stands us info e
head_stands base a info [] id e s from is = absurd cc
head_stands base a info (u ∷ us) id e s from is =
    stands_from a info (u ∷ us) id e (subst (λ (n : ℕ). Spells a (u ∷ us) (drop n info)) (sym from.0) s) is

-- and it fits its unit, wherever the units are: so many bytes may be before theirs
pub head_fits : (a info : List ℕ) (us : List DebugUnit) (id : ℕ) (e : Entry) → Spells a us info
    → slice_get (entries_of us) id ≡ Some e → Stands us (replicate (start_of us) 0 ++ info) e
head_fits a info us id e s is =
    let before : List ℕ = replicate (start_of us) 0 in
    stands_from a (before ++ info) us id e
    (record { are = s.are; parts = drop_at before info (start_of us) (length-replicate (start_of us) 0) ∙ s.parts }) is

pub stands_code : (us : List DebugUnit) (info : List ℕ) (e : Entry) (s : Stands us info e)
    → code.read (drop e.at info)
    ≡ Ok (e.head.decl.code, flat_map attribute_bytes e.head.attributes ++ s.after)
unfolding code
stands_code us info e s =
    let values : List ℕ = flat_map attribute_bytes e.head.attributes in
    ap code.read (s.parts ∙ append_assoc e.head.code values s.after)
    ∙ code.is_reader.again e.head.code (values ++ s.after) e.head.decl.code s.is.code

pub stands_within : (us : List DebugUnit) (info : List ℕ) (e : Entry) → Stands us info e → e.at < length info
stands_within us info e s =
    omega (
      arith,
      ap length s.parts,
      length-append (head_bytes e.head) s.after,
      item_some (context_of (unit_of us e.unit)) (entry e.head) s.is,
      length-drop e.at info,
    )
