-- The nulls after a unit's tree.
use Rattle.std.proofs.Common.{rules, ◌≡◌, ◌≢◌, ℕ, ◌+◌, ◌-◌, ◌<◌, map, true, List, [], ◌∷◌, ◌++◌, length, Ok, refl, ap, ◌∙◌, append_assoc, append-nil, arith, length-append}
use Rattle.std.proofs.lemmas.List.Concat.{flat_map-append}
use Rattle.dw_entries.specs.declared.records.Record.{Record}
use Rattle.dw_forms.specs.declared.rule.Rule.TheVariants.{LeftOver}
use Rattle.dw_entries.specs.Header.{HeaderKind, fits_tag, unit_header_size}
use Rattle.dw_entries.specs.Items.{Item, null, items_bytes, node_items}
use Rattle.dw_entries.specs.ItemFormats.{Failing, code}
use Rattle.dw_entries.specs.Units.{AreNulls, nulls_bytes, head_of}
use Rattle.dw_entries.specs.Faults.{BeginsNoNull, FitsUnit, in_unit, BodyFails}
use Rattle.dw_entries.specs.Stopped.{TreeOf, AreAllNulls, NullsThen}
use Rattle.dw_entries.specs.ItemLaws.{code_has_byte}
use Rattle.dw_forms.specs.WithBytes.{read_takes}
use Rattle.dw_entries.proofs.ItemLaws.{items_bytes-append, node_are_items, node_spelled, nulls_are_items, nulls_spelled, whole_depth, all-append, Node, leaf, parent, node_bytes, Context}

-- some nulls were taken, and this is what is left
pub record NullsTo (bytes rest : List ℕ) : Type 0 where
  pub nulls : List (List ℕ)
  pub are : AreNulls nulls
  pub parts : bytes ≡ nulls_bytes nulls ++ rest

pub nulls_next : (bytes rest after : List ℕ) → NullsTo bytes rest → code.read rest ≡ Ok (0, after)
    → NullsTo bytes after
unfolding code
nulls_next bytes rest after n e =
    let took = read_takes code rest 0 after e in
    record {
      nulls = n.nulls ++ took.text ∷ [];
      are = search (rules, all-append);
      parts = search (rules, append-nil, append_assoc, flat_map-append);
    }

pub null_shorter : (rest after : List ℕ) → code.read rest ≡ Ok (0, after) → length after < length rest
unfolding code
null_shorter rest after e =
    let took = read_takes code rest 0 after e in
    search (rules, length-append, code_has_byte)

-- where no null is read, none is there
pub no_null : (bytes : List ℕ) → ((after : List ℕ) → code.read bytes ≢ Ok (0, after)) → BeginsNoNull bytes
unfolding code
no_null bytes unread z rest zero parts = unread rest (ap code.read parts ∙ code.is_reader.again z rest 0 zero)

-- ---- the tree and the nulls

together : (body tree rest : List ℕ) (zs ws : List (List ℕ)) (left : List ℕ) → body ≡ (tree ++ nulls_bytes zs) ++ rest
    → rest ≡ nulls_bytes ws ++ left → body ≡ (tree ++ nulls_bytes (zs ++ ws)) ++ left
together body tree rest zs ws left p q = search (rules, append_assoc, flat_map-append)

pub tree_end : (t : Context) (numbers : ℕ → ℕ) (kind : HeaderKind) (body rest : List ℕ) (at : ℕ) (old new : List Record)
    → TreeOf t numbers kind body rest at old new → AreAllNulls rest → TreeOf t numbers kind body [] at old new
tree_end t numbers kind body rest at old new tree (zs, are, parts) = record {
  root = tree.root;
  is = tree.is;
  tag = tree.tag;
  nulls = tree.nulls ++ zs;
  are_nulls = search (rules, all-append);
  parts = search (rules, together, append-nil);
  records = tree.records;
}

pub fits_node : (kind : HeaderKind) (n : Node) (is : List Item) → fits_tag kind (head_of n).decl.tag ≡ true
    → FitsUnit kind (node_items n ++ is)
fits_node kind (leaf h) is e = e
fits_node kind (parent h ns z) is e = e

-- what comes after the nulls is left over
pub left_over : (t : Context) (numbers : ℕ → ℕ) (kind : HeaderKind) (header start : ℕ) (body rest left : List ℕ)
    (old new : List Record) → start ≡ header + unit_header_size kind → TreeOf t numbers kind body rest start old new
    → NullsThen rest left
    → BodyFails t kind header body
    (in_unit (record { rule = LeftOver; attribute = 0 }) header (start + (length body - length left)))
left_over t numbers kind header start body rest left old new s tree then =
    let zs : List (List ℕ) = tree.nulls ++ then.nulls in
    let is : List Item = node_items tree.root ++ map null zs in
    let spelled : items_bytes is ≡ node_bytes tree.root
    ++ nulls_bytes zs = search (rules, items_bytes-append, node_spelled, nulls_spelled) in
    let parts : body ≡ items_bytes is
    ++ left = search (rules, together, spelled) in
    let f : Failing = record { rule = LeftOver; attribute = 0 } in
    let here : start + (length body - length left)
    ≡ header + unit_header_size kind + length (items_bytes is) = omega (
      arith,
      ap length parts,
      length-append (items_bytes is) left,
    ) in
    record {
      items = is;
      rest = left;
      depth = 0;
      failing = f;
      front = search (rules, all-append, node_are_items, nulls_are_items, fits_node, whole_depth);
      stops = (then.more, then.other, refl);
      is = ap (λ (k : ℕ). in_unit f header k) here;
    }
