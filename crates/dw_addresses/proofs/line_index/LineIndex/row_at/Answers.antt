use Rattle.std.proofs.Common.{◌≡◌, ◌∙◌, List, Some, ap, subst, sym}
use Rattle.std.specs.List.{find}
use Rattle.std.specs.List.Sorted.{IsNonDecreasingBy}
use Rattle.dw_addresses.specs.Index.{IsSequence, has, rows_of}
use Rattle.dw_lines.specs.declared.row.Row.{Row}
use Rattle.dw_addresses.proofs.AddressLemmas.{found_all}
use Rattle.dw_addresses.proofs.line_index.LineIndex.row_at.Goals as goal

pub rows_of-requires : goal.rows_of-requires
rows_of-requires c =
    let it = c.args.self.now in
    let a = c.args.address in
    let s = c.in_ok-sequence.sequence in
    let found : Some s ≡ find (has a) it.sequences.items =
    c.in_ok-sequence.ensures ∙ ap (find (has a)) c.deref.ensures.value in
    subst (λ (xs : List Row). IsSequence xs s) (sym c.deref-3.ensures.value)
    (found_all (has a) (IsSequence it.rows.items) it.sequences.items s found it.indexed.each)

pub row_up_to-requires : goal.row_up_to-requires
row_up_to-requires c =
    let it = c.args.self.now in
    let a = c.args.address in
    let s = c.in_ok-sequence.sequence in
    let found : Some s ≡ find (has a) it.sequences.items =
    c.in_ok-sequence.ensures ∙ ap (find (has a)) c.deref.ensures.value in
    subst (λ (xs : List Row). IsNonDecreasingBy (λ (r : Row). r.address) xs)
    (sym (c.rows_of.ensures ∙ ap (λ (xs : List Row). rows_of xs s) c.deref-3.ensures.value))
    (found_all (has a) (λ t. IsNonDecreasingBy (λ (r : Row). r.address) (rows_of it.rows.items t)) it.sequences.items s
    found it.indexed.rising)
