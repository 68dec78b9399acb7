use Rattle.std.proofs.Common.{List, arith, length, subst, sym}
use Rattle.std.specs.Prelude.{IsPermutation}
use Rattle.std.proofs.lemmas.List.{with_items_is}
use Rattle.std.proofs.lemmas.List.Sorted.{All-permutation, Contains-permutation}
use Rattle.dw_entries.specs.Views.{units_of}
use Rattle.dw_addresses.specs.Reading.{AllNamed, IsOne}
use Rattle.dw_addresses.specs.declared.named.Named.{Named}
use Rattle.dw_addresses.proofs.named.named_in_order.Goals as goal

pub returns-clause-named : goal.returns-clause-named
returns-clause-named c =
    let entries = c.args.entries.now in
    let found = c.in_ok-named.named.items in
    let ordered = c.order.new.named in
    let whole = with_items_is c.in_ok-named.named ordered
    (omega (arith, c.order.auto.named, c.as_mut_slice.ensures.len)) in
    let moved = subst (λ (xs : List Named). IsPermutation xs ordered) c.as_mut_slice.ensures.value
    c.order.ensures.permutation in
    subst (AllNamed entries (length (units_of entries))) (sym whole) (record {
      each = All-permutation (IsOne entries) found ordered moved c.in_ok-named.ensures.each;
      every = λ one within is. Contains-permutation found ordered one moved (c.in_ok-named.ensures.every one within is);
    })
