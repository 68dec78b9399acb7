use Rattle.std.proofs.Common.{rules, ◌≡◌, length}
use Rattle.std.proofs.lemmas.List.{length-map}
use Rattle.dw_forms.specs.Chains.{items_of}
use Rattle.dw_forms.proofs.SuffixLaws.{specs_ends}
use Rattle.dw_entries.proofs.PassLaws.{left_on, left_rest, never_cut, passed_parts}
use Rattle.dw_entries.proofs.PlacedLaws.{rest_on}
use Rattle.dw_entries.proofs.values.Values.pass.Goals as goal

pub invariant_of-self : goal.invariant_of-self
invariant_of-self c =
    let v = c.args.self.now in
    let (before, ends) = c.requires in
    record {
      sized = v.sized;
      left =
          (left_on _ _ _ _ (specs_ends v.attributes _ before ends) v.bytes.now v.left _
          (c.in-Ok.ensures before ends)).0;
      rest =
          rest_on v.info.now v.bytes.now _ _ v.rest (passed_parts _ _ _
          _ (specs_ends v.attributes _ before ends) v.bytes.now v.left _ (c.in-Ok.ensures before ends));
    }

pub unreachable-requires : goal.unreachable-requires
unreachable-requires c =
    let v = c.args.self.now in
    let (before, ends) = c.requires in
    never_cut _ _ _ _ (specs_ends v.attributes _ before ends) v.bytes.now v.left _ (c.in-Err.ensures before ends)

pub returns-clause-left : goal.returns-clause-left
returns-clause-left c before ends =
    let v = c.args.self.now in
    let long : length before ≡ length (items_of before) = search (rules, length-map) in
    search (left_rest _ _ _ _ (specs_ends v.attributes _ before ends) v.bytes.now v.left (length before) long
    _ (c.in-Ok.ensures before ends))
