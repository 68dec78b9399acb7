use Rattle.std.proofs.Common.{rules, ◌≡◌, suc, ◌+◌, ◌++◌, ◌∷◌, [], List, length, ap, sym, ◌∙◌, arith}
use Rattle.dw_forms.specs.Abbrev.{attribute_of}
use Rattle.dw_forms.specs.AttributeLists.{numbered_in, Node}
use Rattle.dw_forms.proofs.NodeLaws.{few_more, known_push}
use Rattle.dw_forms.proofs.attribute_lists.AttributeLists.push.Goals as goal

pub node_before-node-requires-clause-few : goal.node_before-node-requires-clause-few
node_before-node-requires-clause-few c =
    let a = c.args.self.now in
    few_more a.nodes.items c.args.spec c.args.rest c.node-next.result a.known c.requires.rest c.requires.code
    (sym c.has.ensures ∙ c.if-has.false) c.node-next.ensures.knows

pub node_before-node-requires-clause-addresses : goal.node_before-node-requires-clause-addresses
node_before-node-requires-clause-addresses c =
    let count = c.node-next.ensures.knows.count in
    let few = c.node-next.ensures.knows.addresses in
    omega arith

pub invariant_of-self-2 : goal.invariant_of-self-2
invariant_of-self-2 c =
    let a = c.args.self.now in
    let n = c.node_before-node.result in
    let made = c.node_before-node.ensures in
    let number : c.len.result + 1 ≡ suc (length a.nodes.items) = search rules in
    let new : c.push_reserved.new.self.items
    ≡ a.nodes.items ++ n ∷ [] = c.push_reserved.ensures.items
    ∙ ap (λ (xs : List Node). xs ++ n ∷ []) c.reserve.ensures.items in
    let more = c.in_ok-branches.ensures.more n (record {
      attribute_is = ap attribute_of made.spec;
      next_is = made.next;
      count_is = made.count;
      branches_are = made.branches;
      places_are = made.places;
    }) in
    record {
      known =
          rw new (known_push a.nodes.items n c.args.spec c.args.rest (c.len.result + 1) made.spec made.next number
          a.known c.requires.rest c.requires.code (sym c.has.ensures ∙ c.if-has.false)
          (made.knows (numbered_in a.nodes.items c.args.rest) c.node-next.ensures.knows)
          (rw made.after c.step-after.ensures.step));
      found = rw new (rw c.reserve.ensures.items at more);
    }
