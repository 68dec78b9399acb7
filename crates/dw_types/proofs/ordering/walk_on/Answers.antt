use Rattle.std.proofs.Common.{◌≡◌, ◌-◌, ◌^◌, ◌<◌, ◌∙◌, ap, arith, refl, sym}
use Rattle.dw_types.specs.WalkStates.{Kept, mark_in, ranked, turned, with_hand}
use Rattle.dw_types.proofs.HandLemmas.{goes-fresh, goes-open, goes-ranked, hand-in, hand-within, keeps-on, keeps-ranked, looks-after, looks-within, on-coherent}
use Rattle.dw_types.proofs.WalkLemmas.{turns-room}
use Rattle.dw_types.proofs.ordering.walk_on.Goals as goal

pub loop-at-init : goal.loop-at-init
loop-at-init g c = (c.requires, (λ a fresh. fresh), refl, (omega arith, λ k below. refl))

pub look_on-looked-requires-clause-node : goal.look_on-looked-requires-clause-node
look_on-looked-requires-clause-node g c =
    let hand = c.in-Some.hand in
    hand-in (g.G.StepGraph.graph c.args.graph.now) c.loop-at.walk hand.node hand.looked
    (rw c.in-Some.is at c.loop-at.invariant.0)

pub look_on-looked-requires-clause-from : goal.look_on-looked-requires-clause-from
look_on-looked-requires-clause-from g c =
    let hand = c.in-Some.hand in
    hand-within (g.G.StepGraph.graph c.args.graph.now) c.loop-at.walk hand.node hand.looked
    (rw c.in-Some.is at c.loop-at.invariant.0)

pub overflow_sub-looked : goal.overflow_sub-looked
overflow_sub-looked g c =
    let graph = g.G.StepGraph.graph c.args.graph.now in
    let hand = c.in-Some.hand in
    let within = hand-within graph c.loop-at.walk hand.node hand.looked (rw c.in-Some.is at c.loop-at.invariant.0) in
    looks-after graph c.loop-at.walk.marks hand.node hand.looked c.look_on-looked.result.0 c.look_on-looked.result.1
    within c.look_on-looked.ensures

pub count-requires : goal.count-requires
count-requires g c =
    let graph = g.G.StepGraph.graph c.args.graph.now in
    let it = c.loop-at.walk in
    let hand = c.in-Some.hand in
    let looked = c.look_on-looked.result.0 in
    let kept = rw c.in-Some.is at c.loop-at.invariant.0 in
    let small : looked < 2 ^ 64 = (let fits = c.look_on-looked.type_inv in omega arith) in
    let after = looks-after graph it.marks hand.node hand.looked looked c.look_on-looked.result.1
    (hand-within graph it hand.node hand.looked kept) c.look_on-looked.ensures in
    let within = looks-within graph it.marks hand.node hand.looked looked c.look_on-looked.result.1
    c.look_on-looked.ensures in
    let room = turns-room graph _ (on-coherent graph it hand.node hand.looked kept looked after within small) in
    omega arith

pub rank-requires : goal.rank-requires
rank-requires g c =
    let hand = c.in-Some.hand in
    let kept = rw c.in-Some.is at c.loop-at.invariant.0 in
    let inside = hand-in (g.G.StepGraph.graph c.args.graph.now) c.loop-at.walk hand.node hand.looked kept in
    let long = kept.walk.coherent.places.marks in
    rw c.count.ensures (omega arith)

pub take_up-requires-clause-room : goal.take_up-requires-clause-room
take_up-requires-clause-room g c =
    let graph = g.G.StepGraph.graph c.args.graph.now in
    let it = c.loop-at.walk in
    let hand = c.in-Some.hand in
    let looked = c.look_on-looked.result.0 in
    let kept = rw c.in-Some.is at c.loop-at.invariant.0 in
    let small : looked < 2 ^ 64 = (let fits = c.look_on-looked.type_inv in omega arith) in
    let after = looks-after graph it.marks hand.node hand.looked looked c.look_on-looked.result.1
    (hand-within graph it hand.node hand.looked kept) c.look_on-looked.ensures in
    let within = looks-within graph it.marks hand.node hand.looked looked c.look_on-looked.result.1
    c.look_on-looked.ensures in
    let room = turns-room graph _ (on-coherent graph it hand.node hand.looked kept looked after within small) in
    rw (c.in_ok-push-in-Some-other.ensures, c.count.ensures) (omega arith)

pub returns-in_default-mark : goal.returns-in_default-mark
returns-in_default-mark g c =
    let graph = g.G.StepGraph.graph c.args.graph.now in
    let it = c.loop-at.walk in
    let hand = c.in-Some.hand in
    let looked = c.look_on-looked.result.0 in
    let small : looked < 2 ^ 64 = (let fits = c.look_on-looked.type_inv in omega arith) in
    let looks = rw c.in-Some-other.is at c.look_on-looked.ensures in
    let same : c.push.new.self ≡ with_hand (turned it (looked - hand.looked)) hand.node looked =
    c.in_ok-push-in-Some-other.ensures ∙ ap (λ (kept : Kept). with_hand kept hand.node looked) c.count.ensures in
    let mark : c.mark.result ≡ mark_in it.marks c.in-Some-other.to = rw same at c.mark.ensures in
    rw same record {
      comes =
          goes-open graph it hand looked small (rw c.in-Some.is at c.loop-at.invariant.0) c.in-Some-other.to looks
          (λ fresh. c.in_default-mark.not-Fresh (mark ∙ fresh));
      taken = c.loop-at.invariant.1;
      gave_up = c.loop-at.invariant.2;
      ranks = c.loop-at.invariant.3;
    }

pub loop-at-preserved-in_ok-rank-in-None : goal.loop-at-preserved-in_ok-rank-in-None
loop-at-preserved-in_ok-rank-in-None g c =
    let graph = g.G.StepGraph.graph c.args.graph.now in
    let it = c.loop-at.walk in
    let hand = c.in-Some.hand in
    let looked = c.look_on-looked.result.0 in
    let small : looked < 2 ^ 64 = (let fits = c.look_on-looked.type_inv in omega arith) in
    let looks = rw c.in-None.is at c.look_on-looked.ensures in
    let same : c.rank.new.self ≡ ranked (turned it (looked - hand.looked)) hand.node = c.in_ok-rank-in-None.ensures
    ∙ ap (λ (kept : Kept). ranked kept hand.node) c.count.ensures in
    let popped = rw same at c.pop-at.ensures in
    let on = goes-ranked graph it hand looked small (rw c.in-Some.is at c.loop-at.invariant.0) c.pop-at.new.self
    c.pop-at.result looks popped in (
      on.kept,
      (λ a fresh. c.loop-at.invariant.1 a (on.taken a fresh)),
      on.gave_up ∙ c.loop-at.invariant.2,
      keeps-on c.args.walk.now.by_rank it.by_rank c.pop-at.new.self.by_rank c.loop-at.invariant.3
          (keeps-ranked (turned it (looked - hand.looked)) hand.node c.pop-at.new.self c.pop-at.result popped),
    )

pub loop-at-smaller : goal.loop-at-smaller
loop-at-smaller g c =
    let graph = g.G.StepGraph.graph c.args.graph.now in
    let it = c.loop-at.walk in
    let hand = c.in-Some.hand in
    let looked = c.look_on-looked.result.0 in
    let small : looked < 2 ^ 64 = (let fits = c.look_on-looked.type_inv in omega arith) in
    let looks = rw c.in-Some-other.is at c.look_on-looked.ensures in
    let same : c.push.new.self ≡ with_hand (turned it (looked - hand.looked)) hand.node looked =
    c.in_ok-push-in-Some-other.ensures ∙ ap (λ (kept : Kept). with_hand kept hand.node looked) c.count.ensures in
    let mark : c.mark.result ≡ mark_in it.marks c.in-Some-other.to = rw same at c.mark.ensures in
    let on = goes-fresh graph it hand looked small (rw c.in-Some.is at c.loop-at.invariant.0) c.in-Some-other.to looks
    (g.met.G.StepGraph.leads_to_nodes c.args.graph.now) (sym mark ∙ c.in-Fresh.is) in
    rw (c.in-Some.is, c.take_up.ensures.state, same) on.less

pub loop-at-preserved : goal.loop-at-preserved
loop-at-preserved g c =
    let graph = g.G.StepGraph.graph c.args.graph.now in
    let it = c.loop-at.walk in
    let hand = c.in-Some.hand in
    let looked = c.look_on-looked.result.0 in
    let small : looked < 2 ^ 64 = (let fits = c.look_on-looked.type_inv in omega arith) in
    let looks = rw c.in-Some-other.is at c.look_on-looked.ensures in
    let same : c.push.new.self ≡ with_hand (turned it (looked - hand.looked)) hand.node looked =
    c.in_ok-push-in-Some-other.ensures ∙ ap (λ (kept : Kept). with_hand kept hand.node looked) c.count.ensures in
    let mark : c.mark.result ≡ mark_in it.marks c.in-Some-other.to = rw same at c.mark.ensures in
    let on = goes-fresh graph it hand looked small (rw c.in-Some.is at c.loop-at.invariant.0) c.in-Some-other.to looks
    (g.met.G.StepGraph.leads_to_nodes c.args.graph.now) (sym mark ∙ c.in-Fresh.is) in
    rw (c.take_up.ensures.state, c.take_up.ensures.hand, same)
    (on.kept, (λ a fresh. c.loop-at.invariant.1 a (on.taken a fresh)), c.loop-at.invariant.2, c.loop-at.invariant.3)
