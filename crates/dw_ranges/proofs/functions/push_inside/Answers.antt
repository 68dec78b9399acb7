use Rattle.std.proofs.Common.{arith}
use Rattle.dw_ranges.proofs.FunctionLemmas.{scopes_pushed, inside_pushed}
use Rattle.dw_ranges.proofs.functions.push_inside.Goals as goal

pub returns-clause-inside : goal.returns-clause-inside
returns-clause-inside c =
    inside_pushed c.args.known.now.areas.items c.extend_from_slice.new.self.items c.args.areas.now
    c.args.known.now.inside.items c.push.new.self.items c.args.group c.len-first.result c.len-end.result
    c.requires.inside c.in_ok-extend_from_slice.ensures.items c.in_ok-push.ensures.items
    (omega (arith, c.args.known.now.areas.ok.0)) (omega (arith, c.extend_from_slice.new.self.ok.0)) c.requires.areas

pub returns-clause-scopes : goal.returns-clause-scopes
returns-clause-scopes c =
    scopes_pushed c.args.known.now.areas.items c.extend_from_slice.new.self.items c.args.areas.now
    c.args.known.now.inside.items c.push.new.self.items c.args.group c.len-first.result c.len-end.result
    c.requires.inside c.in_ok-extend_from_slice.ensures.items c.in_ok-push.ensures.items
    (omega (arith, c.args.known.now.areas.ok.0)) (omega (arith, c.extend_from_slice.new.self.ok.0))
