use Rattle.std.proofs.Common.{rules, ◌≡◌, length}
use Rattle.dw_cprint.specs.Steps.{entries_among}
use Rattle.dw_cprint.proofs.RootLemmas.{found-roots}
use Rattle.dw_cprint.proofs.reaching.find_roots.Goals as goal

pub returns-clause-found : goal.returns-clause-found
returns-clause-found c =
    let roots = entries_among c.args.types.now in
    let long : length c.args.places.now.items ≡ length c.deref.result.now = search rules in
    found-roots roots c.deref.result.now c.find_marked.new.places.items c.find_marked.new.found
    (rw c.deref.ensures.value c.in_ok-marks.ensures.marks) (rw long at c.requires.within)
    c.in_ok-find_marked.ensures.found
