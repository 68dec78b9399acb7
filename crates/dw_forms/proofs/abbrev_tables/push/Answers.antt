use Rattle.std.proofs.Common.{◌≡◌, ℕ, length, rules, subst, arith}
use Rattle.std.proofs.lemmas.List.Elements.{All-push}
use Rattle.dw_forms.specs.declared.decl.KeptDecl.{KeptDecl}
use Rattle.dw_forms.specs.DeclaredLists.{HasList, HavePlaces}
use Rattle.dw_forms.specs.AttributeLists.{numbered_in}
use Rattle.dw_forms.specs.Labels.{HasLabel}
use Rattle.dw_forms.proofs.KeptLaws.{links_long, labels_stay, coded_stay, labelled_is, none_code, some_code, coded_more, tables_long, tables_more}
use Rattle.dw_forms.proofs.PlaceTurns.{all_places_stay}
use Rattle.dw_forms.proofs.abbrev_tables.push.Goals as goal

pub push-requires-clause-rest : goal.push-requires-clause-rest
push-requires-clause-rest c =
    let long = links_long c.args.codes.now.links.items c.args.labels.now.long c.args.kept.now.items
    c.requires.kept.coded in
    omega (arith, c.requires.rest)

pub push-requires-clause-few : goal.push-requires-clause-few
push-requires-clause-few c =
    let long = links_long c.args.codes.now.links.items c.args.labels.now.long c.args.kept.now.items
    c.requires.kept.coded in
    omega (arith, c.requires.few)

pub returns-in_default-clause-kept : goal.returns-in_default-clause-kept
returns-in_default-clause-kept c =
    let links = c.args.codes.now.links.items in
    let old = c.args.labels.now.long in
    let new = c.enter.new.self.long in
    let kept = c.args.kept.now.items in
    let stay = c.in_ok-label.ensures.stay in
    let same = (rw c.in_default.is at c.in_ok-number.ensures.added).1 in
    rw (c.reserve.ensures.items, same) (record {
      coded = coded_stay links old new kept stay c.requires.kept.labelled c.requires.kept.coded;
      labelled = labels_stay old new kept stay c.requires.kept.labelled;
      within = c.requires.kept.within;
      placed = c.requires.kept.placed;
    })

pub returns-in_default-clause-added : goal.returns-in_default-clause-added
returns-in_default-clause-added c = search (rules, labelled_is, some_code)

pub returns-clause-added : goal.returns-clause-added
returns-clause-added c = search (rules, labelled_is, links_long, tables_long, none_code, tables_more)

pub returns-clause-kept : goal.returns-clause-kept
returns-clause-kept c =
    let list = numbered_in c.args.lists.now.nodes.items c.args.decl.first in
    let links = c.args.codes.now.links.items in
    let kept = c.args.kept.now.items in
    let old = c.args.labels.now.long in
    let new = c.enter.new.self.long in
    let stay = c.in_ok-label.ensures.stay in
    let first : length c.args.places.now.items ≡ c.len-first_place.result = search rules in
    rw (c.push_reserved.ensures.items, c.reserve.ensures.items) (record {
      coded =
          coded_more links c.push.new.self.links.items new kept _
          (coded_stay links old new kept stay c.requires.kept.labelled c.requires.kept.coded)
          (rw c.in_ok-label.ensures.label at (rw c.in-Some.is at c.in_ok-number.ensures.added).2);
      labelled =
          All-push (λ (k : KeptDecl). HasLabel new k.code) kept _
          (labels_stay old new kept stay c.requires.kept.labelled) c.in_ok-label.ensures.has;
      within =
          All-push (λ (k : KeptDecl). HasList c.args.lists.now.nodes.items k.first k.step k.bits k.declared k.whole)
          c.args.kept.now.items _ c.requires.kept.within c.requires.list;
      placed =
          All-push (λ (k : KeptDecl). HavePlaces (numbered_in c.args.lists.now.nodes.items k.first) k.bits k.first_place
          c.push_places.new.places.items) c.args.kept.now.items _
          (all_places_stay c.args.lists.now.nodes.items c.args.kept.now.items c.args.places.now.items
          c.push_places.new.places.items c.in_ok-push_places.ensures.stay c.requires.kept.placed)
          (subst (λ (n : ℕ). HavePlaces list c.args.decl.bits n c.push_places.new.places.items) first
          (rw (c.new.ensures.lists, c.new.ensures.first) at c.in_ok-push_places.ensures.places));
    })
