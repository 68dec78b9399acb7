use Rattle.dw_forms.specs.Places.{IsPlace}
use Rattle.dw_forms.proofs.Places.{stands_at, none_stands, find_place}
use Rattle.dw_forms.proofs.abbrev.AbbrevTable.place.Goals as goal

module _ (c : goal.After-copied) where
  is_place : IsPlace c.self.inside.decls.items c.args.code c.copied.result
  is_place = rw (c.copied.ensures, c.get.ensures.value) (c.self.invariant.places_are c.args.code)

pub returns-clause-found : goal.returns-clause-found
returns-clause-found c = rw (← c.self.view_is) (stands_at _ _ _ (is_place c))

pub returns-clause-none : goal.returns-clause-none
returns-clause-none c = rw (← c.self.view_is) (none_stands _ _ _ (is_place c))

pub returns-clause-exact : goal.returns-clause-exact
returns-clause-exact c = rw (← c.self.view_is) (find_place _ _ _ c.self.invariant.distinct (is_place c))
