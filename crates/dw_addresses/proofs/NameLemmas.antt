-- The name of an entry, by those that it stands for.
use Rattle.std.proofs.Common.{◌≡◌, ℕ, suc, ◌+◌, ◌-◌, ◌<◌, List, Some, None, refl, ap, ◌∙◌, arith}
use Rattle.std.specs.Prelude.{option_and_then}
use Rattle.std.specs.Option.{option_or}
use Rattle.dw_entries.specs.declared.entries.Entries.{Entries}
use Rattle.dw_addresses.specs.Names.{most_origins, name_above, origin_of, text_in}

pub most_is : most_origins ≡ 64
unfolding most_origins
most_is = refl

module _ (entries : Entries) (attribute most k id at : ℕ) (below : k < most)
    (is : name_above entries attribute most id ≡ name_above entries attribute (most - k) at) where
  -- what the next one says
  next_is : name_above entries attribute most id
      ≡ option_or (text_in entries attribute at)
      (option_and_then (name_above entries attribute (most - (k + 1))) (origin_of entries at))
  next_is =
      let more : most - k ≡ suc (most - (k + 1)) = omega arith in
      is ∙ ap (λ (n : ℕ). name_above entries attribute n at) more

  -- it has a text
  pub here : (text : List ℕ) → text_in entries attribute at ≡ Some text
      → name_above entries attribute most id ≡ Some text
  here text e =
      next_is
      ∙ ap (λ o. option_or o (option_and_then (name_above entries attribute (most - (k + 1))) (origin_of entries at))) e

  -- it has none
  pub further : text_in entries attribute at ≡ None
      → name_above entries attribute most id
      ≡ option_and_then (name_above entries attribute (most - (k + 1))) (origin_of entries at)
  further e =
      next_is
      ∙ ap (λ o. option_or o (option_and_then (name_above entries attribute (most - (k + 1))) (origin_of entries at))) e
