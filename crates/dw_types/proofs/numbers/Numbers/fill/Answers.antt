use Rattle.std.proofs.Common.{rules, ◌≡◌, ◌+◌, ◌-◌, ◌<◌, ◌∷◌, ◌++◌, [], ℕ, List, arith, length, refl, replicate, suc, append_assoc}
use Rattle.std.proofs.lemmas.List.{length_push}
use Rattle.dw_types.proofs.numbers.Numbers.fill.Goals as goal

-- one number more, and one less to be added
added : (xs : List ℕ) (count number : ℕ) → length xs < count
    → (xs ++ number ∷ []) ++ replicate (count - length (xs ++ number ∷ [])) number
    ≡ xs ++ replicate (count - length xs) number
added xs count number below =
    let left : count - length xs ≡ suc (count - (length xs + 1)) = omega arith in
    rw (length_push xs number, append_assoc, left) refl

pub loop-self-preserved : goal.loop-self-preserved
loop-self-preserved c = search (rules, added, append_assoc)
