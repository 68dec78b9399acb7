-- State: a number or none, stored in four bytes.
use Rattle.std.proofs.Common.{ap, sym, ◌≡◌, ℕ, true, false, ◌==◌, Option, Some, None, if◌then◌else◌, refl}
use Rattle.std.proofs.lemmas.Bool.{eqb-true}
use Rattle.dw_entries.specs.declared.id.OptionalId.TheInside.{Inside}

-- the greatest number means none
abbrev pub option_of : ℕ → Option ℕ
option_of n = if n == 0xffffffff then None else Some n

-- the number that encodes it
abbrev pub encoded : Option ℕ → ℕ
encoded None = 0xffffffff
encoded (Some n) = n

number_of-option_of : (n : ℕ) → encoded (option_of n) ≡ n
number_of-option_of n = elim (n == 0xffffffff) as
    (λ b. b ≡ (n == 0xffffffff) → encoded (if b then None else Some n) ≡ n) [
      | true ↦ λ e. sym (eqb-true n 0xffffffff (sym e))
      | false ↦ λ e. refl
    ] refl

-- the stored form of this number
abbrev inside : ℕ → Inside
inside n = record { number = n }

-- the number comes back
pub back : (i : Inside) → inside (encoded (option_of i.number)) ≡ i
back i = ap inside (number_of-option_of i.number)
