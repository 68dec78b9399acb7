-- Sizes and products that are capped at a limit, and the product of an array's counts, found child by child.
use Rattle.std.proofs.Common.{rules, ◌≡◌, ℕ, ◌*◌, ◌<◌, ◌≤◌, min, Some, None, arith, refl, ap, suc, zero, ◌^◌}
use Rattle.std.proofs.lemmas.Bool.{cases_lt}
use Rattle.std.proofs.Math.Nat.{mul-le-mul_left, mul_comm, mul_assoc}
use Rattle.dw_types.specs.SizeTables.{Size, cap_size}
use Rattle.dw_types.specs.Sizes.{times}

-- a capped size below the limit is the size itself
pub uncapped : (limit : ℕ) (found size : Size) → found ≡ cap_size limit size → ((n : ℕ) → found ≡ Some n → n < limit)
    → found ≡ size
uncapped limit found None is small = is
uncapped limit found (Some n) is small = search rules

-- from the limit on the product is the same
great-product : (limit a b : ℕ) → limit ≤ a → min limit (a * b) ≡ min limit (limit * b)
great-product limit a zero great = omega arith
great-product limit a (suc b) great = search (rules, mul-le-mul_left, mul_comm)

-- a product that is capped may take capped factors
pub cap-product : (limit a b : ℕ) → min limit (a * b) ≡ min limit (min limit a * b)
cap-product limit a b = search (rules, cases_lt, great-product)

-- a capped product takes a capped factor
pub cap-right : (a b : Size) → cap_size (2 ^ 63) (times a (cap_size (2 ^ 63) b)) ≡ cap_size (2 ^ 63) (times a b)
cap-right None b = refl
cap-right (Some a) None = refl
cap-right (Some a) (Some b) = search (rules, cap-product, mul_comm)

cap-left : (a b : Size) → cap_size (2 ^ 63) (times (cap_size (2 ^ 63) a) b) ≡ cap_size (2 ^ 63) (times a b)
cap-left None b = refl
cap-left (Some a) None = refl
cap-left (Some a) (Some b) = search (rules, cap-product)

times-assoc : (a b c : Size) → times (times a b) c ≡ times a (times b c)
times-assoc None b c = refl
times-assoc (Some a) None c = refl
times-assoc (Some a) (Some b) None = refl
times-assoc (Some a) (Some b) (Some c) = ap Some (mul_assoc a b c)

pub one-times : (a : Size) → times (Some 1) a ≡ a
one-times None = refl
one-times (Some a) = ap Some (omega arith)

pub cap-twice : (limit : ℕ) (size : Size) → cap_size limit (cap_size limit size) ≡ cap_size limit size
cap-twice limit None = refl
cap-twice limit (Some n) = ap Some (omega arith)

-- the product of all, with one factor more taken into a capped product of the first
pub cap-next : (product factor rest : Size)
    → cap_size (2 ^ 63) (times (cap_size (2 ^ 63) (times product (cap_size (2 ^ 63) factor))) rest)
    ≡ cap_size (2 ^ 63) (times product (times factor rest))
cap-next product factor rest = search (rules, cap-left, times-assoc, cap-right)
