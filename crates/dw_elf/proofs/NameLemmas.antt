-- Names in the name table: where they can begin, and what the first bytes of one tell of it.
use Rattle.std.proofs.Common.{◌≡◌, ℕ, zero, suc, ◌+◌, ◌-◌, ◌<◌, ◌≤◌, ◌==◌, List, [], ◌∷◌, length, take, drop, refl, arith, rules, length-drop}
use Rattle.std.specs.List.{before_first}
use Rattle.std.proofs.lemmas.List.{get_or-drop, length-take, take-take, take_all}
use Rattle.std.proofs.lemmas.List.Sums.{position_or_len_is, passes_at_first}
use Rattle.std.proofs.lemmas.Grind.{common_steps}
use Rattle.std.proofs.lemmas.Bool.{cases_Bool, eqb-true, eq-eqb}
use Rattle.memchr.specs.Find.{Nowhere, NoneBefore, NoneAfter, Passes, is_byte}
use Rattle.dw_elf.specs.declared.sections.DebugSection.{DebugSection}
use Rattle.dw_elf.specs.declared.sections.OtherSection.{OtherSection}
use Rattle.dw_elf.specs.Elf.{HasText, string_at, IsAfterLastZero}
use Rattle.dw_elf.specs.Names.{name_of, other_name, IsWanted}
use Rattle.dw_elf.specs.Reading.{StandsFor}

-- no byte is zero
pub no_zero : (bytes : List ℕ) → Nowhere (Passes (is_byte 0) bytes) 0 (length bytes) → IsAfterLastZero bytes 0
no_zero bytes none = search (rules, eq-eqb)

-- the byte with this number is the last that is zero
pub last_zero : (bytes : List ℕ) (last : ℕ) → NoneAfter (Passes (is_byte 0) bytes) 0 (length bytes) last
    → Passes (is_byte 0) bytes last → IsAfterLastZero bytes (last + 1)
last_zero bytes last none here = search (rules, eqb-true, eq-eqb)

-- a text that begins before the end has a zero byte at its own end
pub has_text : (bytes : List ℕ) (end offset : ℕ) → IsAfterLastZero bytes end → offset < end → HasText bytes offset
has_text bytes end offset is lt = search (rules, (get_or-drop offset bytes (end - 1 - offset) 0), length-drop)

-- what is before a first zero byte
pub take_before_first : (xs : List ℕ) (k : ℕ) → NoneBefore (Passes (is_byte 0) xs) 0 (length xs) k
    → Passes (is_byte 0) xs k
    → take k xs ≡ before_first (λ b. b == 0) xs
take_before_first xs k none here = search (rules, position_or_len_is, cases_Bool)

-- all bytes where none is zero
pub all_before_first : (xs : List ℕ) → Nowhere (Passes (is_byte 0) xs) 0 (length xs)
    → xs ≡ before_first (λ b. b == 0) xs
all_before_first xs none = search (rules, (passes_at_first (λ b. b == 0) xs 0), take_all)

take_next : (k x : ℕ) (xs : List ℕ) → take (1 + k) (x ∷ xs) ≡ x ∷ take k xs
take_next k x xs = search (rules)

-- the text at the front of the first n bytes is as much of the text at the front of all
front_before_first : (n : ℕ) (xs : List ℕ)
    → before_first (λ b. b == 0) (take n xs) ≡ take n (before_first (λ b. b == 0) xs)
front_before_first zero xs = refl
front_before_first (suc n) [] = refl
front_before_first (suc n) (x ∷ xs) = search (rules, take_next, (front_before_first n xs))

-- each of the six names has at most 18 bytes
name_short : (s : DebugSection) → length (name_of s) ≤ 18
name_short s = grind (arith, common_steps)

-- each of the others has fewer
other_short : (s : OtherSection) → length (other_name s) ≤ 18
other_short s = grind (arith, common_steps)

-- so the first 19 bytes of a name stand for it
first_bytes_stand : (name : List ℕ) → StandsFor (take 19 name) name
first_bytes_stand name = search (rules, take-take, name_short, other_short, take_all, length-take)

-- the text at the front of the first 19 bytes stands for the text at the front of all
part_stands : (bytes front : List ℕ) (offset : ℕ) → front ≡ take 19 (drop offset bytes)
    → StandsFor (before_first (λ b. b == 0) front) (string_at bytes offset)
part_stands bytes front offset is =
    rw (is, front_before_first 19 (drop offset bytes))
    (first_bytes_stand (before_first (λ b. b == 0) (drop offset bytes)))

-- so what is before a zero byte among them does
pub cut_stands : (bytes front : List ℕ) (offset k : ℕ) → front ≡ take 19 (drop offset bytes)
    → NoneBefore (Passes (is_byte 0) front) 0 (length front) k → Passes (is_byte 0) front k
    → StandsFor (take k front) (string_at bytes offset)
cut_stands bytes front offset k is none here =
    rw (take_before_first front k none here) (part_stands bytes front offset is)

-- and they do themselves if no byte among them is zero
pub whole_stands : (bytes front : List ℕ) (offset : ℕ) → front ≡ take 19 (drop offset bytes)
    → Nowhere (Passes (is_byte 0) front) 0 (length front) → StandsFor front (string_at bytes offset)
whole_stands bytes front offset is none = rw (all_before_first front none) (part_stands bytes front offset is)

-- a part of a name that is none of the six says that the name is none
pub not_wanted : (part name : List ℕ) → StandsFor part name → ¬ IsWanted part → ¬ IsWanted name
not_wanted part name stands none = search rules
