use Rattle.std.proofs.Common.{◌≡◌, ℕ, Bool, true, List, sym, ◌∙◌, length, arith}
use Rattle.std.specs.Prelude.{◌==◌, ◌&&◌, ◌||◌, bytes_eq, filter, nat_lt}
use Rattle.std.specs.List.{list_any}
use Rattle.std.proofs.lemmas.Bool.{eq-eqb}
use Rattle.std.proofs.lemmas.Bool.Decides.{nat_tests}
use Rattle.dw_cprint.specs.Legible.{is_keyword, keywords}
use Rattle.dw_cprint.proofs.NameLemmas.{by_length}
use Rattle.dw_cprint.proofs.words.is_keyword_text.Goals as goal

-- no keyword is so long
abbrev is_other_length : ℕ → Bool
is_other_length n = nat_lt n 2 || ((nat_lt 10 n && nat_lt n 13) || nat_lt 14 n)

-- a word of so many bytes is a keyword if it is one of those of so many
by_size : (n : ℕ) (word : List ℕ) (found : Bool) → length word ≡ n
    → found ≡ list_any (bytes_eq word) (filter (λ k. length k == n) keywords) → found ≡ is_keyword word
unfolding is_keyword
by_size n word found is seen = seen ∙ sym (by_length (λ m. m == n) word keywords (eq-eqb (length word) n is))

pub returns-in-2 : goal.returns-in-2
returns-in-2 c = by_size 2 _ _ c.in-2.is c.is_one_of.ensures

pub returns-in-3 : goal.returns-in-3
returns-in-3 c = by_size 3 _ _ c.in-3.is c.is_one_of-in-3.ensures

pub returns-in-4 : goal.returns-in-4
returns-in-4 c = by_size 4 _ _ c.in-4.is c.is_one_of-in-4.ensures

pub returns-in-5 : goal.returns-in-5
returns-in-5 c = by_size 5 _ _ c.in-5.is c.is_one_of-in-5.ensures

pub returns-in-6 : goal.returns-in-6
returns-in-6 c = by_size 6 _ _ c.in-6.is c.is_one_of-in-6.ensures

pub returns-in-7 : goal.returns-in-7
returns-in-7 c = by_size 7 _ _ c.in-7.is c.is_one_of-in-7.ensures

pub returns-in-8 : goal.returns-in-8
returns-in-8 c = by_size 8 _ _ c.in-8.is c.is_one_of-in-8.ensures

pub returns-in-9 : goal.returns-in-9
returns-in-9 c = by_size 9 _ _ c.in-9.is c.is_one_of-in-9.ensures

pub returns-in-10 : goal.returns-in-10
returns-in-10 c = by_size 10 _ _ c.in-10.is c.is_one_of-in-10.ensures

pub returns-in-13 : goal.returns-in-13
returns-in-13 c = by_size 13 _ _ c.in-13.is c.is_one_of-in-13.ensures

pub returns-in-14 : goal.returns-in-14
returns-in-14 c = by_size 14 _ _ c.in-14.is c.is_one_of-in-14.ensures

pub returns-in_default : goal.returns-in_default
unfolding is_keyword
returns-in_default c =
    let d = c.in_default in
    let other : is_other_length (length c.args.word.now) ≡ true = grind (arith, nat_tests) in
    sym (by_length is_other_length c.args.word.now keywords other)
