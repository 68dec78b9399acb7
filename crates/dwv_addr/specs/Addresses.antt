-- Chapter: the addresses that are looked up, as words of the command line and lines of standard input.
use Rattle.std.specs.Prelude.{◌≡◌, ℕ, ◌==◌, nat_lt, Bool, List, [], ◌∷◌, ◌++◌, codes, drop, length, map, take}
use Rattle.std.specs.Prelude.{Option, None, Some, if◌then◌else◌}
use Rattle.std.specs.Char.{digit_value}
use Rattle.std.specs.List.{list_all}
use Rattle.std.specs.Str.{bytes_eq}
use Rattle.std.specs.Str.Parse.{digits_value}

-- the digits of a word: all of it, or what follows `0x`
abbrev pub digits_in : List ℕ → List ℕ
digits_in word = if bytes_eq (take 2 word) (codes "0x") then drop 2 word else word

-- each byte is a hexadecimal digit, of either case
abbrev pub are_digits : List ℕ → Bool
are_digits = list_all (λ b. nat_lt (digit_value b) 16)

-- the number that some hexadecimal digits write, if they are nothing else
abbrev pub number_in : List ℕ → Option ℕ
number_in digits = if are_digits digits then Some (digits_value 16 digits) else None

-- the address that a word is: 1 to 16 hexadecimal digits, with or without `0x` before them
unfoldable pub address_in : List ℕ → Option ℕ
address_in word =
    let digits = digits_in word in
    if length digits == 0 then None else if nat_lt 16 (length digits) then None else number_in digits

-- a byte at the front of the first of some lines
abbrev pub led_by : ℕ → List (List ℕ) → List (List ℕ)
led_by b [] = (b ∷ []) ∷ []
led_by b (line ∷ lines) = (b ∷ line) ∷ lines

-- the lines of a text, without their line feeds. Bytes after the last line feed are a line too
abbrev pub lines_of : List ℕ → List (List ℕ)
lines_of [] = []
lines_of (b ∷ text) = if b == 10 then [] ∷ lines_of text else led_by b (lines_of text)

-- a byte at the front of the first of some lines, if there is one
abbrev pub ended_by : ℕ → List (List ℕ) → List (List ℕ)
ended_by b [] = []
ended_by b (line ∷ lines) = (b ∷ line) ∷ lines

-- the lines of a text that end in it, each without its line feed
abbrev pub ended_lines : List ℕ → List (List ℕ)
ended_lines [] = []
ended_lines (b ∷ text) = if b == 10 then [] ∷ ended_lines text else ended_by b (ended_lines text)

-- after the lines that end in a text these bytes have started a line: what follows the text follows them
pub record HasStarted (text started : List ℕ) : Type 0 where
  pub lines : (more : List ℕ) → lines_of (text ++ more) ≡ ended_lines text ++ lines_of (started ++ more)
  pub ended : (more : List ℕ) → ended_lines (text ++ more) ≡ ended_lines text ++ ended_lines (started ++ more)

-- the addresses that the lines of a text are, and that some are none
abbrev pub asked_by : List ℕ → List (Option ℕ)
asked_by text = map address_in (lines_of text)

-- the same for the lines that end in it
abbrev pub asked_so_far : List ℕ → List (Option ℕ)
asked_so_far text = map address_in (ended_lines text)
