-- Chapter: what a writer has taken of the answers for the lines of standard input, by what is known of a sound file.
use Rattle.std.specs.Prelude.{◌≡◌, ℕ, Bool, List, [], take, Option}
use Rattle.std.specs.Io.KnownBytes.{Appends, Consumes}
use Rattle.dw_ranges.specs.Files.{IsIndexOf}
use Rattle.dw_ranges.specs.Functions.{Known as KnownUnit}
use Rattle.dw_lookup.specs.declared.known.Known.{Known}
use Rattle.dwv_addr.specs.Addresses.{asked_by, asked_so_far, ended_lines}
use Rattle.dwv_addr.specs.Located.{AreAnswers}

module _ (json : Bool) (known : Known) where
  -- the text is the answers for addresses, by the units that the functions are indexed by
  abbrev pub AreAnswersOf : List (Option ℕ) → List ℕ → Type 0
  AreAnswersOf asked text =
      (units : List KnownUnit) → IsIndexOf units known.functions → AreAnswers json known units asked text

  -- a writer whose known bytes were `old` and are `new` has taken the answers
  abbrev pub TakesAnswers : List (Option ℕ) → (old new : Option (List ℕ)) → Type 0
  TakesAnswers asked old new = (text : List ℕ) × Appends old new text × AreAnswersOf asked text

  -- it has taken a prefix of them
  abbrev pub TakesSome : List (Option ℕ) → (old new : Option (List ℕ)) → Type 0
  TakesSome asked old new = (text : List ℕ) × (n : ℕ) × Appends old new (take n text) × AreAnswersOf asked text

  -- it has taken a prefix of the answers for the first lines of an input
  abbrev pub TakesFirst : (old new : Option (List ℕ)) → List ℕ → Type 0
  TakesFirst old new input = (count : ℕ) × TakesSome (take count (asked_by input)) old new

  -- an input, which may be known, was read up to `rest`, and a writer has taken the answers for the lines that end in
  -- what was read. Nothing was written if none does
  pub record HasTaken {W : Type 0} (contents : W → Option (List ℕ)) (input rest : Option (List ℕ)) (old new : W)
      : Type 0 where
    pub part : List ℕ
    pub read : Consumes input rest part
    pub taken : TakesAnswers (asked_so_far part) (contents old) (contents new)
    pub unbegun : ended_lines part ≡ [] → new ≡ old
