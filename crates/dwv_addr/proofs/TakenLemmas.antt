-- The answers that a writer has taken, one part after another.
use Rattle.std.proofs.Common.{◌≡◌, ℕ, ◌+◌, Bool, true, List, [], ◌++◌, length, take, Option, Some, None, IfSome, refl, sym, ap, ap₂, ◌∙◌, append-nil, subst}
use Rattle.std.specs.Prelude.{◌&&◌}
use Rattle.std.specs.List.{list_all}
use Rattle.std.specs.Option.{is_some}
use Rattle.std.specs.Io.KnownBytes.{Appends, Consumes, IsAtEnd}
use Rattle.std.proofs.KnownBytes.{Appends-nil, Appends-trans, Consumes-nil, Consumes-trans, Consumes-whole}
use Rattle.std.proofs.lemmas.List.Folds.{list_all-append}
use Rattle.std.proofs.Math.Seq.{take-append-add, take-length}
use Rattle.dw_lookup.specs.declared.known.Known.{Known}
use Rattle.dwv_addr.specs.Addresses.{HasStarted, asked_by, asked_so_far, ended_lines}
use Rattle.dwv_addr.specs.Streams.{HasTaken, TakesAnswers, TakesFirst, TakesSome}
use Rattle.dwv_addr.proofs.LocatedLemmas.{answers_append}
use Rattle.dwv_addr.proofs.StreamLemmas.{asked_first, asked_more, asked_whole, none_in_both, started_more, started_whole}

-- at the end of an input a read returns nothing more
pub read_end : (input mid rest : Option (List ℕ)) (part chunk : List ℕ) (n : ℕ) → n ≡ 0 → Consumes input mid part
    → Consumes mid rest (take n chunk) → Consumes input rest part
read_end input mid rest part chunk n zero read last =
    subst (Consumes input rest) (ap (λ k. part ++ take k chunk) zero ∙ append-nil part)
    (Consumes-trans input mid rest part (take n chunk) read last)

module _ (json : Bool) (known : Known) where
  -- the answers for no address
  pub takes_none : (old : Option (List ℕ)) → TakesAnswers json known [] old old
  takes_none old = ([], Appends-nil old, λ units index. refl)

  -- the answers for some addresses, and then for others
  pub takes_more : (asked others : List (Option ℕ)) (old mid new : Option (List ℕ))
      → TakesAnswers json known asked old mid → TakesAnswers json known others mid new
      → TakesAnswers json known (asked ++ others) old new
  takes_more asked others old mid new (text, taken, are) (more, also, they) = (
    text ++ more,
    Appends-trans old mid new text more taken also,
    λ units index.
        answers_append json known units asked others text more (are units index) (they units index),
  )

  -- the answers for some addresses, and then a prefix of those for others
  pub takes_some : (asked others : List (Option ℕ)) (old mid new : Option (List ℕ))
      → TakesAnswers json known asked old mid → TakesSome json known others mid new
      → TakesSome json known (asked ++ others) old new
  takes_some asked others old mid new (text, taken, are) (more, n, also, they) = (
    text ++ more,
    length text + n,
    subst (Appends old new) (sym (take-append-add text more n))
        (Appends-trans old mid new text (take n more) taken also),
    λ units index.
        answers_append json known units asked others text more (are units index) (they units index),
  )

  -- the lines that end in what was read of an input are its first lines
  pub takes_first : (input rest : Option (List ℕ)) (part : List ℕ) (old new : Option (List ℕ))
      → Consumes input rest part → TakesSome json known (asked_so_far part) old new
      → IfSome input (TakesFirst json known old new)
  takes_first None rest part old new read some = tt
  takes_first (Some text) None part old new read some = absurd read
  takes_first (Some text) (Some rest) part old new read some =
      let count = length (asked_so_far part) in
      let same = ap (λ (t : List ℕ). take count (asked_by t)) read ∙ asked_first part rest in
      (count, subst (λ asked. TakesSome json known asked old new) (sym same) some)

  -- all lines are the first lines
  pub takes_all : (part : List ℕ) (old new : Option (List ℕ)) → TakesSome json known (asked_by part) old new
      → TakesFirst json known old new part
  takes_all part old new some =
      let same = take-length (asked_by part) in
      (length (asked_by part), subst (λ asked. TakesSome json known asked old new) (sym same) some)

module _ {W : Type 0} (json : Bool) (known : Known) (contents : W → Option (List ℕ)) where
  -- what was read of an input was answered, but for the start of a line, and `are` is whether each line is an address
  abbrev pub IsAnswering : (input rest : Option (List ℕ)) → (old new : W) → (started : List ℕ) → (are : Bool) → Type 0
  IsAnswering input rest old new started are = (has : HasTaken json known contents input rest old new)
      × HasStarted has.part started × (are ≡ list_all is_some (asked_so_far has.part))

  -- before the first read
  pub answering_first : (input : Option (List ℕ)) (old : W) (started : List ℕ) → started ≡ []
      → IsAnswering input input old old started true
  answering_first input old started none = (
    record {
      part = [];
      read = Consumes-nil input;
      taken = takes_none json known (contents old);
      unbegun = λ _. refl;
    },
    subst (HasStarted []) (sym none) (started_whole [] refl),
    refl,
  )

  -- a piece more
  pub answering_more : (input mid rest : Option (List ℕ)) (old was new : W) (started piece next : List ℕ)
      (are they : Bool) → IsAnswering input mid old was started are → Consumes mid rest piece
      → TakesAnswers json known (asked_so_far (started ++ piece)) (contents was) (contents new)
      → (ended_lines (started ++ piece) ≡ [] → new ≡ was) → HasStarted (started ++ piece) next
      → they ≡ list_all is_some (asked_so_far (started ++ piece))
      → IsAnswering input rest old new next (are && they)
  answering_more input mid rest old was new started piece next are they (has, line, all) read taken same left more =
      let asked = asked_more has.part started piece line in (
        record {
          part = has.part ++ piece;
          read = Consumes-trans input mid rest has.part piece has.read read;
          taken = subst (λ asked. TakesAnswers json known asked (contents old) (contents new)) (sym asked)
              (takes_more json known (asked_so_far has.part) (asked_so_far (started ++ piece)) (contents old)
              (contents was) (contents new) has.taken taken);
          unbegun = λ none.
              let (before, after) = none_in_both has.part started piece line none in same after ∙ has.unbegun before;
        },
        started_more has.part started piece next line left,
        ap₂ (λ (a b : Bool). a && b) all more
            ∙ sym (list_all-append is_some (asked_so_far has.part) (asked_so_far (started ++ piece)))
            ∙ ap (list_all is_some) (sym asked),
      )

  -- a prefix of the answers for the lines that end in a piece more
  pub answering_cut : (input mid rest : Option (List ℕ)) (old was : W) (new : Option (List ℕ)) (started piece : List ℕ)
      (are : Bool) → IsAnswering input mid old was started are → Consumes mid rest piece
      → TakesSome json known (asked_so_far (started ++ piece)) (contents was) new
      → IfSome input (TakesFirst json known (contents old) new)
  answering_cut input mid rest old was new started piece are (has, line, all) read some =
      takes_first json known input rest (has.part ++ piece) (contents old) new
      (Consumes-trans input mid rest has.part piece has.read read)
      (subst (λ asked. TakesSome json known asked (contents old) new) (sym (asked_more has.part started piece line))
      (takes_some json known (asked_so_far has.part) (asked_so_far (started ++ piece)) (contents old) (contents was) new
      has.taken some))

  -- the last line, at the end of the input
  pub answered_all : (input mid rest : Option (List ℕ)) (old was : W) (new : Option (List ℕ))
      (started chunk : List ℕ) (n : ℕ) (are they : Bool) → n ≡ 0 → IsAnswering input mid old was started are
      → Consumes mid rest (take n chunk) → IsAtEnd rest
      → TakesAnswers json known (asked_by started) (contents was) new → they ≡ list_all is_some (asked_by started)
      → IfSome input (λ text. ((are && they) ≡ list_all is_some (asked_by text))
      × TakesAnswers json known (asked_by text) (contents old) new)
  answered_all input mid rest old was new started chunk n are they zero (has, line, all) read end taken more =
      let asked = asked_whole has.part started line in
      Consumes-whole input rest has.part _ (read_end input mid rest has.part chunk n zero has.read read) end (
        ap₂ (λ (a b : Bool). a && b) all more
            ∙ sym (list_all-append is_some (asked_so_far has.part) (asked_by started))
            ∙ ap (list_all is_some) (sym asked),
        subst (λ asked. TakesAnswers json known asked (contents old) new) (sym asked)
            (takes_more json known (asked_so_far has.part) (asked_by started) (contents old) (contents was) new
            has.taken taken),
      )

  -- a prefix of the answer for the last line
  pub answered_cut : (input mid rest : Option (List ℕ)) (old was : W) (new : Option (List ℕ))
      (started chunk : List ℕ) (n : ℕ) (are : Bool) → n ≡ 0 → IsAnswering input mid old was started are
      → Consumes mid rest (take n chunk) → IsAtEnd rest
      → TakesSome json known (asked_by started) (contents was) new
      → IfSome input (TakesFirst json known (contents old) new)
  answered_cut input mid rest old was new started chunk n are zero (has, line, all) read end some =
      let asked = asked_whole has.part started line in
      Consumes-whole input rest has.part _ (read_end input mid rest has.part chunk n zero has.read read) end
      (takes_all json known has.part (contents old) new
      (subst (λ asked. TakesSome json known asked (contents old) new) (sym asked)
      (takes_some json known (asked_so_far has.part) (asked_by started) (contents old) (contents was) new has.taken
      some)))
