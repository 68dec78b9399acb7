-- Chapter: formats: what reads a value, which bytes spell it, and which fault is where none is spelled. The law that
-- ties them comes with each: a format that is made of other formats has its law from theirs.
use Rattle.std.proofs.Common.{◌≡◌, ℕ, ◌<◌, Bool, true, false, List, [], ◌++◌, length, take, Option, Some, None, Result}
use Rattle.std.proofs.Common.{Ok, Err, refl, sym, ap, subst, ◌∙◌, inl, inr, append_assoc, arith, MatchResult, ◌⊎◌}
use Rattle.std.proofs.Common.{append-nil, take_at, length-append}
use Rattle.std.proofs.lemmas.Result.{MatchResult-weaker}
use Rattle.dw_forms.specs.Front.{Takes}
use Rattle.dw_forms.specs.Readers.{IsReader, HasFront, reader_of, read_is, fault_is, reads_on, joined}
use Rattle.dw_forms.specs.StepLaws.{bind_says}
use Rattle.dw_forms.specs.Steps.{◌>>=◌}

-- what reads a value at the front of some bytes, the bytes that spell it, and the faults where none is spelled. What is
-- read is spelled, what is spelled is read, whatever follows, and a fault is the one that reading gives
pub record Format (V E : Type 0) : Type 1 where
  pub read : List ℕ → Result (V × List ℕ) E
  pub Spells : List ℕ → V → Type 0
  pub Fails : List ℕ → E → Type 0
  pub is_reader : IsReader read Spells Fails
  pub refuses : (bytes : List ℕ) (e : E) → Fails bytes e → read bytes ≡ Err e

-- what reads the values that are spelled and gives the faults, where each front of some bytes has one of both
abbrev pub format_of : {V E : Type 0} (read : List ℕ → Result (V × List ℕ) E) (Spells : List ℕ → V → Type 0)
    (Fails : List ℕ → E → Type 0) → ((text rest : List ℕ) (v : V) → Spells text v → read (text ++ rest) ≡ Ok (v, rest))
    → ((bytes : List ℕ) (e : E) → Fails bytes e → read bytes ≡ Err e) → ((bytes : List ℕ) → HasFront Spells Fails bytes)
    → Format V E
format_of read Spells Fails again refuses front = record {
  read = read;
  Spells = Spells;
  Fails = Fails;
  is_reader = reader_of read Spells Fails again refuses front;
  refuses = refuses;
}

-- ---- one after another

-- a first value is spelled, and after it a second one, whose format the first one may decide
pub record SpellsThen {A B : Type 0} (First : List ℕ → A → Type 0) (Second : A → List ℕ → B → Type 0) (bytes : List ℕ)
    (b : B) : Type 0 where
  pub value : A
  pub first : List ℕ
  pub second : List ℕ
  pub parts : bytes ≡ first ++ second
  pub is_first : First first value
  pub is_second : Second value second b

-- there is no first value, or there is no second one after it
abbrev pub FailsThen : {A E : Type 0} → (List ℕ → A → Type 0) → (List ℕ → E → Type 0) → (A → List ℕ → E → Type 0)
    → List ℕ → E → Type 0
FailsThen {A} First FirstFails SecondFails bytes e =
    FirstFails bytes e ⊎ ((a : A) × (rest : List ℕ) × Takes First bytes a rest × SecondFails a rest e)

module _ {A B E : Type 0} (f : Format A E) (g : A → Format B E) where
  abbrev Both : List ℕ → B → Type 0
  Both = SpellsThen f.Spells (λ a. (g a).Spells)

  abbrev NotBoth : List ℕ → E → Type 0
  NotBoth = FailsThen f.Spells f.Fails (λ a. (g a).Fails)

  both : (bytes : List ℕ) (a : A) (rest : List ℕ) (b : B) (end : List ℕ) → Takes f.Spells bytes a rest
      → Takes (g a).Spells rest b end → Takes Both bytes b end
  both bytes a rest b end t u = record {
    text = t.text ++ u.text;
    parts = joined t.text u.text end bytes rest t.parts u.parts;
    spelled = record {
      value = a;
      first = t.text;
      second = u.text;
      parts = refl;
      is_first = t.spelled;
      is_second = u.spelled;
    };
  }

  pub then_says : (bytes : List ℕ)
      → MatchResult (f.read bytes >>= λ x. (g x.0).read x.1) (λ (y : B × List ℕ). Takes Both bytes y.0 y.1)
      (NotBoth bytes)
  then_says bytes =
      bind_says (f.read bytes) (λ x. (g x.0).read x.1) (λ (x : A × List ℕ). Takes f.Spells bytes x.0 x.1)
      (f.Fails bytes) (λ (y : B × List ℕ). Takes Both bytes y.0 y.1) (NotBoth bytes)
      (f.is_reader.says bytes)
      (λ x t. MatchResult-weaker ((g x.0).read x.1) ((g x.0).is_reader.says x.1)
      (λ y u. both bytes x.0 x.1 y.0 y.1 t u) (λ e h. inr (x.0, x.1, t, h)))
      (λ e h. inl h)

  pub then_again : (text rest : List ℕ) (b : B) → Both text b
      → (f.read (text ++ rest) >>= λ x. (g x.0).read x.1) ≡ Ok (b, rest)
  then_again text rest b s =
      let parts : text ++ rest ≡ s.first ++ (s.second ++ rest) =
      ap (λ (t : List ℕ). t ++ rest) s.parts ∙ append_assoc s.first s.second rest in
      let one : f.read (text ++ rest) ≡ Ok (s.value, s.second ++ rest) =
      ap f.read parts ∙ f.is_reader.again s.first (s.second ++ rest) s.value s.is_first in
      ap (λ (r : Result (A × List ℕ) E). r >>= λ x. (g x.0).read x.1) one
      ∙ (g s.value).is_reader.again s.second rest b s.is_second

  pub then_refuses : (bytes : List ℕ) (e : E) → NotBoth bytes e → (f.read bytes >>= λ x. (g x.0).read x.1) ≡ Err e
  then_refuses bytes e (inl h) =
      ap (λ (r : Result (A × List ℕ) E). r >>= λ x. (g x.0).read x.1) (f.refuses bytes e h)
  then_refuses bytes e (inr h) =
      ap (λ (r : Result (A × List ℕ) E). r >>= λ x. (g x.0).read x.1)
      (reads_on f.read f.Spells f.Fails f.is_reader bytes h.0 h.1 h.2)
      ∙ (g h.0).refuses h.1 e h.3

-- one value after another
abbrev pub and_then : {A B E : Type 0} → Format A E → (A → Format B E) → Format B E
and_then f g = record {
  read = λ bytes. f.read bytes >>= λ x. (g x.0).read x.1;
  Spells = SpellsThen f.Spells (λ a. (g a).Spells);
  Fails = FailsThen f.Spells f.Fails (λ a. (g a).Fails);
  is_reader = record { says = then_says f g; again = then_again f g };
  refuses = then_refuses f g;
}

-- where the first value has some bytes, both have
pub then_some : {A B : Type 0} {First : List ℕ → A → Type 0} {Second : A → List ℕ → B → Type 0}
    → ((text : List ℕ) (a : A) → First text a → 0 < length text) → (text : List ℕ) (b : B)
    → SpellsThen First Second text b → 0 < length text
then_some some text b s =
    omega (arith, some s.first s.value s.is_first, ap length s.parts, length-append s.first s.second)

-- ---- no bytes, and no value

-- no bytes are the value
abbrev pub nothing : {A E : Type 0} → A → Format A E
nothing {A} {E} value = record {
  read = λ bytes. Ok (value, bytes);
  Spells = λ bytes a. (bytes ≡ []) × (a ≡ value);
  Fails = λ bytes e. ⊥;
  is_reader = record {
    says = λ bytes. record { text = []; parts = refl; spelled = (refl, refl) };
    again = λ text rest a s. ap (λ (t : List ℕ). Ok (value, t ++ rest)) s.0 ∙ ap (λ (v : A). Ok (v, rest)) (sym s.1);
  };
  refuses = λ bytes e h. absurd h;
}

-- no bytes are a value, for this reason
abbrev pub failing : {A E : Type 0} → E → Format A E
failing {A} {E} wrong = record {
  read = λ bytes. Err wrong;
  Spells = λ bytes a. ⊥;
  Fails = λ bytes e. wrong ≡ e;
  is_reader = record { says = λ bytes. refl; again = λ text rest a s. absurd s };
  refuses = λ bytes e h. ap (λ (x : E). Err x) h;
}

-- ---- another view of the value

-- the value is what f makes of one that is spelled
abbrev pub SpellsMapped : {A B : Type 0} → (A → B) → (List ℕ → A → Type 0) → List ℕ → B → Type 0
SpellsMapped {A} f Spells bytes b = (a : A) × Spells bytes a × (b ≡ f a)

pub mapped_says : {A B E : Type 0} (f : A → B) (format : Format A E) (bytes : List ℕ)
    → MatchResult (format.read bytes >>= λ x. Ok (f x.0, x.1))
    (λ (y : B × List ℕ). Takes (SpellsMapped f format.Spells) bytes y.0 y.1) (format.Fails bytes)
mapped_says {A} {B} f format bytes =
    bind_says (format.read bytes) (λ x. Ok (f x.0, x.1)) (λ (x : A × List ℕ). Takes format.Spells bytes x.0 x.1)
    (format.Fails bytes) (λ (y : B × List ℕ). Takes (SpellsMapped f format.Spells) bytes y.0 y.1) (format.Fails bytes)
    (format.is_reader.says bytes) (λ x t. record { text = t.text; parts = t.parts; spelled = (x.0, t.spelled, refl) })
    (λ e h. h)

-- another view of the value
abbrev pub mapped : {A B E : Type 0} → (A → B) → Format A E → Format B E
mapped {A} {B} {E} f format = record {
  read = λ bytes. format.read bytes >>= λ x. Ok (f x.0, x.1);
  Spells = SpellsMapped f format.Spells;
  Fails = format.Fails;
  is_reader = record {
    says = mapped_says f format;
    again = λ text rest b s. rw (format.is_reader.again text rest s.0 s.1, s.2) refl;
  };
  refuses = λ bytes e h. ap (λ (r : Result (A × List ℕ) E). r >>= λ x. Ok (f x.0, x.1)) (format.refuses bytes e h);
}

-- ---- inside other bytes

-- no bytes are spelled here: the value is at the front of these other bytes, and the rest comes after it
abbrev pub SpellsInside : {A : Type 0} → List ℕ → (List ℕ → A → Type 0) → List ℕ → A × List ℕ → Type 0
SpellsInside content Spells bytes x = (bytes ≡ []) × Takes Spells content x.0 x.1

module _ {A E : Type 0} (content : List ℕ) (f : Format A E) where
  pub inside_says : (bytes : List ℕ)
      → MatchResult (f.read content >>= λ x. Ok (x, bytes))
      (λ (y : (A × List ℕ) × List ℕ). Takes (SpellsInside content f.Spells) bytes y.0 y.1) (f.Fails content)
  inside_says bytes =
      bind_says (f.read content) (λ x. Ok (x, bytes)) (λ (x : A × List ℕ). Takes f.Spells content x.0 x.1)
      (f.Fails content) (λ (y : (A × List ℕ) × List ℕ). Takes (SpellsInside content f.Spells) bytes y.0 y.1)
      (f.Fails content)
      (f.is_reader.says content) (λ x t. record { text = []; parts = refl; spelled = (refl, t) }) (λ e h. h)

  -- a value at the front of these bytes, and the rest of them
  abbrev pub inside : Format (A × List ℕ) E
  inside = record {
    read = λ bytes. f.read content >>= λ x. Ok (x, bytes);
    Spells = SpellsInside content f.Spells;
    Fails = λ bytes. f.Fails content;
    is_reader = record {
      says = inside_says;
      again = λ text rest x s. rw (reads_on f.read f.Spells f.Fails f.is_reader content x.0 x.1 s.1, s.0) refl;
    };
    refuses = λ bytes e h. ap (λ (r : Result (A × List ℕ) E). r >>= λ x. Ok (x, bytes)) (f.refuses content e h);
  }

-- ---- from these, without a proof

-- one of two
abbrev pub choose : {A E : Type 0} → Bool → Format A E → Format A E → Format A E
choose true f g = f
choose false f g = g

-- one where there is none, another where there is some
abbrev pub found : {X A E : Type 0} → Option X → Format A E → (X → Format A E) → Format A E
found None f g = f
found (Some x) f g = g x

-- a value that passes a test
abbrev pub tested : {A E : Type 0} → (A → Bool) → E → Format A E → Format A E
tested test wrong format = and_then format (λ a. choose (test a) (nothing a) (failing wrong))

-- what is spelled and tested is spelled, and passes the test
pub tested_is : {A E : Type 0} (test : A → Bool) (wrong : E) (f : Format A E) (text : List ℕ) (a : A)
    → (tested test wrong f).Spells text a → f.Spells text a × (test a ≡ true)
tested_is {A} {E} test wrong f text a s = go (test s.value) refl s.is_second
  where
    go : (b : Bool) → test s.value ≡ b → (choose b (nothing {E = E} s.value) (failing wrong)).Spells s.second a
        → f.Spells text a × (test a ≡ true)
    go true passes n =
        let whole : text ≡ s.first = s.parts ∙ ap (λ (t : List ℕ). s.first ++ t) n.0 ∙ append-nil s.first in (
          subst (λ (t : List ℕ). f.Spells t a) (sym whole) (subst (f.Spells s.first) (sym n.1) s.is_first),
          ap test n.1 ∙ passes,
        )
    go false passes n = absurd n

-- ---- faults in other words

-- the fault where reading gives one, in other words
abbrev pub as_other : {A D E : Type 0} → (D → E) → Result A D → Result A E
as_other rename (Ok x) = Ok x
as_other rename (Err d) = Err (rename d)

-- what holds of a value, or of a fault, holds of it in other words, too
pub as_other_says : {A D E : Type 0} (rename : D → E) (P : A → Type 0) (Q : D → Type 0) (r : Result A D)
    → MatchResult r P Q → MatchResult (as_other rename r) P (λ e. (d : D) × Q d × (e ≡ rename d))
as_other_says rename P Q (Ok x) h = h
as_other_says rename P Q (Err d) h = (d, h, refl)

-- the same values. The bytes may say what a fault becomes
abbrev pub renamed : {A D E : Type 0} → (List ℕ → D → E) → Format A D → Format A E
renamed {A} {D} {E} rename f = record {
  read = λ bytes. as_other (rename bytes) (f.read bytes);
  Spells = f.Spells;
  Fails = λ bytes e. (d : D) × f.Fails bytes d × (e ≡ rename bytes d);
  is_reader = record {
    says = λ bytes. as_other_says (rename bytes) (λ (x : A × List ℕ). Takes f.Spells bytes x.0 x.1) (f.Fails bytes)
        (f.read bytes) (f.is_reader.says bytes);
    again = λ text rest a s. ap (as_other (rename (text ++ rest))) (f.is_reader.again text rest a s);
  };
  refuses = λ bytes e h. ap (as_other (rename bytes)) (f.refuses bytes h.0 h.1)
      ∙ ap (λ (x : E). Err x) (sym h.2);
}

-- ---- what holds of each format

module _ {V E : Type 0} (f : Format V E) where
  -- no spelling begins another
  pub apart : (a b x y : List ℕ) (v w : V) → f.Spells a v → f.Spells b w → a ++ x ≡ b ++ y → (a ≡ b) × (v ≡ w)
  apart a b x y v w s t e =
      let same : ◌≡◌ {A = V × List ℕ} (v, x) (w, y) =
      read_is (sym (f.is_reader.again a x v s) ∙ ap f.read e ∙ f.is_reader.again b y w t) in
      let rests : x ≡ y = ap (λ (p : V × List ℕ). p.1) same in
      let long : length a ≡ length b =
      omega (arith, ap length e, length-append a x, length-append b y, ap length rests) in (
        sym (take_at a x (length b) long) ∙ ap (take (length b)) e ∙ take_at b y (length b) refl,
        ap (λ (p : V × List ℕ). p.0) same,
      )

  -- the same bytes have one fault at most
  pub one_fault : (bytes : List ℕ) (d e : E) → f.Fails bytes d → f.Fails bytes e → d ≡ e
  one_fault bytes d e h k = fault_is (sym (f.refuses bytes d h) ∙ f.refuses bytes e k)
