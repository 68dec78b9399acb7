-- Laws: readers of values: a reader finds what is spelled at the front of some bytes, whatever follows, so no spelling
-- is a prefix of another.
use Rattle.std.proofs.Common.{◌≡◌, ℕ, ◌-◌, List, ◌++◌, length, take, Result, Ok, Err, sym, ap, subst, ◌∙◌, inl, inr}
use Rattle.std.proofs.Common.{append_assoc, arith, MatchResult, ◌⊎◌, take_at, length-append}
use Rattle.std.proofs.lemmas.Result.{MatchResult-at_ok, MatchResult-at_err}
use Rattle.dw_forms.specs.Front.{BeginsWith, BeginsWithNone, Takes}

-- a reader takes what is spelled, whatever follows, and it fails only so
pub record IsReader {V E : Type 0} (read : List ℕ → Result (V × List ℕ) E) (Spells : List ℕ → V → Type 0)
    (Fails : List ℕ → E → Type 0) : Type 0 where
  pub says : (bytes : List ℕ) → MatchResult (read bytes) (λ (x : V × List ℕ). Takes Spells bytes x.0 x.1) (Fails bytes)
  pub again : (text rest : List ℕ) (v : V) → Spells text v → read (text ++ rest) ≡ Ok (v, rest)

-- each front of some bytes is a value, or there is a fault
abbrev pub HasFront : {V E : Type 0} → (List ℕ → V → Type 0) → (List ℕ → E → Type 0) → List ℕ → Type 0
HasFront {V} {E} Spells Fails bytes =
    ((v : V) × (rest : List ℕ) × Takes Spells bytes v rest) ⊎ ((e : E) × Fails bytes e)

-- a reader takes what is spelled and refuses what fails, where one of both is at the front
pub reader_of : {V E : Type 0} (read : List ℕ → Result (V × List ℕ) E) (Spells : List ℕ → V → Type 0)
    (Fails : List ℕ → E → Type 0) → ((text rest : List ℕ) (v : V) → Spells text v → read (text ++ rest) ≡ Ok (v, rest))
    → ((bytes : List ℕ) (e : E) → Fails bytes e → read bytes ≡ Err e) → ((bytes : List ℕ) → HasFront Spells Fails bytes)
    → IsReader read Spells Fails
reader_of read Spells Fails again refuses front = record {
  says = λ bytes. elim (front bytes) [
    | inl (v, rest, t) ↦ rw (ap read t.parts ∙ again t.text rest v t.spelled) t
    | inr (e, h) ↦ rw (refuses bytes e h) h
  ];
  again = again;
}

pub front_of : {V E : Type 0} {read : List ℕ → Result (V × List ℕ) E} {Spells : List ℕ → V → Type 0}
    {Fails : List ℕ → E → Type 0} → IsReader read Spells Fails → (bytes : List ℕ) → HasFront Spells Fails bytes
front_of {V} {E} {read} {Spells} {Fails} reader bytes = from (read bytes) (reader.says bytes)
  where
    from : (r : Result (V × List ℕ) E) → MatchResult r (λ (x : V × List ℕ). Takes Spells bytes x.0 x.1) (Fails bytes)
        → HasFront Spells Fails bytes
    from (Ok x) t = inl (x.0, x.1, t)
    from (Err e) h = inr (e, h)

pub read_is : {V E : Type 0} {x y : V} → ◌≡◌ {A = Result V E} (Ok x) (Ok y) → x ≡ y
read_is e = cc

pub fault_is : {V E : Type 0} {f g : E} → ◌≡◌ {A = Result V E} (Err f) (Err g) → f ≡ g
fault_is e = cc

-- the bytes of one spelling after another
pub joined : (a b rest bytes after : List ℕ) → bytes ≡ a ++ after → after ≡ b ++ rest → bytes ≡ (a ++ b) ++ rest
joined a b rest bytes after p q = p ∙ ap (λ (r : List ℕ). a ++ r) q ∙ sym (append_assoc a b rest)

pub not_both : {V E : Type 0} {x : V} {f : E} → ◌≡◌ {A = Result V E} (Err f) (Ok x) → ⊥
not_both e = cc

module _ {V E : Type 0} (read : List ℕ → Result (V × List ℕ) E) (Spells : List ℕ → V → Type 0) (Fails : List ℕ → E
    → Type 0) (reader : IsReader read Spells Fails) where
  pub takes : (bytes : List ℕ) (v : V) (rest : List ℕ) → read bytes ≡ Ok (v, rest) → Takes Spells bytes v rest
  takes bytes v rest e = MatchResult-at_ok (λ (x : V × List ℕ). Takes Spells bytes x.0 x.1) (Fails bytes) (v, rest) e
      (reader.says bytes)

  pub reads_on : (bytes : List ℕ) (v : V) (rest : List ℕ) → Takes Spells bytes v rest → read bytes ≡ Ok (v, rest)
  reads_on bytes v rest t = ap read t.parts ∙ reader.again t.text rest v t.spelled

  pub reader_fails : (bytes : List ℕ) (f : E) → read bytes ≡ Err f → Fails bytes f
  reader_fails bytes f e =
      MatchResult-at_err (λ (x : V × List ℕ). Takes Spells bytes x.0 x.1) (Fails bytes) f e (reader.says bytes)

  pub reader_none : (bytes : List ℕ) (f : E) → read bytes ≡ Err f → BeginsWithNone Spells bytes
  reader_none bytes f e text rest v parts s = not_both (sym e ∙ ap read parts ∙ reader.again text rest v s)

  pub reader_begins : (bytes : List ℕ) (v : V) (rest : List ℕ) → read bytes ≡ Ok (v, rest)
      → BeginsWith Spells bytes v (length bytes - length rest)
  reader_begins bytes v rest e =
      let t = takes bytes v rest e in
      let len : length t.text ≡ length bytes - length rest =
      omega (arith, ap length t.parts, length-append t.text rest) in
      record {
        within = omega arith;
        spelled = subst (λ (p : List ℕ). Spells p v)
            (sym (take_at t.text rest (length bytes - length rest) len)
            ∙ ap (take (length bytes - length rest)) (sym t.parts)) t.spelled;
        only = λ text' rest' v' parts' s'.
            let same = read_is (sym (ap read parts' ∙ reader.again text' rest' v' s') ∙ e) in
            let same_rest : rest' ≡ rest = ap (λ (p : V × List ℕ). p.1) same in (
              omega (arith, ap length parts', length-append text' rest', ap length same_rest),
              ap (λ (p : V × List ℕ). p.0) same,
            );
      }
