-- State: the place of the first attribute with a code, and its value.
use Rattle.std.specs.Prelude.{◌≡◌, ◌≢◌, ℕ, ◌<◌, List, length, Option, Some, None, Result, Ok, Err, All, slice_index_or}
use Rattle.std.specs.List.{slice_range}
use Rattle.dw_forms.specs.Steps.{◌>>=◌}
use Rattle.dw_forms.specs.Value.{Datum, view, Value}
use Rattle.dw_forms.specs.ValueReading.{value_at, ValueFault}
use Rattle.dw_forms.specs.KnownValues.{values_end, Form, AttributeSpec}

-- the attribute at this place has the code, and none before it has
pub record StandsFirst (specs : List AttributeSpec) (code place : ℕ) : Type 0 where
  pub within : place < length specs
  pub has : (d : AttributeSpec) → (slice_index_or specs place d).attribute ≡ code
  pub none_before : (k : ℕ) (d : AttributeSpec) → k < place → (slice_index_or specs k d).attribute ≢ code

-- the value of this form that is read after those before it
abbrev pub value_behind : ℕ → ℕ → Form → Result (List ℕ) ValueFault → Result Datum ValueFault
value_behind version size form before = before >>= λ rest. value_at version form size rest >>= λ v. Ok v.0

-- the answer is what reading one value after another up to the first attribute with the code gives
pub record ReadsFirst (version size : ℕ) (specs : List AttributeSpec) (code : ℕ) (bytes : List ℕ)
    (answer : Result Datum ValueFault) : Type 0 where
  pub place : ℕ
  pub first : StandsFirst specs code place
  pub reads : (d : AttributeSpec)
      → answer ≡ value_behind version size (slice_index_or specs place d).form
      (values_end version size (slice_range specs 0 place) bytes)

-- none has the code, or the answer is the value of the first that has it
abbrev pub AnswersFirst : ℕ → ℕ → List AttributeSpec → ℕ → List ℕ → Result (Option Value) ValueFault → Type 0
AnswersFirst version size specs code bytes (Ok None) = All (λ (spec : AttributeSpec). spec.attribute ≢ code) specs
AnswersFirst version size specs code bytes (Ok (Some v)) = ReadsFirst version size specs code bytes (Ok (view v))
AnswersFirst version size specs code bytes (Err f) = ReadsFirst version size specs code bytes (Err f)
