-- State: what a pass over enumerators or dimensions finds. They are not kept, but read again where they are written.
use Rattle.std.specs.Prelude.{◌≡◌, ℕ, ◌+◌, ◌≤◌, Bool, ◌&&◌, ◌||◌, List, [], Option, is_none, sum_by, if◌then◌else◌}
use Rattle.std.specs.List.{list_any}
use Rattle.dw_cprint.specs.Declarations.{is_miscounted}
use Rattle.dw_cprint.specs.Enumerators.{EnumeratorOf}
use Rattle.dw_cprint.specs.Lengths.{capped, count_bytes, enumerator_bytes, enumerators_bytes}
use Rattle.dw_cprint.specs.Wrong.{is_wrong_enumeration, lacks_identifier, lacks_value, starts_open}
use Rattle.dw_cprint.specs.declared.dimensions.DimensionTally.{DimensionTally}
use Rattle.dw_cprint.specs.declared.enumerators.EnumeratorTally.{EnumeratorTally}

-- ---- enumerators

-- what is found of enumerators
pub record AreEnumerators (es : List EnumeratorOf) (found : EnumeratorTally) : Type 0 where
  pub nameless : found.nameless ≡ list_any lacks_identifier es
  pub wrong : found.wrong ≡ is_wrong_enumeration es
  pub long : found.length ≡ capped (enumerators_bytes es)

-- C has no enumeration of those that were found and those that are left
abbrev pub is_wrong_with : EnumeratorTally → List EnumeratorOf → Bool
is_wrong_with found [] = found.wrong
is_wrong_with found left = (found.some && found.wrong) || list_any lacks_value left

-- the bytes of those that were found and those that are left
abbrev pub bytes_with : EnumeratorTally → List EnumeratorOf → ℕ
bytes_with found [] = found.length
bytes_with found left = (if found.some then found.length else 2) + sum_by enumerator_bytes left

-- all of some enumerators are those that were found and those that are left
pub record EnumeratorsSoFar (all : List EnumeratorOf) (found : EnumeratorTally) (left : List EnumeratorOf)
    : Type 0 where
  pub nameless : list_any lacks_identifier all ≡ (found.nameless || list_any lacks_identifier left)
  pub wrong : is_wrong_enumeration all ≡ is_wrong_with found left
  pub long : capped (enumerators_bytes all) ≡ capped (bytes_with found left)
  pub short : found.length ≤ 65537

-- ---- dimensions

-- what is found of the counts of dimensions
pub record AreDimensions (counts : List (Option ℕ)) (found : DimensionTally) : Type 0 where
  pub first : found.first_unknown ≡ starts_open counts
  pub wrong : found.wrong ≡ is_miscounted counts
  pub long : found.length ≡ capped (sum_by count_bytes counts)

-- the first of those that were found and those that are left is unknown
abbrev pub starts_open_with : DimensionTally → List (Option ℕ) → Bool
starts_open_with found [] = found.first_unknown
starts_open_with found left = if found.some then found.first_unknown else starts_open left

-- there is none, or one after the first is unknown
abbrev pub is_miscounted_with : DimensionTally → List (Option ℕ) → Bool
is_miscounted_with found [] = found.wrong
is_miscounted_with found left = if found.some then found.wrong || list_any is_none left else is_miscounted left

-- all of some counts are those that were found and those that are left
pub record DimensionsSoFar (all : List (Option ℕ)) (found : DimensionTally) (left : List (Option ℕ)) : Type 0 where
  pub first : starts_open all ≡ starts_open_with found left
  pub wrong : is_miscounted all ≡ is_miscounted_with found left
  pub long : capped (sum_by count_bytes all) ≡ capped (found.length + sum_by count_bytes left)
  pub short : found.length ≤ 65537
