-- Chapter: what the groups of rules before one say of sections.
use Rattle.std.specs.Prelude.{ℕ, ◌<◌, List, Option, None, Some}
use Rattle.dw_elf.specs.declared.sections.Sections.{Sections}
use Rattle.dw_entries.specs.declared.fault.Fault.{Fault as FirstFault}
use Rattle.dw_entries.specs.Failures.{HasNone}
use Rattle.dw_forms.specs.Rules.{group_of}
use Rattle.dw_entries.specs.Units.{DebugUnit}
use Rattle.dw_types.specs.SizeTables.{Size}
use Rattle.dw_types.specs.Sizes.{IsSizeTable}
use Rattle.dw_image.specs.FirstFault.{Group, turn_of, failures_of}
use Rattle.dw_image.specs.Headline.{IsFaultOf}

-- no rule fails of the groups before a turn
abbrev pub HoldBefore : Sections → List DebugUnit → ℕ → Type 0
HoldBefore s units turn = (earlier : Group) → turn_of earlier < turn → HasNone (failures_of s units earlier)

-- likewise, and where only sizes are left, they have their one table
pub record PassBefore (s : Sections) (units : List DebugUnit) (turn : ℕ) : Type 0 where
  pub hold : HoldBefore s units turn
  pub measured : 6 < turn → (table : ℕ → Size) × IsSizeTable units table

-- the first fault of the sections, of a group before a turn
pub record FailsBefore (s : Sections) (turn : ℕ) (fault : FirstFault) : Type 0 where
  pub is_fault : IsFaultOf s fault
  pub early : group_of fault.rule < turn

-- what the groups before a turn say of sections that these units spell
abbrev pub IsVerdictBefore : Sections → List DebugUnit → ℕ → Option FirstFault → Type 0
IsVerdictBefore s units turn None = PassBefore s units turn
IsVerdictBefore s units turn (Some fault) = FailsBefore s turn fault
