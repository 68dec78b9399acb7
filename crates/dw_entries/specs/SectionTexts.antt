-- Chapter: the names of the sections that faults are in.
use Rattle.std.specs.Prelude.{ℕ, List, codes}
use Rattle.dw_entries.specs.declared.fault.Section.{Section}
use Rattle.dw_entries.specs.declared.fault.Section.TheVariants.{Abbrev, Info}

-- the name of a section in the file
unfoldable pub section_text : Section → List ℕ
section_text Abbrev = codes ".debug_abbrev"
section_text Info = codes ".debug_info"
