-- Chapter: what is written of the first rule that a file violates.
use Rattle.std.specs.Prelude.{ℕ, Bool, List, if◌then◌else◌}
use Rattle.serde_json.specs.Data.{Data}
use Rattle.dw_lookup.specs.FirstFaults.{attribute_of, code_of, name_of, place_of, section_of}
use Rattle.dw_lookup.specs.declared.first_fault.FirstFault.{FirstFault}
use Rattle.dw_lookup.specs.declared.first_fault.FirstFault.TheVariants.{File, Entries, Lines, Ranges}
use Rattle.dw_report.specs.JsonObjects.{elf_fault_object, fault_object, object_line, place_object}
use Rattle.dw_report.specs.Lines.{elf_fault_line, fault_lines, place_line}

-- the line of a fault at a place
abbrev pub placed_fault_line : FirstFault → List ℕ
placed_fault_line f = place_line (code_of f) (name_of f) (section_of f) (place_of f) (attribute_of f)

-- the same as an object
abbrev pub placed_fault_object : FirstFault → Data
placed_fault_object f = place_object (place_of f) (attribute_of f) (name_of f) (code_of f) (section_of f)

-- the line, or the object in JSON on a line
abbrev pub placed_fault_text : (json : Bool) → FirstFault → List ℕ
placed_fault_text json f = if json then object_line (placed_fault_object f) else placed_fault_line f

-- the line of a fault, or the object in JSON on a line. One of the entries has a cycle too
abbrev pub first_fault_text : (json : Bool) → FirstFault → List ℕ
first_fault_text json (File f) = if json then object_line (elf_fault_object f) else elf_fault_line f
first_fault_text json (Entries f) = if json then object_line (fault_object f) else fault_lines f
first_fault_text json (Lines f) = placed_fault_text json (Lines f)
first_fault_text json (Ranges f) = placed_fault_text json (Ranges f)
