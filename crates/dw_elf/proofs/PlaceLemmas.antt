-- Where the bytes of a section are in the file.
use Rattle.std.proofs.Common.{rules, arith, ◌≡◌, ℕ, ◌+◌, ◌<◌, ◌≤◌, ◌⊎◌, inl, inr, List, length, take, drop, refl, ap}
use Rattle.std.proofs.lemmas.List.{length-take, take_min}
use Rattle.dw_elf.specs.Checks.{ChecksPass, NoInfo, SectionRange}
use Rattle.dw_elf.specs.Elf.{section_bytes, section_count, section_offset, section_size}
use Rattle.dw_elf.specs.Names.{name_of}
use Rattle.dw_elf.specs.Sections.{IsAt, IsSection, StartsAt}
use Rattle.dw_elf.specs.declared.sections.DebugSection.TheVariants.{Info}

starts : (file : List ℕ) (k : ℕ) → IsAt file (section_offset file k) (section_bytes file k)
unfolding section_bytes
starts file k = search (rules, length-take, take_min)

-- the bytes of a section are where it starts
pub bytes_there : (file name : List ℕ) (start : ℕ) → StartsAt file name start → (bytes : List ℕ)
    → IsSection file name bytes → IsAt file start bytes
bytes_there file name start is bytes section = search (rules, starts)

within_or_not : (a b : ℕ) → (a ≤ b) ⊎ (b < a)
within_or_not a b = grind arith

-- .debug_info is in the file
pub info_within : (file : List ℕ) (start : ℕ) → ChecksPass file → StartsAt file (name_of Info) start
    → (bytes : List ℕ) → IsSection file (name_of Info) bytes → start + length bytes ≤ length file
unfolding section_bytes
info_within file start passes is bytes section = elim section [
  | inl (k, one, same) ↦ elim (within_or_not (section_offset file k + section_size file k) (length file)) [
    | inl within ↦
        let counted : length bytes ≡ length (take (section_size file k) (drop (section_offset file k) file)) =
        ap length same in
        omega (arith, within, is k one, counted, length-take (section_size file k) (drop (section_offset file k) file))
    | inr out ↦ absurd (passes k SectionRange (one.header, (Info, one.named), λ inside. omega (arith, inside, out)))
  ]
  | inr (none, same) ↦ absurd (passes (section_count file) NoInfo (refl, (Info, refl), none))
]
