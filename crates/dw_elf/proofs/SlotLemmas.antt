-- What the headers so far name, from one header to the next, and what it says once all are read.
use Rattle.std.proofs.Common.{rules, ◌≡◌, ◌≢◌, ℕ, ◌+◌, ◌<◌, ◌≤◌, true, false, List, [], set, length, Option, Some, None, is_some, unwrap_or, get_or, inl, inr, subst, arith}
use Rattle.std.specs.Option.{option_copied}
use Rattle.std.proofs.lemmas.Bool.{cases_eq}
use Rattle.std.proofs.lemmas.List.{get_or-set_same, get_or-set_other}
use denote.Ref.{Bor}
use Rattle.dw_elf.specs.declared.sections.DebugSection.{DebugSection}
use Rattle.dw_elf.specs.declared.sections.DebugSection.TheVariants.{Info}
use Rattle.dw_elf.specs.Limits.{section_limit}
use Rattle.dw_elf.specs.Elf.{section_name, section_bytes, section_count}
use Rattle.dw_elf.specs.Names.{name_of, IsWanted, IsNameOf}
use Rattle.dw_elf.specs.declared.sections.OtherSection.{OtherSection}
use Rattle.dw_elf.specs.Checks.{AllPass, HasNoSection, Passes, ChecksPass}
use Rattle.dw_elf.specs.Sections.{IsSection}
use Rattle.dw_elf.specs.Reading.{index_of, slot, IsSlot, SlotsUpTo}

-- after a header that has another name
pub slot_after_other : (file : List ℕ) (k : ℕ) (name : List ℕ) (o : Option (Bor (List ℕ)))
    → section_name file k ≢ name → IsSlot file k name o → IsSlot file (k + 1) name o
slot_after_other file k name o other = step o
  where
    -- a header with this name is not the last one
    below : (j : ℕ) → j < k + 1 → section_name file j ≡ name → j < k
    below j lt named = elim (cases_eq j k) [
      | inl same ↦ absurd (other (subst (λ (i : ℕ). section_name file i ≡ name) same named))
      | inr differs ↦ grind (arith, differs)
    ]

    step : (o : Option (Bor (List ℕ))) → IsSlot file k name o → IsSlot file (k + 1) name o
    step None none = λ j pos lt named. none j pos (below j lt named) named
    step (Some bytes) (j, inside, named, alone, same, small) =
        let within = inside.1 in
        (j, (inside.0, omega (arith, within)), named, (λ i pos lt is. alone i pos (below i lt is) is), same, small)

-- after a header that is not looked for
pub slots_after_other : (file : List ℕ) (k : ℕ) (f : List (Option (Bor (List ℕ)))) → ¬ IsWanted (section_name file k)
    → SlotsUpTo file k f → SlotsUpTo file (k + 1) f
slots_after_other file k f other h = λ s.
    slot_after_other file k (name_of s) (slot f s) (λ same. other (s, same)) (h s)

-- after a header that is
pub slots_after_put : (file : List ℕ) (k : ℕ) (f : List (Option (Bor (List ℕ)))) (s : DebugSection) (at : ℕ)
    (b : Bor (List ℕ)) → at ≡ index_of s → length f ≡ 6 → SlotsUpTo file k f → 0 < k → section_name file k ≡ name_of s
    → is_some (get_or f at None) ≡ false → b.now ≡ section_bytes file k → length b.now ≤ section_limit
    → SlotsUpTo file (k + 1) (set f at (Some b))
slots_after_put file k f s at b index six h pos is none same small =
    search (rules, get_or-set_same, get_or-set_other, cases_eq)

-- where something was found for a section, a lower header has its name
pub named_below : (file : List ℕ) (k : ℕ) (f : List (Option (Bor (List ℕ)))) (s : DebugSection) (at : ℕ)
    → at ≡ index_of s → SlotsUpTo file k f → is_some (get_or f at None) ≡ true
    → (j : ℕ) × (0 < j) × (j < k) × (section_name file j ≡ name_of s)
named_below file k f s at index slots some = search rules

-- where nothing was found for it, no lower header has
pub none_below : (file : List ℕ) (k : ℕ) (f : List (Option (Bor (List ℕ)))) (s : DebugSection) (at : ℕ)
    → at ≡ index_of s → SlotsUpTo file k f → is_some (get_or f at None) ≡ false → (j : ℕ) → 0 < j → j < k
    → section_name file j ≢ name_of s
none_below file k f s at index slots none = search rules

-- after all headers, the bytes of a slot are within the limit
pub small_at : (file : List ℕ) (k : ℕ) (f : List (Option (Bor (List ℕ)))) → SlotsUpTo file k f
    → (s : DebugSection) (bytes : List ℕ) → bytes ≡ unwrap_or (option_copied (slot f s)) []
    → length bytes ≤ section_limit
small_at file k f slots s bytes e = search rules

-- after all headers, the bytes of a slot are the section of its name
pub named_section : (file : List ℕ) (f : List (Option (Bor (List ℕ)))) → SlotsUpTo file (section_count file) f
    → (s : DebugSection) (bytes : List ℕ) → bytes ≡ unwrap_or (option_copied (slot f s)) []
    → IsSection file (name_of s) bytes
named_section file f slots s bytes e = search rules

-- where the checks of the places below k and of k pass, they pass below the next
pub passes_below : (sought : List ℕ → Type 0) (file : List ℕ) (k : ℕ) → ((j : ℕ) → j < k → Passes sought file j)
    → Passes sought file k → (j : ℕ) → j < k + 1 → Passes sought file j
passes_below sought file k below here j lt = search (rules, cases_eq)

-- all checks pass where those of the file, of each header and of .debug_info do
pub all_pass : (file : List ℕ) (n : ℕ) → n ≡ section_count file → 0 < n → ((j : ℕ) → j < n → Passes IsWanted file j)
    → ¬ HasNoSection file (name_of Info) → ChecksPass file
all_pass file n is some passed info k c f = search rules

-- the same where one of the other sections is looked for
pub all_pass_other : (file : List ℕ) (s : OtherSection) (n : ℕ) → n ≡ section_count file → 0 < n
    → ((j : ℕ) → j < n → Passes (IsNameOf s) file j) → AllPass (IsNameOf s) file
all_pass_other file s n is some passed k c f = search rules
