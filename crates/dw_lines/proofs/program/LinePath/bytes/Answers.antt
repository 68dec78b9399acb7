use Rattle.std.proofs.Common.{◌≡◌, ◌∙◌, ℕ, List, Option, None, Some, length, take, take_all, arith}
use Rattle.std.specs.Prelude.{◌==◌, unwrap_or}
use Rattle.std.specs.List.{before_first}
use Rattle.memchr.specs.Find.{IsFirstByte, is_byte}
use Rattle.dw_elf.proofs.NameLemmas.{take_before_first, all_before_first}
use Rattle.dw_lines.proofs.program.LinePath.bytes.Goals as goal

-- the bytes before the first zero byte, or all of them
up_to_zero : (o : Option ℕ) (bytes : List ℕ) → IsFirstByte (is_byte 0) bytes o
    → take (unwrap_or o (length bytes)) bytes ≡ before_first (λ b. b == 0) bytes
up_to_zero None bytes none = take_all (length bytes) bytes (omega arith) ∙ all_before_first bytes none
up_to_zero (Some k) bytes first = take_before_first bytes k first.0 first.1

pub returns-in-Section : goal.returns-in-Section
returns-in-Section c = rw (c.in-Section.is, c.unwrap_or.ensures) (up_to_zero c.memchr.result _ c.memchr.ensures)
