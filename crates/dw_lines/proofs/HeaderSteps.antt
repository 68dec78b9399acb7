-- A header, whose parts are read one after another.
use Rattle.std.proofs.Common.{◌≡◌, ◌-◌, ◌==◌, ℕ, Bool, true, false, List, None, Ok, Some, Result, length, nat_lt, ap, refl}
use Rattle.std.specs.Prelude.{if◌then◌else◌}
use Rattle.std.specs.Int.{from_bool}
use Rattle.dw_forms.specs.BaseFormats.{so_many}
use Rattle.dw_forms.specs.Formats.{Format, choose, failing, nothing}
use Rattle.dw_forms.specs.Steps.{◌>>=◌}
use Rattle.dw_lines.specs.Files.{FileAt, Tables, entries, tables}
use Rattle.dw_lines.specs.Header.{LineParameters, are_standard, field, parameters, standard_opcode_lengths, version}
use Rattle.dw_lines.specs.Programs.{HeaderFields, header}
use Rattle.dw_lines.specs.declared.program.LineSections.{LineSections}
use Rattle.dw_lines.specs.declared.rule.LineRule.{LineRule}
use Rattle.dw_lines.specs.declared.rule.LineRule.TheVariants.{LineCut, LineHeaderLength, OpcodeLength}

first_of : (b : Bool) → (if b then 1 else 0) ≡ from_bool b
first_of true = refl
first_of false = refl

-- the two tables, one after the other
pub tables_read : (sections : LineSections) (version first count : ℕ) (bytes middle rest : List ℕ)
    (directories files : List FileAt) → (entries sections version None).read bytes ≡ Ok (directories, middle)
    → length directories ≡ count → (entries sections version (Some count)).read middle ≡ Ok (files, rest)
    → first ≡ from_bool (nat_lt version 5) → (tables sections version).read bytes
    ≡ Ok (record { directories = directories; files = files; first_file = first }, rest)
tables_read sections version first count bytes middle rest directories files one long two is =
    rw (one, long, two, is, first_of (nat_lt version 5)) refl

chosen : (b : Bool) (f g : Format (List ℕ) LineRule) → b ≡ true → choose b f g ≡ f
chosen b f g is = rw is refl

-- the fields and the tables, with a right length or with a wrong one
module _ (sections : LineSections) (size v len : ℕ) (numbers : LineParameters) (lengths : List ℕ) (t : Tables)
    (bytes after fields others left rest : List ℕ) (one : (version size).read bytes ≡ Ok (v, after))
    (two : (field 4).read after ≡ Ok (len, fields)) (three : (parameters v size).read fields ≡ Ok (numbers, others))
    (four : (so_many LineCut (numbers.opcode_base - 1)).read others ≡ Ok (lengths, left))
    (standard : are_standard lengths ≡ true) (five : (tables sections v).read left ≡ Ok (t, rest)) where
  fits : (standard_opcode_lengths numbers.opcode_base).read others ≡ Ok (lengths, left)
  fits = rw four (ap (λ (f : Format (List ℕ) LineRule). f.read left)
      (chosen (are_standard lengths) (nothing lengths) (failing OpcodeLength) standard))

  abbrev pub made : HeaderFields
  made = record { version = v; parameters = numbers; standard_opcode_lengths = lengths; tables = t }

  -- what is read, by whether the length is right
  abbrev pub by_length : Bool → Result (HeaderFields × List ℕ) LineRule
  by_length b =
      (choose {A = HeaderFields × ℕ} b (nothing (made, length fields - length rest))
      (failing LineHeaderLength)).read rest >>= λ x. Ok (x.0.0, x.1)

  pub header_read : (b : Bool) → (length fields - length rest == len) ≡ b
      → (header sections size).read bytes ≡ by_length b
  header_read b is = rw (one, two, three, fits, five) (ap by_length is)
