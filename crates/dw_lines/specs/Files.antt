-- Chapter: the directories and files of a line program (DWARF 5, 6.2.4 and 6.2.4.1; DWARF 4, 6.2.4).
use Rattle.std.specs.Prelude.{ℕ, Bool, true, false, List, [], ◌∷◌, length, drop, Option, None, Some, nat_le, nat_lt}
use Rattle.std.specs.Prelude.{map, ◌==◌, ◌&&◌, ◌||◌, not, if◌then◌else◌, option_map, ◌^◌}
use Rattle.std.specs.List.{list_any, before_first}
use Rattle.dw_forms.specs.declared.form.Form.{Form}
use Rattle.dw_forms.specs.declared.form.Form.TheVariants as form
use Rattle.dw_forms.specs.declared.value.ValueFault.{ValueFault}
use Rattle.dw_forms.specs.declared.value.ValueFault.TheVariants as values
use Rattle.dw_forms.specs.Formats.{Format, and_then, nothing, failing, mapped, inside, choose, found, tested, renamed}
use Rattle.dw_forms.specs.FormCodes.{form_of}
use Rattle.dw_forms.specs.Value.{Datum, text, str, line_str, unsigned, wide}
use Rattle.dw_forms.specs.ValueFormats.{attribute_value}
use Rattle.dw_lines.specs.declared.tables.Content.{Content}
use Rattle.dw_lines.specs.declared.program.Files.{Files}
use Rattle.dw_lines.specs.declared.program.FileEntry.{FileEntry}
use Rattle.dw_lines.specs.declared.program.LinePath.{LinePath}
use Rattle.dw_lines.specs.declared.program.LinePath.TheVariants as paths
use Rattle.dw_lines.specs.declared.rule.LineRule.{LineRule}
use Rattle.dw_lines.specs.declared.rule.LineRule.TheVariants.{LineCut, LineForm, LineString, LineDirectory, LineNumber}
use Rattle.dw_lines.specs.declared.program.LineSections.{LineSections}
use Rattle.dw_lines.specs.Header.{byte, number, path}
use Rattle.dw_lines.specs.Repeats.{times, up_to_end}

-- whether a number is that of a file
abbrev pub has_file : Files → ℕ → Bool
has_file files number = nat_le files.first number && nat_lt number (length files.entries.items)

-- a path, the number of a directory, and an MD5 sum, which is the 16 bytes of DW_LNCT_MD5 if the format has it
pub record FileAt : Type 0 where
  pub path : List ℕ
  pub directory : ℕ
  pub md5 : Option (List ℕ)

-- an entry that is no file
abbrev pub no_file : FileAt
no_file = record { path = []; directory = 0; md5 = None }

-- the bytes of a path. In another section they are those before the first zero byte
abbrev pub path_view : LinePath → List ℕ
path_view (paths.Header p) = p.now
path_view (paths.Section p) = before_first (λ b. b == 0) p.now

-- what a file is, without where its path lies in memory
abbrev pub file_view : FileEntry → FileAt
file_view file = record {
  path = path_view file.path;
  directory = file.directory;
  md5 = option_map (λ sum. sum.now) file.md5;
}

-- a directory that is one of so many
abbrev pub in_directory : ℕ → ℕ → Format ℕ LineRule
in_directory count directory = choose (nat_lt directory count) (nothing directory) (failing LineDirectory)

-- ---- versions 2 to 4. A table has fewer than 2^64 entries, because bytes in memory are fewer

-- a path, or an empty one, which ends a table
abbrev pub path_or_end : Format (Option (List ℕ)) LineRule
path_or_end = mapped (λ p. if length p == 0 then None else Some p) path

-- an entry, or the end. A file has a directory, which is one of so many, a time and a size after its path; in the table
-- of directories there is a path alone
abbrev pub entry_or_end : Option ℕ → Format (Option FileAt) LineRule
entry_or_end directories = and_then path_or_end (λ o. found o (nothing None) (λ p.
    found directories (nothing (Some (record no_file { path = p }))) (λ count.
    and_then number (λ n. and_then (in_directory count n) (λ directory. and_then number (λ time.
    mapped (λ size. Some (record no_file { path = p; directory = directory })) number))))))

-- the entries of a table from 1 on; an entry that is no file is in place of 0, which for directories is that of the
-- compilation
abbrev pub entries4 : Option ℕ → Format (List FileAt) LineRule
entries4 directories = mapped (λ entries. no_file ∷ entries) (up_to_end (2 ^ 64) LineCut (entry_or_end directories))

-- ---- version 5: the formats of entries (6.2.4.1, 7.22)

-- the codes of the contents of an entry
abbrev pub DW_LNCT_path : ℕ
DW_LNCT_path = 1

abbrev pub DW_LNCT_directory_index : ℕ
DW_LNCT_directory_index = 2

abbrev pub DW_LNCT_timestamp : ℕ
DW_LNCT_timestamp = 3

abbrev pub DW_LNCT_size : ℕ
DW_LNCT_size = 4

abbrev pub DW_LNCT_MD5 : ℕ
DW_LNCT_MD5 = 5

-- the forms of a path. Those of strings by index are left out: they need the unit
abbrev pub is_path_form : Form → Bool
is_path_form form.Text = true
is_path_form form.Strp = true
is_path_form form.LineStrp = true
is_path_form f = false

-- the forms of a directory's number
abbrev pub is_directory_form : Form → Bool
is_directory_form form.Data1 = true
is_directory_form form.Data2 = true
is_directory_form form.Udata = true
is_directory_form f = false

-- the forms of a time
abbrev pub is_time_form : Form → Bool
is_time_form form.Udata = true
is_time_form form.Data4 = true
is_time_form form.Data8 = true
is_time_form form.Block = true
is_time_form f = false

-- the forms of a size
abbrev pub is_size_form : Form → Bool
is_size_form form.Udata = true
is_size_form form.Data1 = true
is_size_form form.Data2 = true
is_size_form form.Data4 = true
is_size_form form.Data8 = true
is_size_form f = false

-- the form of a digest
abbrev pub is_digest_form : Form → Bool
is_digest_form form.Data16 = true
is_digest_form f = false

-- the forms of a content that the standard does not name are all of these
abbrev pub is_content_form : Form → Bool
is_content_form form.Block = true
is_content_form form.Data16 = true
is_content_form f = is_path_form f || is_size_form f

-- whether a content may have a form
abbrev pub may_have : ℕ → Form → Bool
may_have kind f =
    if kind == DW_LNCT_path then is_path_form f else
    if kind == DW_LNCT_directory_index then is_directory_form f else
    if kind == DW_LNCT_timestamp then is_time_form f else
    if kind == DW_LNCT_size then is_size_form f else
    if kind == DW_LNCT_MD5 then is_digest_form f else is_content_form f

-- whether one of the contents is of this kind
abbrev pub has_kind : ℕ → List Content → Bool
has_kind kind contents = list_any (λ c. c.kind == kind) contents

-- whether each content has a form that it may have, and none is there twice
abbrev pub are_contents : List Content → Bool
are_contents [] = true
are_contents (c ∷ others) = may_have c.kind c.form && not (has_kind c.kind others) && are_contents others

-- a content and its form
abbrev pub content_format : Format Content LineRule
content_format = and_then number (λ kind. and_then number (λ code.
    found (form_of code) (failing LineForm) (λ f. nothing (record { kind = kind; form = f }))))

-- the format of the entries of a table
abbrev pub entry_format : Format (List Content) LineRule
entry_format = tested are_contents LineForm (and_then byte (λ count. times count content_format))

-- the format of entries, and how many there are; without a path there is none
abbrev pub table_head : Format (List Content × ℕ) LineRule
table_head = tested (λ h. has_kind DW_LNCT_path h.0 || h.1 == 0) LineForm (
    and_then entry_format (λ contents. mapped (λ count. (contents, count)) number))

-- ---- version 5: entries

-- the string at an offset of a section, up to the first zero byte
unfoldable pub string_at : List ℕ → ℕ → Format (List ℕ) LineRule
string_at section offset = choose (nat_lt offset (length section))
    (mapped (λ s. s.0) (inside (drop offset section) (renamed (λ bytes fault. LineString) path)))
    (failing LineString)

-- the rule that a value violates
abbrev pub value_rule_of : ValueFault → LineRule
value_rule_of values.Cut = LineCut
value_rule_of values.BadNumber = LineNumber
value_rule_of values.BadIndirect = LineForm

-- an entry with a content of this kind added, which is a string
abbrev pub with_string : ℕ → FileAt → List ℕ → FileAt
with_string kind e s = if kind == DW_LNCT_path then record e { path = s } else e

-- an entry with a content of this kind added, which has this value
abbrev pub with_value : LineSections → ℕ → FileAt → Datum → Format FileAt LineRule
with_value sections kind e (text s) = nothing (with_string kind e s)
with_value sections kind e (str offset) = mapped (with_string kind e) (string_at sections.str.now offset)
with_value sections kind e (line_str offset) = mapped (with_string kind e) (string_at sections.line_str.now offset)
with_value sections kind e (unsigned n) =
    nothing (if kind == DW_LNCT_directory_index then record e { directory = n } else e)
with_value sections kind e (wide sum) = nothing (if kind == DW_LNCT_MD5 then record e { md5 = Some sum } else e)
with_value sections kind e datum = nothing e

-- an entry with these contents added, one after another. None of their forms has the size of an address
abbrev pub entry_from : LineSections → List Content → FileAt → Format FileAt LineRule
entry_from sections [] e = nothing e
entry_from sections (c ∷ others) e = and_then (renamed (λ bytes. value_rule_of) (attribute_value 5 c.form 8)) (λ v.
    and_then (with_value sections c.kind e v) (entry_from sections others))

-- an entry: a path, the number of a directory, which is 0 where none is given, and the MD5 sum, if one is given
abbrev pub entry : LineSections → List Content → Format FileAt LineRule
entry sections contents = entry_from sections contents no_file

-- an entry of a table: that of a file is in one of so many directories
abbrev pub table_entry : LineSections → List Content → Option ℕ → Format FileAt LineRule
table_entry sections contents directories = and_then (entry sections contents) (λ e.
    found directories (nothing e) (λ count. mapped (λ directory. e) (in_directory count e.directory)))

-- the entries of a table from 0 on
abbrev pub entries5 : LineSections → Option ℕ → Format (List FileAt) LineRule
entries5 sections directories = and_then table_head (λ h. times h.1 (table_entry sections h.0 directories))

-- ---- both

-- the entries of a table of a version: of directories, or of files after so many directories
abbrev pub entries : LineSections → ℕ → Option ℕ → Format (List FileAt) LineRule
entries sections version directories =
    choose (nat_lt version 5) (entries4 directories) (entries5 sections directories)

-- directories and files, and the least number of a file: 1 before version 5, 0 from there on
pub record Tables : Type 0 where
  pub directories : List FileAt
  pub files : List FileAt
  pub first_file : ℕ

-- the same of tables that were read
abbrev pub tables_of : List FileEntry → Files → Tables
tables_of directories files = record {
  directories = map file_view directories;
  files = map file_view files.entries.items;
  first_file = files.first;
}

-- the tables of a version
abbrev pub tables : LineSections → ℕ → Format Tables LineRule
tables sections version = and_then (entries sections version None) (λ directories. mapped (λ files. record {
  directories = directories;
  files = files;
  first_file = if nat_lt version 5 then 1 else 0;
}) (entries sections version (Some (length directories))))
