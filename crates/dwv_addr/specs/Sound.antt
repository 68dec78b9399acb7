-- Chapter: what is written of the counts of a sound file.
use Rattle.std.specs.Prelude.{true, List, ℕ, ◌-◌, ◌^◌, ◌++◌, codes, length, min, sum_by}
use Rattle.std.specs.List.{count_by}
use Rattle.std.specs.Fmt.{decimal}
use Rattle.serde_json.specs.Data.{Data, boolean, member, no_members, number, object, unsigned}
use Rattle.dw_addresses.specs.declared.lines.FileLines.{FileLines}
use Rattle.dw_lines.specs.Rows.{program_run}
use Rattle.dw_addresses.specs.declared.line_index.LineIndex.{LineIndex}
use Rattle.dw_lines.specs.declared.row.Row.{Row}
use Rattle.dw_ranges.specs.declared.file.FileFunctions.{FileFunctions}
use Rattle.dwv_addr.specs.declared.counts.Counts.{Counts}

-- how many rows a program has
abbrev pub rows_in : LineIndex → ℕ
rows_in index = length (program_run index.program).rows

-- how many sequences it has: each is ended by one of its rows
abbrev pub sequences_in : LineIndex → ℕ
sequences_in index = count_by (λ (row : Row). row.end_sequence) (program_run index.program).rows

-- a count as 64 bits, where the greatest number stands for those past it
abbrev pub at_most : ℕ → ℕ
at_most count = min count (2 ^ 64 - 1)

-- the counts of a sound file
abbrev pub counts_of : FileLines → FileFunctions → Counts
counts_of lines functions = record {
  sequences = at_most (sum_by sequences_in lines.programs.items);
  rows = at_most (sum_by rows_in lines.programs.items);
  ranges = functions.totals.ranges;
  functions = functions.totals.functions;
  inlined = functions.totals.inlined;
  dead = functions.totals.dead;
}

-- `sound: S sequences`
unfoldable pub sequence_count : ℕ → List ℕ
sequence_count sequences = codes "sound: " ++ decimal sequences ++ codes " sequences"

-- `, R rows, N ranges`
unfoldable pub row_counts : ℕ → ℕ → List ℕ
row_counts rows ranges = codes ", " ++ decimal rows ++ codes " rows, " ++ decimal ranges ++ codes " ranges"

-- `, F functions`
unfoldable pub function_count : ℕ → List ℕ
function_count functions = codes ", " ++ decimal functions ++ codes " functions"

-- `, I inlined, D dead`, and the end of the line
unfoldable pub inlined_counts : ℕ → ℕ → List ℕ
inlined_counts inlined dead = codes ", " ++ decimal inlined ++ codes " inlined, " ++ decimal dead ++ codes " dead\n"

-- `sound: S sequences, R rows, N ranges, F functions, I inlined, D dead`
abbrev pub sound_line : Counts → List ℕ
sound_line counts =
    sequence_count counts.sequences ++ row_counts counts.rows counts.ranges ++ function_count counts.functions
    ++ inlined_counts counts.inlined counts.dead

-- the same as an object
abbrev pub sound_object : Counts → Data
sound_object counts =
    object (member (codes "dead") (number (unsigned counts.dead))
    (member (codes "functions") (number (unsigned counts.functions))
    (member (codes "inlined") (number (unsigned counts.inlined))
    (member (codes "ranges") (number (unsigned counts.ranges))
    (member (codes "rows") (number (unsigned counts.rows))
    (member (codes "sequences") (number (unsigned counts.sequences))
    (member (codes "sound") (boolean true) no_members)))))))
