-- Chapter: the path of a file (DWARF 5, 6.2.4 and 6.2.4.1; DWARF 4, 6.2.4).
use Rattle.std.specs.Prelude.{ℕ, Bool, false, true, List, [], ◌∷◌, ◌++◌, length, slice_index_or, ◌==◌, nat_lt, ◌||◌}
use Rattle.std.specs.Prelude.{if◌then◌else◌}
use Rattle.dw_lines.specs.Files.{FileAt, Tables, no_file}
use Rattle.dw_lines.specs.Programs.{HeaderFields}

-- the byte that divides the parts of a path
abbrev pub slash : ℕ
slash = 0x2f

-- whether a part of a path begins with a slash
abbrev pub begins_with_slash : List ℕ → Bool
begins_with_slash [] = false
begins_with_slash (b ∷ bytes) = b == slash

-- whether nothing is to be put between a path and a part after it: the path is empty, or ends with a slash
abbrev pub ends_with_slash : List ℕ → Bool
ends_with_slash [] = true
ends_with_slash (b ∷ []) = b == slash
ends_with_slash (b ∷ c ∷ bytes) = ends_with_slash (c ∷ bytes)

-- a part of a path in a directory: a part that begins with a slash drops the directory; otherwise a slash is between
-- them, unless one of them is empty or the directory ends with a slash
abbrev pub joined : List ℕ → List ℕ → List ℕ
joined directory part =
    if begins_with_slash part then part else
    if ends_with_slash directory || length part == 0 then directory ++ part else directory ++ slash ∷ part

-- the path of a directory by its number, which is empty where there is no such directory
abbrev pub directory_path : Tables → ℕ → List ℕ
directory_path tables number = (slice_index_or tables.directories number no_file).path

-- the directory of the compilation: from version 5 on directory 0, before it the one that the unit names
abbrev pub compilation_directory : HeaderFields → List ℕ → List ℕ
compilation_directory h named = if nat_lt h.version 5 then named else directory_path h.tables 0

-- the path of a file in a directory by its number. Directory 0 is that of the compilation, and each other is in it
abbrev pub entry_path : HeaderFields → List ℕ → FileAt → List ℕ
entry_path h named file =
    joined (joined (compilation_directory h named)
    (if file.directory == 0 then [] else directory_path h.tables file.directory)) file.path

-- the path of a file by its number
abbrev pub file_path : HeaderFields → List ℕ → ℕ → List ℕ
file_path h named number = entry_path h named (slice_index_or h.tables.files number no_file)
