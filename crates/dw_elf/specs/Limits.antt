-- Chapter: the limit of a section, which is this project's choice.
use Rattle.std.specs.Prelude.{ℕ}

-- the most bytes that a section may have: 1 GiB
abbrev pub section_limit : ℕ
section_limit = 1_073_741_824
