-- State: the tables that begin at offsets of a section.
use Rattle.std.specs.Prelude.{◌≡◌, ℕ, suc, ◌<◌, ◌≤◌, List, [], ◌∷◌, ◌++◌, length, get_or, drop}
use Rattle.std.specs.Prelude.{Option, Some, None, Ok, Err, false, true, ◌⊎◌}
use Rattle.dw_forms.specs.Abbrev.{Declaration}
use Rattle.dw_forms.specs.AbbrevReading.{has_code, decl_at, table_at, DeclFault}
use Rattle.dw_forms.specs.Chains.{chain_in}
use Rattle.dw_forms.specs.DeclaredLists.{HasList}
use Rattle.dw_forms.specs.KeptDecls.{Tables, kept_view, table_in, Node, KeptDecl}
pub use Rattle.dw_forms.specs.Offsets.{Stay}
use Rattle.dw_forms.specs.Offsets.{BeginsAt, AreApart, AreAlong, AreNew, Placed}

-- the table that begins at this offset of the section is the one of this number
pub record IsTableIn (section : List ℕ) (tables : Tables) (offset number : ℕ) : Type 0 where
  pub within : number < length tables
  pub table : table_at section offset ≡ Ok (table_in tables number)

-- each table of a declaration begins at its offset, which is no other one's
pub record AreStarts (section : List ℕ) (tables : Tables) (starts : List ℕ) : Type 0 where
  pub long : suc (length starts) ≡ length tables
  pub each : (k : ℕ) → k < length starts → IsTableIn section tables (get_or starts k 0) (suc k)
  pub apart : AreApart (length section) starts

-- no table begins at this offset of the section
abbrev pub NoTable : List ℕ → ℕ → Type 0
NoTable section offset = (ds : List Declaration) → table_at section offset ≡ Ok ds → ⊥

-- the declaration is between two offsets of the section, with a list of attributes that is kept
pub record IsDeclAt (section : List ℕ) (nodes : List Node) (offset : ℕ) (d : KeptDecl) (next : ℕ) : Type 0 where
  pub is : decl_at [] (drop offset section) ≡ Ok (Some (kept_view nodes d), drop next section)
  pub kept : HasList nodes d.first d.step d.bits d.declared d.whole
  pub rises : offset < next
  pub fits : next ≤ length section

-- the declaration is at an offset of the section, before another; or the code 0 is there
abbrev pub IsNextAt : List ℕ → List Node → ℕ → Option KeptDecl → ℕ → Type 0
IsNextAt section nodes offset (Some d) next = IsDeclAt section nodes offset d next
IsNextAt section nodes offset None next = decl_at [] (drop offset section) ≡ Ok (None, drop next section)

-- the table that begins at this offset was kept, or it has no declarations
abbrev pub IsKeptOrEmpty : List ℕ → List ℕ → ℕ → ℕ → Type 0
IsKeptOrEmpty section starts offset rest = ((0 < rest) × BeginsAt starts rest offset)
    ⊎ ((rest ≡ 0) × (table_at section offset ≡ Ok []))

-- declarations from an offset of the section on, with which no table begins that is kept, and the table after them
pub record IsFront (section : List ℕ) (nodes : List Node) (starts : List ℕ) (decls : List (Placed KeptDecl))
    (offset rest : ℕ) : Type 0 where
  pub end : ℕ
  pub along : AreAlong (IsDeclAt section nodes) decls offset end
  pub new : AreNew starts decls
  pub goes_on : IsKeptOrEmpty section starts end rest

-- the declaration and the table of this number are a new table, unless the code is in that table
abbrev pub IsAddedTable : Declaration → ℕ → Tables → Tables → Option ℕ → Type 0
IsAddedTable d rest old new (Some number) =
    (has_code d.code (table_in old rest) ≡ false) × (number ≡ length old)
    × (new ≡ old ++ (record { number = number; item = d } ∷ chain_in old rest) ∷ [])
IsAddedTable d rest old new None = (has_code d.code (table_in old rest) ≡ true) × (new ≡ old)

-- the table at the offset has the number that is returned, or there is none
abbrev pub IsTableRead : List ℕ → Tables → ℕ → Option ℕ → Type 0
IsTableRead section tables offset (Some number) = IsTableIn section tables offset number
IsTableRead section tables offset None = NoTable section offset

-- no declaration and no code 0 is at this offset of the section
abbrev pub IfNoDecl : List ℕ → ℕ → Type 0
IfNoDecl section offset = (fault : DeclFault) × (decl_at [] (drop offset section) ≡ Err fault)
