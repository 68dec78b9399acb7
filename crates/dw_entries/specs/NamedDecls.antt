-- State: the declaration that a code names, and its place in the table.
use Rattle.std.specs.Prelude.{ℕ}
use Rattle.dw_forms.specs.declared.decl.DeclAt.{DeclAt}
use Rattle.dw_forms.specs.Abbrev.{Declaration}
use Rattle.dw_forms.specs.KeptDecls.{decl_view}

-- the number of a declaration, and the declaration
abbrev pub declared_view : ℕ × DeclAt → ℕ × Declaration
declared_view d = (d.0, decl_view d.1)
