-- State: which entries are known to be declarations, while references are followed.
use Rattle.std.specs.Prelude.{◌≡◌, ℕ, Bool, List, Option, Some, length, slice_get}
use Rattle.dw_entries.specs.declared.entries.Entries.{Entries}
use Rattle.dw_entries.specs.ByNumber.{entry_of}
use Rattle.dw_entries.specs.Views.{all_entries}
use Rattle.dw_links.specs.References.{is_declared}

-- of each entry something or nothing is known, and what is known is true of it
pub record KeepsDeclared (entries : Entries) (known : List (Option Bool)) : Type 0 where
  pub all : length known ≡ length (all_entries entries)
  pub right : (id : ℕ) (declared : Bool) → slice_get known id ≡ Some (Some declared)
      → declared ≡ is_declared (entry_of (all_entries entries) id)
