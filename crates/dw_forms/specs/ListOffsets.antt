-- State: the lists of attributes that begin at offsets of a section, and where they end. They are kept one after
-- another, and those that have one end share it.
use Rattle.std.specs.Prelude.{◌≡◌, ℕ, suc, ◌-◌, ◌<◌, ◌≤◌, List, [], length, drop, get_or, Some, Ok, All, ◌∷◌, ◌++◌, ◌⊎◌}
use Rattle.std.specs.List.Sorted.{IsNonDecreasingBy, IsPartitionPoint}
use Rattle.dw_forms.specs.declared.list_reader.KeptLists.{KeptLists}
use Rattle.dw_forms.specs.AbbrevReading.{pair_at, attributes_of, AttributeSpec}
use Rattle.dw_forms.specs.AttributeLists.{list_in, Node}
use Rattle.dw_forms.specs.Offsets.{AreAlong, AreApart, AreNew, Stay, Placed}
pub use Rattle.dw_forms.specs.declared.shared_ends.SharedEnd.{SharedEnd}

-- so many of the ends are those of this list, which counts from 0, or of lists before it
pub record AreUpTo (list : ℕ) (ends : List SharedEnd) (count : ℕ) : Type 0 where
  pub within : count ≤ length ends
  pub point : IsPartitionPoint (λ e. e.before ≤ list) (λ e. list < e.before) ends count

-- the first of the ends is that of the first list
pub record FromFirst (ends : List SharedEnd) : Type 0 where
  pub some : 0 < length ends
  pub before : (d : SharedEnd) → (get_or ends 0 d).before ≡ 0

-- the last of the ends is at this offset
pub record IsLastEnd (end : ℕ) (ends : List SharedEnd) : Type 0 where
  pub shared : SharedEnd
  pub some : 0 < length ends
  pub last : shared ≡ get_or ends (length ends - 1) shared
  pub is : shared.end ≡ end

-- one more list has this end, after so many lists: that of the list before it, or a new one
abbrev pub IsEndAdded : ℕ → ℕ → List SharedEnd → List SharedEnd → Type 0
IsEndAdded before end old new =
    (IsLastEnd end old × (new ≡ old)) ⊎ (new ≡ old ++ record { before = before; end = end } ∷ [])

-- the list of this number begins at an offset of the section, and ends before another
pub record IsListAt (section : List ℕ) (nodes : List Node) (offset number end : ℕ) : Type 0 where
  pub within : number ≤ length nodes
  pub list : attributes_of (drop offset section) ≡ Ok (list_in nodes number, drop end section)
  pub rises : offset < end
  pub fits : end ≤ length section

-- each list has an offset of its own at which it begins, and one at which it ends
pub record ArePlaced (section : List ℕ) (nodes : List Node) (starts : List ℕ) (ends : List SharedEnd) : Type 0 where
  pub starts_long : length starts ≡ length nodes
  pub rise : IsNonDecreasingBy (λ e. e.before) ends
  pub first : 0 < length nodes → FromFirst ends
  pub below : All (λ e. e.before < length nodes) ends
  pub lists : (k count : ℕ) (e : SharedEnd) → k < length nodes → AreUpTo k ends count → e ≡ get_or ends (count - 1) e
      → IsListAt section nodes (get_or starts k 0) (suc k) e.end
  pub apart : AreApart (length section) starts

-- no list begins at this offset of the section
abbrev pub NoListAt : List ℕ → ℕ → Type 0
NoListAt section offset = (specs : List AttributeSpec) (rest : List ℕ)
    → attributes_of (drop offset section) ≡ Ok (specs, rest) → ⊥

-- the attribute is between two offsets of the section
pub record IsPairAt (section : List ℕ) (offset : ℕ) (spec : AttributeSpec) (next : ℕ) : Type 0 where
  pub is : pair_at [] (drop offset section) ≡ Ok (Some spec, drop next section)
  pub rises : offset < next
  pub fits : next ≤ length section

-- the attributes, at which no list begins that is kept, go on as the list of this number, which ends at an offset
pub record LeadsToList (section : List ℕ) (nodes : List Node) (starts : List ℕ) (pairs : List (Placed AttributeSpec))
    (offset first end : ℕ) : Type 0 where
  pub next : ℕ
  pub along : AreAlong (IsPairAt section) pairs offset next
  pub new : AreNew starts pairs
  pub list : IsListAt section nodes next first end

-- the lists that are kept are those of this section
abbrev pub AreListsOf : List ℕ → KeptLists → Type 0
AreListsOf section t = ArePlaced section t.lists.nodes.items t.starts.starts.items t.ends.items

-- the lists that are kept are those of this section, and the old ones are among them
pub record MoreLists (section : List ℕ) (old new : KeptLists) : Type 0 where
  pub lists : AreListsOf section new
  pub stay : Stay old.lists.nodes.items new.lists.nodes.items
