-- How many values entries have.
use Rattle.std.proofs.Common.{◌≡◌, ℕ, suc, ◌+◌, ◌*◌, ◌<◌, ◌≤◌, List, [], ◌∷◌, length, Some, refl, sym, ap, ◌∙◌, arith}
use Rattle.std.specs.Prelude.{slice_get}
use Rattle.std.proofs.lemmas.Option.{slice_get-get_or}
use Rattle.std.proofs.lemmas.List.{length-map}
use Rattle.dw_forms.specs.KeptDecls.{decl_view}
use Rattle.dw_forms.specs.declared.decl.DeclAt.{DeclAt}
use Rattle.dw_forms.specs.Abbrev.{Declaration}
use Rattle.dw_entries.specs.declared.entries.Entries.{Entries}
use Rattle.dw_entries.specs.Views.{all_entries}
use Rattle.dw_forms.specs.declared.abbrev.AttributeSpec.{AttributeSpec}
use Rattle.dw_entries.specs.EntryRules.{value_of, values_of}
use Rattle.dw_entries.specs.Entries.{Entry}
use Rattle.dw_entries.specs.ByNumber.{no_entry, entry_of}
use Rattle.dw_entries.specs.Grammar.{AreAttributes, Attribute, Context}
use Rattle.dw_entries.proofs.HeadLaws.{head_fits}
use Rattle.dw_image.specs.declared.image.Image.{Image}
use Rattle.dw_image.specs.Images.{entries_in, entry_count, units_in}
use Rattle.dwv_c.specs.Tables.{values_before}
use Rattle.dwv_c.proofs.TableLemmas.{counted_at}

pub sum_fits : (count number more : ℕ) → count ≤ number * 4294967295 → number < 4294967296 → more < 4294967296
    → count + more < 18446744073709551616
sum_fits count number more small below fits = omega (arith, small, below, fits)

as_many : (x : Context) (specs : List AttributeSpec) (attributes : List Attribute) → AreAttributes x specs attributes
    → length specs ≡ length attributes
as_many x [] [] are = refl
as_many x [] (a ∷ more) are = absurd are
as_many x (s ∷ specs) [] are = absurd are
as_many x (s ∷ specs) (a ∷ more) are = ap suc (as_many x specs more are.1)

-- the attributes of an entry's declaration
pub specs_told : (i : Image) (es : Entries) (id : ℕ) (specs : List AttributeSpec) (d : DeclAt) → es ≡ i.entries
    → decl_view d ≡ (entry_of (all_entries es) id).head.decl → specs ≡ (decl_view d).attributes
    → specs ≡ (entry_of (entries_in i) id).head.decl.attributes
unfolding units_in
specs_told i es id specs d same told is =
    is ∙ ap (λ (x : Declaration). x.attributes) told
    ∙ ap (λ (x : Entries). (entry_of (all_entries x) id).head.decl.attributes) same

-- an entry has as many values as its declaration has attributes
values_declared : (i : Image) (id : ℕ) (e : Entry) → slice_get (entries_in i) id ≡ Some e
    → length e.head.decl.attributes ≡ length (values_of e.head)
unfolding units_in
values_declared i id e is =
    let stands = head_fits _ _ (units_in i) id e i.entries.scanned.1.spells is in
    as_many _ e.head.decl.attributes e.head.attributes stands.is.attributes
    ∙ sym (length-map e.head.attributes value_of)

-- so the count of these is that of its values
pub counted_all : (i : Image) (id count : ℕ) (specs : List AttributeSpec) → id < entry_count i → count ≡ length specs
    → specs ≡ (entry_of (entries_in i) id).head.decl.attributes
    → count ≡ length (values_of (entry_of (entries_in i) id).head)
counted_all i id count specs below counted are =
    counted ∙ ap length are
    ∙ values_declared i id (entry_of (entries_in i) id) (slice_get-get_or (entries_in i) id no_entry below)

pub counted_next : (i : Image) (n id count more : ℕ) → n < entry_count i → id ≡ n
    → more ≡ length (values_of (entry_of (entries_in i) id).head) → count ≡ values_before i n
    → count + more ≡ values_before i (n + 1)
counted_next i n id count more below same own so_far =
    let here = ap (λ (k : ℕ). length (values_of (entry_of (entries_in i) k).head)) same in
    omega (arith, so_far, own, here, counted_at i n _ (slice_get-get_or (entries_in i) n no_entry below))
