-- One batch alone: its bytes as the whole .debug_info, beside the other sections; and what the forms of its
-- declarations say of its values.
use Rattle.std.proofs.Common.{rules, ◌≡◌, ℕ, ◌+◌, ◌<◌, List, length, take, drop, Option, None, subst, slice_get, IfSome, Bool, true, false, Some, sym, ◌∙◌, All, Contains}
use Rattle.std.proofs.lemmas.List.{drop-take}
use Rattle.std.proofs.lemmas.List.Elements.{recursion_from_All}
use Rattle.std.proofs.lemmas.Option.{slice_get-get_or}
use Rattle.std.proofs.lemmas.Bool.{false_from_ne_true}
use Rattle.dw_entries.specs.declared.fault.Fault.{Fault}
use Rattle.dw_entries.proofs.EntryFacts.{unit_placed, Entry, entries_of, placed}
use Rattle.dw_image.proofs.JoinLemmas.{none_at}
use Rattle.dw_elf.specs.Sections.{IsPart}
use Rattle.dw_entries.specs.declared.header.UnitHeader.{UnitHeader}
use Rattle.dw_entries.specs.Units.{AreFrom, SpellsInfo, units_bytes, Spells}
use Rattle.dw_entries.specs.Failures.{Rule, Failure, HasNone}
use Rattle.dw_entries.specs.Faults.{Fails}
use Rattle.dw_links.specs.Strings.{StringFailsIn, StringFailures, Sections}
use Rattle.dw_units.specs.declared.counts.Counts.{Counts}
use Rattle.dw_entries.specs.EntryRules.{EachEntry, HasAttribute}
use Rattle.dw_image.specs.Valid.{IsValidBy}
use Rattle.dw_links.specs.Signatures.{type_unit_of}
use Rattle.dw_entries.proofs.FaultLaws.{no_list}
use Rattle.dw_image.specs.FirstFault.{Group, strings, sizes, failures_of, IsFirstIn, IsFirstFault, in_trees, in_group}
use Rattle.dw_image.specs.Headline.{IsFaultOf}
use Rattle.dw_image.specs.GroupsBefore.{PassBefore}
use Rattle.dw_units.specs.ByUnit.{FailsAlone, IsMeasured, IsFirm, PassesBelow, StaysAlone, is_offset}
use Rattle.dw_units.specs.declared.batches.Elsewhere.{Elsewhere}
use Rattle.dw_units.specs.declared.batches.Elsewhere.TheVariants.{Never, ByOffset, BySignature}
use Rattle.dw_units.specs.BatchSections.{IsReady, Refer, IsAllowed}
use Rattle.dw_units.specs.IndependentBatches.{StaysInside, HaveNoTypeUnit, StandsAlone, leaves_by}
use Rattle.dw_units.specs.Counts.{AreCounts}
use Rattle.dw_forms.specs.declared.fault.Stop.{Stop}
use Rattle.dw_entries.specs.Stopped.{IfPlainFault}
use mathlib.Core.Logic.{∥∥₁_elim}
use Rattle.dw_forms.specs.declared.form.Form.{Form}
use Rattle.dw_forms.specs.declared.abbrev.AttributeSpec.{AttributeSpec}
use Rattle.dw_forms.specs.ValueFormats.{Val, laid_out}
use Rattle.dw_forms.specs.declared.rule.Rule.TheVariants.{WrongClass}
use Rattle.dw_links.specs.RulesOfAttributes.{NeverFailsAt, Rules, EntryHead}
use Rattle.dw_links.proofs.ListLookups.{none_concerned}
use Rattle.dw_links.specs.References.{is_signature, Datum}
use Rattle.dw_units.proofs.MovedEntries.{IsEntry, Units}

-- ---- the rules on strings of two sections that differ in .debug_info alone

pub record Shares (s own : Sections) : Type 0 where
  pub abbrev_same : own.«abbrev».now ≡ s.«abbrev».now
  pub str_same : own.str.now ≡ s.str.now
  pub line_str_same : own.line_str.now ≡ s.line_str.now
  pub str_offsets_same : own.str_offsets.now ≡ s.str_offsets.now
  pub addr_same : own.addr.now ≡ s.addr.now

module _ (s own : Sections) (shares : Shares s own) where
  string_in_own : (header : UnitHeader) (texts addresses : Option ℕ) (head : EntryHead) (attribute : ℕ) (v : Datum)
      (rule : Rule) → StringFailsIn s header texts addresses head attribute v rule
      → StringFailsIn own header texts addresses head attribute v rule
  string_in_own header texts addresses head attribute v rule fails = search rules

  strings_own : (us : Units) (f : Failure) → StringFailures s us f → StringFailures own us f
  strings_own us f fails = search (rules, string_in_own)

shares_of : (s own : Sections) (from to : ℕ) → IsPart s from to own → Shares s own
shares_of s own from to part = search rules

shares_back : (s own : Sections) → Shares s own → Shares own s
shares_back s own shares = search (rules, shares)

measured_by : (s : Sections) (group : Group) (fault : Fault) (units : Units) → IsFirstIn s units group fault
    → IsMeasured group units
measured_by s sizes fault units first = search rules
measured_by s _ fault units first = tt

module _ (s own : Sections) (shares : Shares s own) where
  -- the groups ask the same of both
  none_own : (us : Units) (group : Group) → HasNone (failures_of own us group) → HasNone (failures_of s us group)
  none_own us strings none = λ f fails. none f (strings_own s own shares us f fails)
  none_own us _ none = none

  first_own : (us : Units) (group : Group) (fault : Fault) → IsFirstIn own us group fault → IsFirstIn s us group fault
  first_own us strings fault first = record {
    holds = record {
      failure = first.holds.failure;
      fails = strings_own own s (shares_back s own shares) us first.holds.failure first.holds.fails;
      named = first.holds.named;
      first = λ g fails precedes. first.holds.first g (strings_own s own shares us g fails) precedes;
    };
    cycle = first.cycle;
  }
  first_own us _ fault first = first

-- the bytes of a part
bytes_of : (s own : Sections) (at size : ℕ) → IsPart s at (at + size) own
    → drop own.base own.info.now ≡ take size (drop at s.info.now)
bytes_of s own at size part = search (rules, drop-take)

-- the fault of trees in a part
pub trees_of : (s own : Sections) (at size : ℕ) → IsPart s at (at + size) own → (stop : Stop Fault)
    → IfPlainFault (Fails own.«abbrev».now own.base (drop own.base own.info.now)) stop
    → IfPlainFault (Fails s.«abbrev».now at (take size (drop at s.info.now))) stop
trees_of s own at size part stop fails = search (rules, shares_of, bytes_of)

-- a part of sections is one batch, these units
pub record IsBatch (s own : Sections) (at size : ℕ) (units : Units) : Type 0 where
  pub part : IsPart s at (at + size) own
  pub spelled : SpellsInfo own units
  pub only : (others : Units) → SpellsInfo own others → others ≡ units
  pub no_type_unit : HaveNoTypeUnit units
  pub stays_inside : EachEntry StaysInside (entries_of units)

-- the group of the fault of a batch
pub record IsOfGroup (s : Sections) (units : Units) (fault : Fault) : Type 0 where
  pub group : Group
  pub ready : IsReady s group units
  pub fails : FailsAlone s units group fault

module _ {s own : Sections} {at size : ℕ} {units : Units} (batch : IsBatch s own at size units) where
  shares : Shares s own
  shares = search (rules, shares_of)

  pub are_from : AreFrom at units
  are_from = search rules

  pub stays : StaysAlone s units
  stays =
      let are = rw shares.abbrev_same at batch.spelled.spells.are in search (rules, are)

  pub bytes : take size (drop at s.info.now) ≡ units_bytes units
  bytes = search (rules, bytes_of)

  -- the part is sound
  pub stands : (c : Counts) → AreCounts own c → StandsAlone s units
  stands c counts =
      let whole = counts.sound.valid in
      let valid = subst (IsValidBy own) (batch.only whole.0 whole.1.trees) whole.1 in
      search (rules, valid, stays, (none_own s own shares units strings valid.strings))

  -- no rule of the groups before a turn fails
  pub passed : (turn : ℕ) → PassBefore own units turn → PassBefore s units turn
  passed turn passes = record {
    hold = λ earlier less. none_own s own shares units earlier (passes.hold earlier less);
    measured = passes.measured;
  }

  -- a rule fails
  pub failed : (fault : Fault) → IsFirm units fault.rule → IsFaultOf own fault → IsOfGroup s units fault
  failed fault firm is = go is.first
    where
      go : IsFirstFault own fault → IsOfGroup s units fault
      go (in_trees fails cycle) = search (rules, no_list)
      go (in_group group fails) =
          let same : fails.units ≡ units = batch.only fails.units fails.spelled in
          let before = rw same at fails.before in
          let first = first_own s own shares units group fault (rw same at fails.first) in
          let below : PassesBelow s group units =
          λ earlier less. none_own s own shares units earlier (before earlier less) in
          search (rules, stays, first, below, (measured_by s group fault units first))

pub refer_inside : (entries : List Entry) (elsewhere : Elsewhere) → (elsewhere ≡ BySignature → ⊥)
    → Refer entries elsewhere → EachEntry StaysInside entries
refer_inside entries elsewhere other refer = search rules

-- ---- no type unit

-- the unit with this number is no type unit
abbrev pub IsNoTypeUnit : Units → ℕ → Type 0
IsNoTypeUnit us k = IfSome (slice_get (placed us) k) (λ p. type_unit_of p.unit.header.kind ≡ None)

pub no_type_unit_of : (us : Units) → ((k : ℕ) → k < length us → IsNoTypeUnit us k) → HaveNoTypeUnit us
no_type_unit_of us none = search (rules, recursion_from_All, unit_placed, slice_get-get_or)

-- ---- what the forms of declarations say of values

stays_by_form : (version size : ℕ) (f : Form) (bytes : List ℕ) (v : Datum) → (leaves_by f ≡ BySignature → ⊥)
    → Val version f size bytes v → is_signature v ≡ false
unfolding laid_out
stays_by_form version size f bytes v other p = search rules

no_offset_by_form : (version size : ℕ) (f : Form) (bytes : List ℕ) (v : Datum) → leaves_by f ≡ Never
    → Val version f size bytes v → is_offset v ≡ false
unfolding laid_out
no_offset_by_form version size f bytes v is p = search rules

-- a fact of values, as a rule on attributes
abbrev Where : (Datum → Bool) → Rules
Where holds head attribute v rule = holds v ≡ true

-- a fact that no value in a form has, no value under such a declaration has
passes_where : (holds : Datum → Bool) (spec : AttributeSpec)
    → ((version size : ℕ) (bytes : List ℕ) (v : Datum) → Val version spec.form size bytes v → holds v ≡ false)
    → NeverFailsAt (Where holds) spec
passes_where holds spec never x a is head rule so =
    ∥∥₁_elim is.value (λ p q. absurd p)
    (λ v. let no : true ≡ false = sym so ∙ never x.version x.address_size a.bytes a.value v in cc)

-- no value under such a declaration leaves its unit by a signature
form_passes : (spec : AttributeSpec) → (leaves_by spec.form ≡ BySignature → ⊥) → NeverFailsAt (Where is_signature) spec
form_passes spec other = search (rules, passes_where, stays_by_form)

-- nor is one an offset of .debug_info
offset_passes : (spec : AttributeSpec) → leaves_by spec.form ≡ Never → NeverFailsAt (Where is_offset) spec
offset_passes spec never = search (rules, passes_where, no_offset_by_form)

none_where : (holds : Datum → Bool) (a info : List ℕ) (us : Units) (kept : List AttributeSpec) → Spells a us info
    → ((id : ℕ) (e : Entry) → IsEntry us id e
    → All (λ (spec : AttributeSpec). Contains kept spec) e.head.decl.attributes)
    → ((k : ℕ) (spec : AttributeSpec) → slice_get kept k ≡ Some spec → NeverFailsAt (Where holds) spec)
    → EachEntry (λ e. (position attribute : ℕ) (v : Datum) → HasAttribute e position attribute v → holds v ≡ false)
    (entries_of us)
none_where holds a info us kept spells declared pass id e is position attribute v has =
    false_from_ne_true (holds v)
    (none_at (entries_of us) (Where holds) (none_concerned a info us kept (Where holds) spells declared pass) id e is
    position attribute v has WrongClass)

-- the values of entries refer as the forms of their declarations allow
pub refer_of : (a info : List ℕ) (us : Units) (kept : List AttributeSpec) → Spells a us info
    → ((id : ℕ) (e : Entry) → IsEntry us id e
    → All (λ (spec : AttributeSpec). Contains kept spec) e.head.decl.attributes) → (most : Elsewhere)
    → ((k : ℕ) (spec : AttributeSpec) → slice_get kept k ≡ Some spec → IsAllowed most (leaves_by spec.form))
    → Refer (entries_of us) most
refer_of a info us kept spells declared Never allowed = (
  none_where is_signature a info us kept spells declared
      (λ k spec is. form_passes spec (λ other. let no = sym (allowed k spec is) ∙ other in absurd cc)),
  none_where is_offset a info us kept spells declared (λ k spec is. offset_passes spec (allowed k spec is)),
)
refer_of a info us kept spells declared ByOffset allowed =
    none_where is_signature a info us kept spells declared (λ k spec is. form_passes spec (allowed k spec is))
refer_of a info us kept spells declared BySignature allowed = tt
