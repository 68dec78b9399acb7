-- Chapter: the values of attributes, and how their bytes can be laid out (DWARF 5, 7.5.5 and 7.5.6).
use Rattle.std.specs.Prelude.{ℕ, List, Bool, not, ◌==◌, ℤ}
pub use Rattle.dw_forms.specs.declared.value.Value.{Value}
use Rattle.dw_forms.specs.declared.value.Value.TheVariants as value

-- a value without where its bytes lie in memory
pub data Datum : Type 0 where
  address : ℕ → Datum
  block : List ℕ → Datum
  unsigned : ℕ → Datum
  signed : ℤ → Datum
  wide : List ℕ → Datum
  text : List ℕ → Datum
  flag : Bool → Datum
  str : ℕ → Datum
  line_str : ℕ → Datum
  str_index : ℕ → Datum
  ref_info : ℕ → Datum
  ref_unit : ℕ → Datum
  ref_sig : ℕ → Datum
  sec_offset : ℕ → Datum
  expr : List ℕ → Datum
  addr_index : ℕ → Datum
  loc_index : ℕ → Datum
  rng_index : ℕ → Datum

-- the value, as it is seen
abbrev pub view : Value → Datum
view (value.Addr x) = address x
view (value.Block x) = block x.now
view (value.Unsigned x) = unsigned x
view (value.Signed x) = signed x
view (value.Wide x) = wide x.now
view (value.Text x) = text x.now
view (value.Flag x) = flag x
view (value.Str x) = str x
view (value.LineStr x) = line_str x
view (value.StrIndex x) = str_index x
view (value.RefInfo x) = ref_info x
view (value.RefUnit x) = ref_unit x
view (value.RefSig x) = ref_sig x
view (value.SecOffset x) = sec_offset x
view (value.Expr x) = expr x.now
view (value.AddrIndex x) = addr_index x
view (value.LocIndex x) = loc_index x
view (value.RngIndex x) = rng_index x

-- how the bytes of a value are laid out, and which value they are
pub data Layout : Type 0 where
  -- a number of so many bytes, lowest first
  fixed : ℕ → (ℕ → Datum) → Layout
  -- an unsigned or a signed LEB128 number
  leb : (ℕ → Datum) → Layout
  signed_leb : (ℤ → Datum) → Layout
  -- a length of so many bytes or as a LEB128 number, then as many bytes
  counted : ℕ → (List ℕ → Datum) → Layout
  leb_counted : (List ℕ → Datum) → Layout
  -- bytes up to a zero byte
  ended : (List ℕ → Datum) → Layout
  -- so many bytes
  exactly : ℕ → (List ℕ → Datum) → Layout
  -- no bytes
  nothing : Datum → Layout
  -- the code of another form, then that form's value
  named : Layout

-- nonzero is true
abbrev pub flag_of : ℕ → Datum
flag_of n = flag (not (n == 0))
