-- Chapter: the layout and the class of the values of each form (DWARF 5, 7.5.5 and 7.5.6).
-- Its equations are made by docs/make-rules.py from docs/codes.tsv.
use Rattle.std.specs.Prelude.{ℕ, true, Option, Some, None}
use Rattle.dw_forms.specs.declared.form.Form.{Form}
use Rattle.dw_forms.specs.declared.form.Form.TheVariants as form
pub use Rattle.dw_forms.specs.declared.class.Class.{Class}
use Rattle.dw_forms.specs.declared.class.Class.TheVariants.{Address, Block, Constant, WideConstant, Exprloc, Flag}
use Rattle.dw_forms.specs.declared.class.Class.TheVariants.{ListIndex, Reference, SectionOffset, String}
use Rattle.dw_forms.specs.Value.{Layout, fixed, leb, signed_leb, counted, leb_counted, ended, exactly, nothing, named}
use Rattle.dw_forms.specs.Value.{address, block, unsigned, signed, wide, text, flag, flag_of, str, line_str, str_index}
use Rattle.dw_forms.specs.Value.{ref_info, ref_unit, ref_sig, sec_offset, expr, addr_index, loc_index, rng_index}

-- the table of forms. An address has this size
abbrev pub layout_of : ℕ → Form → Layout
layout_of size form.Addr = fixed size address
layout_of size form.Block2 = counted 2 block
layout_of size form.Block4 = counted 4 block
layout_of size form.Data2 = fixed 2 unsigned
layout_of size form.Data4 = fixed 4 unsigned
layout_of size form.Data8 = fixed 8 unsigned
layout_of size form.Text = ended text
layout_of size form.Block = leb_counted block
layout_of size form.Block1 = counted 1 block
layout_of size form.Data1 = fixed 1 unsigned
layout_of size form.Flag = fixed 1 flag_of
layout_of size form.Sdata = signed_leb signed
layout_of size form.Strp = fixed 4 str
layout_of size form.Udata = leb unsigned
layout_of size form.RefAddr = fixed 4 ref_info
layout_of size form.Ref1 = fixed 1 ref_unit
layout_of size form.Ref2 = fixed 2 ref_unit
layout_of size form.Ref4 = fixed 4 ref_unit
layout_of size form.Ref8 = fixed 8 ref_unit
layout_of size form.RefUdata = leb ref_unit
layout_of size form.Indirect = named
layout_of size form.SecOffset = fixed 4 sec_offset
layout_of size form.Exprloc = leb_counted expr
layout_of size form.FlagPresent = nothing (flag true)
layout_of size form.Strx = leb str_index
layout_of size form.Addrx = leb addr_index
layout_of size form.Data16 = exactly 16 wide
layout_of size form.LineStrp = fixed 4 line_str
layout_of size form.RefSig8 = fixed 8 ref_sig
layout_of size (form.ImplicitConst number) = nothing (signed number)
layout_of size form.Loclistx = leb loc_index
layout_of size form.Rnglistx = leb rng_index
layout_of size form.Strx1 = fixed 1 str_index
layout_of size form.Strx2 = fixed 2 str_index
layout_of size form.Strx3 = fixed 3 str_index
layout_of size form.Strx4 = fixed 4 str_index
layout_of size form.Addrx1 = fixed 1 addr_index
layout_of size form.Addrx2 = fixed 2 addr_index
layout_of size form.Addrx3 = fixed 3 addr_index
layout_of size form.Addrx4 = fixed 4 addr_index

-- the class of each value in a form; a value in the form indirect names another form
abbrev pub form_class : Form → Option Class
form_class form.Addr = Some Address
form_class form.Block2 = Some Block
form_class form.Block4 = Some Block
form_class form.Data2 = Some Constant
form_class form.Data4 = Some Constant
form_class form.Data8 = Some Constant
form_class form.Text = Some String
form_class form.Block = Some Block
form_class form.Block1 = Some Block
form_class form.Data1 = Some Constant
form_class form.Flag = Some Flag
form_class form.Sdata = Some Constant
form_class form.Strp = Some String
form_class form.Udata = Some Constant
form_class form.RefAddr = Some Reference
form_class form.Ref1 = Some Reference
form_class form.Ref2 = Some Reference
form_class form.Ref4 = Some Reference
form_class form.Ref8 = Some Reference
form_class form.RefUdata = Some Reference
form_class form.Indirect = None
form_class form.SecOffset = Some SectionOffset
form_class form.Exprloc = Some Exprloc
form_class form.FlagPresent = Some Flag
form_class form.Strx = Some String
form_class form.Addrx = Some Address
form_class form.Data16 = Some WideConstant
form_class form.LineStrp = Some String
form_class form.RefSig8 = Some Reference
form_class (form.ImplicitConst number) = Some Constant
form_class form.Loclistx = Some ListIndex
form_class form.Rnglistx = Some ListIndex
form_class form.Strx1 = Some String
form_class form.Strx2 = Some String
form_class form.Strx3 = Some String
form_class form.Strx4 = Some String
form_class form.Addrx1 = Some Address
form_class form.Addrx2 = Some Address
form_class form.Addrx3 = Some Address
form_class form.Addrx4 = Some Address
