-- Chapter: the codes of the forms (DWARF 5, 7.5.6, table 7.6).
-- The codes, and the forms that may refer or lead out, are made by docs/make-rules.py from docs/codes.tsv.
use Rattle.std.specs.Prelude.{ℕ, pos, Option, List, [], ◌∷◌, find, Bool, true, false, ◌||◌, nat_le, if◌then◌else◌, ◌==◌}
pub use Rattle.dw_forms.specs.declared.form.Form.{Form}
use Rattle.dw_forms.specs.declared.form.Form.TheVariants.{Addr, Block2, Block4, Data2, Data4, Data8, Text, Block}
use Rattle.dw_forms.specs.declared.form.Form.TheVariants.{Block1, Data1, Flag, Sdata, Strp, Udata, RefAddr, Ref1, Ref2}
use Rattle.dw_forms.specs.declared.form.Form.TheVariants.{Ref4, Ref8, RefUdata, Indirect, SecOffset, Exprloc}
use Rattle.dw_forms.specs.declared.form.Form.TheVariants.{FlagPresent, Strx, Addrx, Data16, LineStrp, RefSig8}
use Rattle.dw_forms.specs.declared.form.Form.TheVariants.{ImplicitConst, Loclistx, Rnglistx, Strx1, Strx2, Strx3, Strx4}
use Rattle.dw_forms.specs.declared.form.Form.TheVariants.{Addrx1, Addrx2, Addrx3, Addrx4}

-- the code of a form
abbrev pub code_of : Form → ℕ
code_of Addr = 0x01
code_of Block2 = 0x03
code_of Block4 = 0x04
code_of Data2 = 0x05
code_of Data4 = 0x06
code_of Data8 = 0x07
code_of Text = 0x08
code_of Block = 0x09
code_of Block1 = 0x0a
code_of Data1 = 0x0b
code_of Flag = 0x0c
code_of Sdata = 0x0d
code_of Strp = 0x0e
code_of Udata = 0x0f
code_of RefAddr = 0x10
code_of Ref1 = 0x11
code_of Ref2 = 0x12
code_of Ref4 = 0x13
code_of Ref8 = 0x14
code_of RefUdata = 0x15
code_of Indirect = 0x16
code_of SecOffset = 0x17
code_of Exprloc = 0x18
code_of FlagPresent = 0x19
code_of Strx = 0x1a
code_of Addrx = 0x1b
code_of Data16 = 0x1e
code_of LineStrp = 0x1f
code_of RefSig8 = 0x20
code_of (ImplicitConst number) = 0x21
code_of Loclistx = 0x22
code_of Rnglistx = 0x23
code_of Strx1 = 0x25
code_of Strx2 = 0x26
code_of Strx3 = 0x27
code_of Strx4 = 0x28
code_of Addrx1 = 0x29
code_of Addrx2 = 0x2a
code_of Addrx3 = 0x2b
code_of Addrx4 = 0x2c

-- all forms; the number of an implicit constant isn't part of its code
abbrev pub forms : List Form
forms =
    Addr ∷ Block2 ∷ Block4 ∷ Data2 ∷ Data4 ∷ Data8 ∷ Text ∷ Block ∷
    Block1 ∷ Data1 ∷ Flag ∷ Sdata ∷ Strp ∷ Udata ∷ RefAddr ∷ Ref1 ∷
    Ref2 ∷ Ref4 ∷ Ref8 ∷ RefUdata ∷ Indirect ∷ SecOffset ∷ Exprloc ∷ FlagPresent ∷
    Strx ∷ Addrx ∷ Data16 ∷ LineStrp ∷ RefSig8 ∷ (ImplicitConst (pos 0)) ∷ Loclistx ∷ Rnglistx ∷
    Strx1 ∷ Strx2 ∷ Strx3 ∷ Strx4 ∷ Addrx1 ∷ Addrx2 ∷ Addrx3 ∷ Addrx4 ∷ []

-- the form with this code
unfoldable pub form_of : ℕ → Option Form
form_of code = find (λ form. code_of form == code) forms

-- a form without the number of an implicit constant
abbrev pub bare : Form → Form
bare (ImplicitConst number) = ImplicitConst (pos 0)
bare f = f

-- the forms of version 4 are those of the codes 0x01, 0x03 to 0x19 and 0x20. Version 5 has them all
abbrev pub is_allowed : ℕ → Form → Bool
is_allowed version form =
    if version == 4 then nat_le (code_of form) 0x19 || code_of form == 0x20 else version == 5

-- values of the form may be references: those of class reference, and those that name another form (DWARF 5, 7.5.5)
abbrev pub may_refer : Form → Bool
may_refer RefAddr = true
may_refer Ref1 = true
may_refer Ref2 = true
may_refer Ref4 = true
may_refer Ref8 = true
may_refer RefUdata = true
may_refer RefSig8 = true
may_refer Indirect = true
may_refer _ = false

-- values of the form may lead out of .debug_info, as offsets or indices of strings or as indices of addresses, and so
-- may those that name another form (DWARF 5, 7.5.5)
abbrev pub may_lead_out : Form → Bool
may_lead_out Strp = true
may_lead_out LineStrp = true
may_lead_out Strx = true
may_lead_out Strx1 = true
may_lead_out Strx2 = true
may_lead_out Strx3 = true
may_lead_out Strx4 = true
may_lead_out Addrx = true
may_lead_out Addrx1 = true
may_lead_out Addrx2 = true
may_lead_out Addrx3 = true
may_lead_out Addrx4 = true
may_lead_out Indirect = true
may_lead_out _ = false
