-- Laws: the value of a form that an indirect value names.
use Rattle.std.proofs.Common.{ℕ, Bool, true, false, List, Option, Some, None}
use Rattle.dw_forms.specs.declared.form.Form.{Form}
use Rattle.dw_forms.specs.declared.value.ValueFault.TheVariants.{BadIndirect}
use Rattle.dw_forms.specs.Formats.{Format, choose, failing}
use Rattle.dw_forms.specs.Value.{Datum}
use Rattle.dw_forms.specs.FormTable.{layout_of}
use Rattle.dw_forms.specs.ValueFormats.{laid_out, may_be_named, named_value}

allowed_value : {V E : Type 0} (b : Bool) (f : Format V E) (wrong : E) (bytes : List ℕ) (v : V)
    → (choose b f (failing wrong)).Spells bytes v → f.Spells bytes v
allowed_value true f wrong bytes v s = s
allowed_value false f wrong bytes v s = absurd s

-- the value of a form that an indirect value names is that of a form that names no other one
pub named_plain : (version size : ℕ) (o : Option Form) (bytes : List ℕ) (v : Datum)
    → (named_value version size o).Spells bytes v → (f : Form) × (laid_out (layout_of size f)).Spells bytes v
named_plain version size None bytes v s = absurd s
named_plain version size (Some f) bytes v s =
    (f, allowed_value (may_be_named version f) (laid_out (layout_of size f)) BadIndirect bytes v s)
