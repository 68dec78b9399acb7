-- An opcode with operands that nothing reads, one operand at a time.
use Rattle.std.proofs.Common.{◌≡◌, ℕ, suc, List}
use Rattle.dw_forms.specs.Steps.{◌>>=◌}
use Rattle.dw_lines.specs.Opcodes.{operand, operands}

-- the first operand, and the others
pub more_operands : (count others : ℕ) (bytes : List ℕ) → count ≡ suc others
    → (operands count).read bytes ≡ (operand.read bytes >>= λ x. (operands others).read x.1)
unfolding operands
more_operands count others bytes is = rw is
