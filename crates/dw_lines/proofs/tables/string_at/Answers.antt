use Rattle.std.proofs.Common.{◌≡◌, ℕ, List, length, Bool, true, false, nat_lt, Err, refl, arith}
use Rattle.std.proofs.lemmas.Bool.{lt-ltb}
use Rattle.std.proofs.lemmas.List.{take_rest}
use Rattle.dw_forms.specs.Formats.{Format, choose, failing}
use Rattle.dw_lines.specs.Files.{string_at}
use Rattle.dw_lines.specs.declared.rule.LineRule.{LineRule}
use Rattle.dw_lines.specs.declared.rule.LineRule.TheVariants.{LineCut, LineString}
use Rattle.dw_lines.proofs.StringLaws.{string_found, string_none}
use Rattle.dw_lines.proofs.tables.string_at.Goals as goal

pub returns-then-offset-end : goal.returns-then-offset-end
unfolding string_at
returns-then-offset-end c bytes =
    let inside : nat_lt c.args.offset (length c.args.section.now) ≡ true =
    lt-ltb _ _ (omega (arith, c.requires.0, c.if-offset-end.true)) in
    rw (inside, string_found LineCut _ _ _ c.requires c.if-offset-end.true, take_rest c.args.section.now c.args.offset)
    refl

-- a format and none fail alike where the format does
either : (b : Bool) (f : Format (List ℕ) LineRule) (bytes : List ℕ) → f.read bytes ≡ Err LineString
    → (choose b f (failing LineString)).read bytes ≡ Err LineString
either true f bytes fails = fails
either false f bytes fails = refl

pub returns : goal.returns
unfolding string_at
returns c bytes =
    either (nat_lt c.args.offset (length c.args.section.now)) _ bytes
    (rw (string_none LineCut c.args.section.now c.args.end c.args.offset c.requires
    (omega (arith, c.if-offset-end.false)))
    refl)
