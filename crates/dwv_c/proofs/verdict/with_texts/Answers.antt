use Rattle.dwv_c.proofs.TextLemmas.{filled, with_fields}
use Rattle.dwv_c.proofs.verdict.with_texts.Goals as goal

pub returns : goal.returns
returns c =
    with_fields c.args.at c.args.attribute c.args.rule.now c.args.section.now c.args.name.now c.put_over.new.array
    c.put_over-2.new.array c.put_over-3.new.array
    (filled 8 c.args.rule.now c.as_bytes.result.now c.put_over.new.array c.as_bytes.ensures.value c.put_over.ensures)
    (filled 16 c.args.section.now c.as_bytes-2.result.now c.put_over-2.new.array c.as_bytes-2.ensures.value
    c.put_over-2.ensures)
    (filled 24 c.args.name.now c.as_bytes-3.result.now c.put_over-3.new.array c.as_bytes-3.ensures.value
    c.put_over-3.ensures)
