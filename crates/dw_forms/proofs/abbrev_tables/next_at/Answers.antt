use Rattle.std.proofs.Common.{sym, ap, ◌∙◌, rules}
use Rattle.std.proofs.lemmas.Result.{err_from_is_err_and}
use Rattle.dw_forms.specs.AbbrevReading.{unsigned_at}
use Rattle.dw_forms.specs.AttributeBits.{AreBitsOf}
use Rattle.dw_forms.specs.AttributeLists.{list_in}
use Rattle.dw_forms.proofs.ListStarts.{code_breaks, next_none, tag_breaks, next_some, list_breaks, bytes_from}
use Rattle.dw_forms.proofs.abbrev_tables.next_at.Goals as goal

pub returns-in_err-code-clause-fault : goal.returns-in_err-code-clause-fault
returns-in_err-code-clause-fault c =
    search (rules, err_from_is_err_and, bytes_from, code_breaks)

pub returns-then-code-eq0-clause-next : goal.returns-then-code-eq0-clause-next
returns-then-code-eq0-clause-next c = search (rules, bytes_from, next_none)

pub returns-in_err-tag-clause-fault : goal.returns-in_err-tag-clause-fault
returns-in_err-tag-clause-fault c =
    let e = err_from_is_err_and c.from_residual-in_err-tag.result c.from_residual-in_err-tag.ensures.1 in
    let code = sym (ap unsigned_at (bytes_from c.args.section.now c.args.offset)) ∙ c.in_ok-code.ensures.exact in
    rw (e.1, e.2) (tag_breaks c.args.section.now c.args.offset _ _ code c.if-code-eq0.false _
    c.in_err-tag.ensures.exact)

pub returns-in_err-first-clause-fault : goal.returns-in_err-first-clause-fault
returns-in_err-first-clause-fault c =
    let e = err_from_is_err_and c.from_residual-in_err-first.result c.from_residual-in_err-first.ensures.1 in
    let code = sym (ap unsigned_at (bytes_from c.args.section.now c.args.offset)) ∙ c.in_ok-code.ensures.exact in
    rw (e.1, e.2) (list_breaks c.args.section.now c.args.offset _ _ code c.if-code-eq0.false _ _
    c.in_ok-tag.ensures.exact _ c.in_err-first.ensures.fault)

pub returns-clause-next : goal.returns-clause-next
returns-clause-next c =
    let bits : AreBitsOf (list_in c.read.new.self.lists.nodes.items c.in_ok-first.first)
    c.bits.result = rw (c.new-attributes.ensures.lists, c.new-attributes.ensures.first) at c.bits.ensures in
    let code = sym (ap unsigned_at (bytes_from c.args.section.now c.args.offset)) ∙ c.in_ok-code.ensures.exact in
    record {
      is =
          next_some c.args.section.now c.args.offset _ _ code c.if-code-eq0.false _ _ c.in_ok-tag.ensures.exact
          c.read.new.self.lists.nodes.items c.in_ok-first.first c.in_ok-first.end c.in_ok-first.ensures.list;
      kept =
          record {
            within = search rules;
            declared = search rules;
            whole_is = search rules;
            step = search rules;
            bits_are = bits;
          };
      rises = search rules;
      fits = search rules;
    }
