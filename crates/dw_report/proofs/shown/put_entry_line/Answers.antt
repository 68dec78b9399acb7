use Rattle.std.proofs.Common.{option_copied}
use Rattle.std.proofs.lemmas.Result.{on_ok_weaker}
use Rattle.dw_entries.specs.ByNumber.{entry_of}
use Rattle.dw_image.specs.Images.{entries_in}
use Rattle.dw_report.proofs.ShownLemmas.{entry_line_told}
use Rattle.dw_report.proofs.shown.put_entry_line.Goals as goal

pub returns : goal.returns
returns c = record {
  ok = on_ok_weaker c.put_line_end.result (entry_line_told c.args.image.now c.args.id
      (entry_of (entries_in c.args.image.now) c.args.id)
      c.offset-offset.result c.depth-depth.result c.tag-tag.result (option_copied c.name_of-name.result)
      c.size_of_entry-size.result c.args.text.now.items c.put_entry_part.new.text.items c.put_line_end.new.text.items
      c.offset-offset.ensures c.depth-depth.ensures c.tag-tag.ensures c.name_of-name.ensures
      c.size_of_entry-size.ensures
      c.in_ok-put_entry_part.ensures.ok) c.put_line_end.ensures.ok;
}
