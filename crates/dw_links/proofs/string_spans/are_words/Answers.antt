use Rattle.std.proofs.Common.{rules, ◌≡◌, Bool, get_or, ap, sym, ◌∙◌, ◌&&◌}
use Rattle.std.specs.Char.{is_ascii_alphanumeric}
use Rattle.std.proofs.lemmas.List.Folds.{list_all_more}
use Rattle.dw_links.specs.StringSpans.{is_word_byte}
use Rattle.dw_links.proofs.string_spans.are_words.Goals as goal

pub loop-k-preserved : goal.loop-k-preserved
loop-k-preserved c =
    let b = get_or c.args.bytes.now c.loop-k.k 0 in
    let same : c.is_ascii_alphanumeric.result ≡ is_ascii_alphanumeric b = search rules in
    rw same (ap (λ (words : Bool). words && is_word_byte b) c.loop-k.invariant
    ∙ sym (list_all_more is_word_byte c.args.bytes.now c.loop-k.k 0 (search rules)))
