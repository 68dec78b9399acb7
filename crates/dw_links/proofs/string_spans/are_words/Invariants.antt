use Rattle.std.proofs.Common.{◌≡◌, take}
use Rattle.std.specs.List.{list_all}
use Rattle.dw_links.specs.StringSpans.{is_word_byte}
use Rattle.dw_links.proofs.string_spans.are_words.Given as goal

abbrev pub invariant-loop-k : goal.invariant-loop-k
invariant-loop-k l = l.words ≡ list_all is_word_byte (take l.k l.bytes)
