use Rattle.dw_links.proofs.HeldTexts.{texts_of}
use Rattle.dw_links.proofs.laws.strings_have_texts.Goals as goal

pub returns : goal.returns
returns c = texts_of
