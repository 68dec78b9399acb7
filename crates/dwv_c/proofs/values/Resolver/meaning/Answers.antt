use Rattle.std.proofs.Common.{refl}
use Rattle.dw_forms.specs.Value.{address, addr_index, line_str, str, str_index}
use Rattle.dw_image.specs.Images.{sections_in, units_in}
use Rattle.dwv_c.proofs.MeaningLemmas.{address_means, text_means}
use Rattle.dwv_c.proofs.ValueLemmas.{lies}
use Rattle.dwv_c.proofs.values.Resolver.meaning.Goals as goal

pub returns-in-Text : goal.returns-in-Text
returns-in-Text c = rw c.in-Text.is c.text.ensures

pub text_at-requires : goal.text_at-requires
text_at-requires c =
    lies c.args.self.now.image.now c.args.unit c.requires.unit (str c.in-Str.offset)
    (rw c.in-Str.is at c.requires.value)

pub text_at-requires-in-LineStr : goal.text_at-requires-in-LineStr
text_at-requires-in-LineStr c =
    lies c.args.self.now.image.now c.args.unit c.requires.unit (line_str c.in-LineStr.offset)
    (rw c.in-LineStr.is at c.requires.value)

pub place_of_index-requires-clause-lies : goal.place_of_index-requires-clause-lies
unfolding units_in sections_in
place_of_index-requires-clause-lies c =
    rw c.scanned-entries.ensures (lies c.args.self.now.image.now c.args.unit c.requires.unit
    (str_index c.in-StrIndex.index) (rw c.in-StrIndex.is at c.requires.value))

pub text_at-requires-in-StrIndex : goal.text_at-requires-in-StrIndex
unfolding units_in sections_in
text_at-requires-in-StrIndex c = (rw c.scanned-entries.ensures at c.place_of_index.ensures).begins

pub address_of_index-requires-clause-lies : goal.address_of_index-requires-clause-lies
unfolding units_in sections_in
address_of_index-requires-clause-lies c =
    rw c.scanned-entries-in-AddrIndex.ensures (lies c.args.self.now.image.now c.args.unit c.requires.unit
    (addr_index c.in-AddrIndex.index) (rw c.in-AddrIndex.is at c.requires.value))

pub returns-in-Str : goal.returns-in-Str
returns-in-Str c =
    rw c.in-Str.is (text_means c.args.self.now.holders c.args.self.now.image.now c.args.unit c.requires.unit c.args.end
    (str c.in-Str.offset) _ _ _ refl refl c.text_at.ensures)

pub returns-in-LineStr : goal.returns-in-LineStr
returns-in-LineStr c =
    rw c.in-LineStr.is (text_means c.args.self.now.holders c.args.self.now.image.now c.args.unit c.requires.unit
    c.args.end (line_str c.in-LineStr.offset) _ _ _ refl refl c.text_at-in-LineStr.ensures)

pub returns-in-StrIndex : goal.returns-in-StrIndex
unfolding units_in sections_in
returns-in-StrIndex c =
    let is = rw c.scanned-entries.ensures at c.place_of_index.ensures in
    rw c.in-StrIndex.is (text_means c.args.self.now.holders c.args.self.now.image.now c.args.unit c.requires.unit
    c.args.end (str_index c.in-StrIndex.index) _ _ _ is.text (is.place c.args.end) c.text_at-in-StrIndex.ensures)

pub returns-in-Addr : goal.returns-in-Addr
returns-in-Addr c =
    rw c.in-Addr.is (address_means c.args.self.now.holders c.args.self.now.image.now c.args.unit c.requires.unit
    c.args.end (address c.in-Addr.address) c.in-Addr.address refl)

pub returns-in-AddrIndex : goal.returns-in-AddrIndex
unfolding units_in sections_in
returns-in-AddrIndex c =
    rw c.in-AddrIndex.is (address_means c.args.self.now.holders c.args.self.now.image.now c.args.unit c.requires.unit
    c.args.end (addr_index c.in-AddrIndex.index) _
    (rw c.scanned-entries-in-AddrIndex.ensures at c.address_of_index.ensures))

pub returns-in-RefInfo : goal.returns-in-RefInfo
returns-in-RefInfo c = c.reference.ensures c.args.end

pub returns-in-Block : goal.returns-in-Block
returns-in-Block c e in_unit = rw c.in-Block.is (refl, c.span.ensures)

pub returns-in-Expr : goal.returns-in-Expr
returns-in-Expr c e in_unit = rw c.in-Expr.is (refl, c.span-in-Expr.ensures)

pub returns-in-Wide : goal.returns-in-Wide
returns-in-Wide c e in_unit = rw c.in-Wide.is (refl, c.span-in-Wide.ensures)
