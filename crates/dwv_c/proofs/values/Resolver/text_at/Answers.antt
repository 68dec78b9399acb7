use Rattle.std.proofs.Common.{rules, refl}
use Rattle.dw_image.proofs.LookupLemmas.{text_short}
use Rattle.dwv_c.proofs.NameLemmas.{starts_within, string_in_file}
use Rattle.dwv_c.proofs.values.Resolver.text_at.Goals as goal

pub overflow_cast-length : goal.overflow_cast-length
overflow_cast-length c = search (rules, text_short)

pub overflow_add-section : goal.overflow_add-section
overflow_add-section c = search (rules, starts_within)

pub overflow_add-section-in-Str : goal.overflow_add-section-in-Str
overflow_add-section-in-Str c = search (rules, starts_within)

pub overflow_add-section-in-LineStr : goal.overflow_add-section-in-LineStr
overflow_add-section-in-LineStr c = search (rules, starts_within)

pub returns-in-Info : goal.returns-in-Info
returns-in-Info c =
    rw c.in-Info.is (record {
      section_is = refl;
      start_is = refl;
      length_is = rw (c.args.self.now.same, c.in-Info.is) at c.span-length.ensures.long;
      place = string_in_file _ _ _ _ c.args.self.now.there.info (rw c.in-Info.is at c.requires);
    })

pub returns-in-Str : goal.returns-in-Str
returns-in-Str c =
    rw c.in-Str.is (record {
      section_is = refl;
      start_is = refl;
      length_is = rw (c.args.self.now.same, c.in-Str.is) at c.span-length.ensures.long;
      place = string_in_file _ _ _ _ c.args.self.now.there.str (rw c.in-Str.is at c.requires);
    })

pub returns-in-LineStr : goal.returns-in-LineStr
returns-in-LineStr c =
    rw c.in-LineStr.is (record {
      section_is = refl;
      start_is = refl;
      length_is = rw (c.args.self.now.same, c.in-LineStr.is) at c.span-length.ensures.long;
      place = string_in_file _ _ _ _ c.args.self.now.there.line_str (rw c.in-LineStr.is at c.requires);
    })
