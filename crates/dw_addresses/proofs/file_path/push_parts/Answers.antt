use Rattle.std.proofs.Common.{◌≡◌, ◌++◌, ◌<◌, List, [], ℕ, arith, refl, subst, sym, length, take, drop}
use Rattle.std.proofs.lemmas.Bool.{and_parts, eq-eqb, le-ltb, lt-ltb, ltb-true, ne_eqb}
use Rattle.std.specs.Prelude.{◌==◌, if◌then◌else◌, OnOk}
use Rattle.dw_lines.specs.Files.{FileAt, file_view, no_file}
use Rattle.dw_addresses.specs.Paths.{compilation_directory, directory_path, joined, entry_path}
use Rattle.dw_lines.specs.Programs.{fields_of}
use Rattle.dw_addresses.proofs.PathLemmas.{file_here, parts_pushed}
use Rattle.dw_addresses.proofs.file_path.push_parts.Goals as goal
use Rattle.dw_addresses.proofs.file_path.push_parts.Goals.{then-header-lt5, else-header-lt5, then-entry-eq0}
use Rattle.dw_addresses.proofs.file_path.push_parts.Goals.{else-entry-eq0}

pub returns-clause-ok : goal.returns-clause-ok
returns-clause-ok c =
    let h = fields_of c.args.header.now in
    let named = c.args.comp_dir.now in
    let entry = c.index-entry.result.now in
    let base : c.if-header-lt5.base.now ≡ compilation_directory h named = elim c.if-header-lt5.branch [
      | then-header-lt5 w ↦ rw (w.base-is, lt-ltb h.version 5 (omega arith)) refl
      | else-header-lt5 w ↦ rw (w.base-is, le-ltb h.version 5 (omega arith)) w.directory-base.ensures
    ] in
    let directory : c.if-entry-eq0.directory.now
    ≡ (if entry.directory == 0 then [] else directory_path h.tables entry.directory) = elim c.if-entry-eq0.branch [
      | then-entry-eq0 w ↦ rw (w.directory-is, eq-eqb entry.directory 0 (omega arith)) refl
      | else-entry-eq0 w ↦ rw (w.directory-is, ne_eqb entry.directory 0 (λ e. omega arith))
          w.directory-directory.ensures
    ] in
    let r = c.push_part-3.result in
    let n = c.len-start.result in
    let old = c.args.text.now.items in
    let t2 = c.push_part-2.new.text.items in
    let t3 = c.push_part-3.new.text.items in
    let long : n ≡ length old = omega (arith, c.len-start.ensures, c.args.text.now.ok.0) in
    let last = subst (λ (xs : List ℕ). OnOk r (t3 ≡ take n t2 ++ joined (drop n t2) xs)) c.bytes.ensures
    c.push_part-3.ensures.ok in
    let files = c.args.header.now.files.entries.items in
    let among : c.args.file < length files = ltb-true c.args.file (length files) (and_parts _ _ c.requires).1 in
    subst (λ (f : FileAt). OnOk r (t3 ≡ old ++ entry_path h named f))
    (sym (file_here files c.args.file entry no_file among c.index-entry.ensures))
    (parts_pushed h named (file_view entry) old c.push_part.new.text.items t2 t3 c.if-header-lt5.base.now
    c.if-entry-eq0.directory.now n r long base directory c.in_ok-push_part.ensures.ok c.in_ok-push_part-2.ensures.ok
    last)
