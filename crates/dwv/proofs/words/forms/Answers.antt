use Rattle.std.proofs.Common.{◌≡◌, true, [], ap, ap₂, codes, ◌∙◌}
use Rattle.std.proofs.lemmas.Result.{IfOk-weaker}
use Rattle.clap.specs.Simple.{new_shape, on_top}
use Rattle.clap.specs.Words.{App, app_of, with_rule, with_subcommand}
use Rattle.dwv.specs.Words.{command_line}
use Rattle.dwv.proofs.WordLemmas.{stays_local}
use Rattle.dwv.proofs.words.forms.Goals as goal

pub returns : goal.returns
unfolding command_line
returns c =
    let check_is = c.in_ok-check.ensures.shape c.word.ensures.local
    ∙ ap₂ with_rule (c.in_ok-arg.ensures.shape c.json.ensures.local
    ∙ ap₂ with_rule c.new.ensures.app c.json.ensures.rule) c.word.ensures.rule in
    let show_is = c.in_ok-show.ensures.shape c.word-2.ensures.local
    ∙ ap₂ with_rule c.new-2.ensures.app c.word-2.ensures.rule in
    let types_is = c.in_ok-types.ensures.shape c.word-3.ensures.local
    ∙ ap₂ with_rule c.new-3.ensures.app c.word-3.ensures.rule in
    let size_is = c.in_ok-size.ensures.shape c.word-5.ensures.local
    ∙ ap₂ with_rule (c.in_ok-arg-2.ensures.shape c.word-4.ensures.local
    ∙ ap₂ with_rule c.new-4.ensures.app c.word-4.ensures.rule) c.word-5.ensures.rule in
    let check_local = stays_local _ _ _ c.in_ok-check.ensures.globals
    (stays_local _ _ _ c.in_ok-arg.ensures.globals c.new.ensures.local c.json.ensures.local) c.word.ensures.local in
    let show_local = stays_local _ _ _ c.in_ok-show.ensures.globals c.new-2.ensures.local c.word-2.ensures.local in
    let types_local = stays_local _ _ _ c.in_ok-types.ensures.globals c.new-3.ensures.local c.word-3.ensures.local in
    let size_local = stays_local _ _ _ c.in_ok-size.ensures.globals
    (stays_local _ _ _ c.in_ok-arg-2.ensures.globals c.new-4.ensures.local c.word-4.ensures.local)
    c.word-5.ensures.local in
    let top_is : app_of c.no_binary_name.result
    ≡ record { top = record (new_shape (codes "dwv")) { no_binary_name = true }; subs = [] } =
    rw c.no_binary_name.ensures (ap (on_top (λ s. record s { no_binary_name = true })) c.new-5.ensures.app) in
    let one_is = c.in_ok-subcommand.ensures.shape check_local
    ∙ ap₂ with_subcommand top_is (ap (λ (a : App). a.top) check_is) in
    let two_are = c.in_ok-subcommand-2.ensures.shape show_local
    ∙ ap₂ with_subcommand one_is (ap (λ (a : App). a.top) show_is) in
    let three_are = c.in_ok-subcommand-3.ensures.shape types_local
    ∙ ap₂ with_subcommand two_are (ap (λ (a : App). a.top) types_is) in
    IfOk-weaker c.subcommand-4.result _ _
    (λ f h. h.shape size_local ∙ ap₂ with_subcommand three_are (ap (λ (a : App). a.top) size_is))
    c.subcommand-4.ensures
