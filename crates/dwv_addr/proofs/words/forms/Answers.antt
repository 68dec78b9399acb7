use Rattle.std.proofs.Common.{◌≡◌, true, [], ap, ap₂, codes, ◌∙◌}
use Rattle.std.proofs.lemmas.Result.{IfOk-weaker}
use Rattle.clap.specs.Simple.{new_shape, on_top}
use Rattle.clap.specs.Words.{App, app_of, with_rule, with_subcommand}
use Rattle.dwv_addr.specs.Words.{command_line}
use Rattle.dwv_addr.proofs.WordLemmas.{stays_local}
use Rattle.dwv_addr.proofs.words.forms.Goals as goal

pub returns : goal.returns
unfolding command_line
returns c =
    let check_is = c.in_ok-check.ensures.shape c.word.ensures.local
    ∙ ap₂ with_rule (c.in_ok-arg.ensures.shape c.json.ensures.local
    ∙ ap₂ with_rule c.new.ensures.app c.json.ensures.rule) c.word.ensures.rule in
    let find_is = c.in_ok-find.ensures.shape c.more.ensures.local
    ∙ ap₂ with_rule (c.in_ok-arg-3.ensures.shape c.word-2.ensures.local
    ∙ ap₂ with_rule (c.in_ok-arg-2.ensures.shape c.json-2.ensures.local
    ∙ ap₂ with_rule c.new-2.ensures.app c.json-2.ensures.rule) c.word-2.ensures.rule) c.more.ensures.rule in
    let check_local = stays_local _ _ _ c.in_ok-check.ensures.globals
    (stays_local _ _ _ c.in_ok-arg.ensures.globals c.new.ensures.local c.json.ensures.local) c.word.ensures.local in
    let find_local = stays_local _ _ _ c.in_ok-find.ensures.globals
    (stays_local _ _ _ c.in_ok-arg-3.ensures.globals
    (stays_local _ _ _ c.in_ok-arg-2.ensures.globals c.new-2.ensures.local c.json-2.ensures.local)
    c.word-2.ensures.local) c.more.ensures.local in
    let top_is : app_of c.no_binary_name.result
    ≡ record { top = record (new_shape (codes "dwv-addr")) { no_binary_name = true }; subs = [] } =
    rw c.no_binary_name.ensures (ap (on_top (λ s. record s { no_binary_name = true })) c.new-3.ensures.app) in
    let one_is = c.in_ok-subcommand.ensures.shape check_local
    ∙ ap₂ with_subcommand top_is (ap (λ (a : App). a.top) check_is) in
    IfOk-weaker c.subcommand-2.result _ _
    (λ f h. h.shape find_local ∙ ap₂ with_subcommand one_is (ap (λ (a : App). a.top) find_is))
    c.subcommand-2.ensures
