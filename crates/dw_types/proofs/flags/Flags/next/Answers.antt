use Rattle.std.proofs.Common.{arith, inl, inr}
use Rattle.std.proofs.lemmas.Bool.{cases_lt}
use Rattle.dw_types.proofs.FlagLemmas.{clear-flags, clear-word, flag-set, in-word}
use Rattle.dw_types.proofs.flags.Flags.next.Goals as goal

pub overflow_add-at : goal.overflow_add-at
overflow_add-at c =
    let within = in-word c.args.self.now.words.items c.loop-at.at c.index.result.now (omega arith) (omega arith)
    c.index.ensures c.if-bits-ne0.true in
    omega arith

pub returns-then-bits-ne0-clause-none : goal.returns-then-bits-ne0-clause-none
returns-then-bits-ne0-clause-none c k low below = elim (cases_lt k c.loop-at.at) [
  | inl before ↦ c.loop-at.invariant.1 k low before
  | inr after ↦
      clear-flags c.args.self.now.words.items c.loop-at.at c.index.result.now (omega arith) (omega arith)
      c.index.ensures c.if-bits-ne0.true k after (omega arith)
]

pub returns-then-bits-ne0-clause-set : goal.returns-then-bits-ne0-clause-set
returns-then-bits-ne0-clause-set c before =
    flag-set c.args.self.now.words.items c.loop-at.at c.index.result.now (omega arith) (omega arith) c.index.ensures
    c.if-bits-ne0.true c.min.result (omega arith)

pub loop-at-preserved : goal.loop-at-preserved
loop-at-preserved c = (
  omega arith,
  λ k low below. elim (cases_lt k c.loop-at.at) [
    | inl before ↦ c.loop-at.invariant.1 k low before
    | inr after ↦
        clear-word c.args.self.now.words.items c.loop-at.at c.index.result.now (omega arith) (omega arith)
        c.index.ensures c.if-bits-ne0.false k after (omega arith)
  ],
)
