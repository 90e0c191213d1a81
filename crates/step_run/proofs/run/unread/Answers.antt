-- `run::unread` meets its contract. Assumes nothing.
use Rattle.std.proofs.Common.{rules, arith, ◌≡◌, ◌+◌, false, get_or, drop, sym, ap, ◌∙◌}
use mathlib.Core.Bool.{cond}
use lib.Dec.{ltb}
use mir.Syntax.{w32}
use mir.ValLaws.{to_z-of_z}
use borrow.Author.Tests.{le-ltb, lt-ltb}
use Rattle.algebra.specs.Lists.{at}
use Rattle.steps.specs.Numbers.{cell_of}
use Rattle.step_run.specs.Parts.{outs_refusal}
use Rattle.step_run.proofs.Laws.{unread-at, unread-end}
use Rattle.step_run.proofs.run.unread.Goals as goal
use Rattle.step_run.proofs.run.unread.Goals.{After-cell-o}

-- the output cell at its place
here : (c : After-cell-o) →
    outs_refusal c.args.n c.args.written.now (drop c.loop-out.out-index c.args.outs.now)
    ≡ cond (ltb c.cell-o.result c.args.n)
    (cond (get_or c.args.written.now c.cell-o.result false) (outs_refusal c.args.n c.args.written.now (drop (c.loop-out.out-index + 1) c.args.outs.now)) 17) 28
here c =
    let i = c.loop-out.out-index in
    unread-at c.args.n c.args.written.now c.args.outs.now i c.cell-o.result c.loop-out-test.true
    (c.cell-o.ensures ∙ ap cell_of (to_z-of_z w32 (at c.args.outs.now i) (search rules)))

pub returns-then-n-o : goal.returns-then-n-o
returns-then-n-o c = sym (c.loop-out.invariant ∙ here (goal.at.returns-then-n-o c).After-cell-o ∙ rw (le-ltb _ _ c.if-n-o.true))

pub returns-then-not-written-o : goal.returns-then-not-written-o
returns-then-not-written-o c =
    sym (c.loop-out.invariant ∙ here (goal.at.returns-then-not-written-o c).After-cell-o ∙ rw (lt-ltb _ _ c.if-n-o.false, c.if-not-written-o.true))

pub loop-out-preserved : goal.loop-out-preserved
loop-out-preserved c =
    c.loop-out.invariant ∙ here (goal.at.loop-out-preserved c).After-cell-o ∙ rw (lt-ltb _ _ c.if-n-o.false, c.if-not-written-o.false)

pub returns : goal.returns
returns c = sym (c.loop-out.invariant ∙ unread-end c.args.n c.args.written.now c.args.outs.now c.loop-out.out-index (omega (arith, c.loop-out-test.false)))
