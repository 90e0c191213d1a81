use Rattle.std.proofs.Common.{arith, ◌≡◌, refl, sym, ◌∙◌, length}
use Rattle.salvage.proofs.Searching.{not-here, here, at-end}
use Rattle.salvage.proofs.search.next_after.Goals as goal

pub loop-i-init : goal.loop-i-init
loop-i-init c = refl

pub returns-then-goes_on : goal.returns-then-goes_on
returns-then-goes_on c = here c.args.file.now c.loop-i.i c.loop-i-test.true (sym c.goes_on.ensures ∙ c.if-goes_on.true) c.loop-i.invariant

pub loop-i-preserved : goal.loop-i-preserved
loop-i-preserved c = not-here c.args.file.now c.loop-i.i c.loop-i-test.true (sym c.goes_on.ensures ∙ c.if-goes_on.false) c.loop-i.invariant

pub returns : goal.returns
returns c =
    let last : c.loop-i.i ≡ length c.args.file.now = omega (arith, c.requires, c.loop-i.auto.i-end, c.loop-i-test.false) in
    sym last ∙ at-end c.args.file.now c.loop-i.i (omega arith) c.loop-i.invariant
