use Rattle.std.proofs.Common.{rules, arith, ◌≡◌, ◌+◌, ◌*◌, length, sym, ap, ◌∙◌, w16}
use Rattle.std.proofs.lemmas.Int.{to_z-of_z}
use borrow.Author.Tests.{lt-ltb, le-ltb}
use Rattle.algebra.specs.Lists.{at}
use Rattle.meaning.specs.Forward.{too_large, first_too_large}
use Rattle.layout.proofs.Hunting.{hunt-in, hunt-next, hunt-here, hunt-none}
use Rattle.forward_hunt.proofs.hunt.searched.Goals as goal
use Rattle.forward_hunt.proofs.hunt.searched.Goals.{After-too_large}

-- what `too_large` said is the test of the contract at this place
told : (c : After-too_large) → let s = c.args in let k = c.loop-x.x + c.hunt.y * s.shape.width in
    too_large s.shape k (at s.residuals.now k) ≡ c.too_large.result
told c =
    let s = c.args in
    let k = c.loop-x.x + c.hunt.y * s.shape.width in
    sym (c.too_large.ensures ∙ ap (too_large s.shape k) (to_z-of_z w16 (at s.residuals.now k) (search rules)))

pub loop-x-preserved : goal.loop-x-preserved
loop-x-preserved c =
    (hunt-next c.requires.1 c.hunt-test.true c.loop-x.invariant.0 c.loop-x-test.true (told (goal.at.loop-x-preserved c).After-too_large ∙ c.if-too_large.false), c.loop-x.invariant.1)

pub returns-after-hunt : goal.returns-after-hunt
returns-after-hunt c =
    let s = c.args in
    let e : length s.residuals.now ≡ first_too_large s.shape s.residuals.now = hunt-none c.requires.1 c.hunt-test.false c.hunt.invariant.0 in
    c.hunt.invariant.1 ∙ rw (← e, le-ltb (length s.residuals.now) (length s.residuals.now) (omega arith))

pub returns-then-too_large : goal.returns-then-too_large
returns-then-too_large c =
    let s = c.args in
    let k = c.loop-x.x + c.hunt.y * s.shape.width in
    let e : k ≡ first_too_large s.shape s.residuals.now =
    hunt-here c.requires.1 c.hunt-test.true c.loop-x.invariant.0 c.loop-x-test.true (told (goal.at.returns-then-too_large c).After-too_large ∙ c.if-too_large.true) in
    rw (← e, lt-ltb k (length s.residuals.now) (hunt-in s.residuals.now c.requires.1 c.loop-x-test.true c.hunt-test.true))
