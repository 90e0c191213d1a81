-- `inverse` meets its contract: the first refusal that applies, or the line with number 0. Assumes nothing.
use Rattle.std.proofs.Common.{◌∙◌}
use mathlib.Core.Bool.{false}
use Rattle.algebra.specs.Lists.{at}
use Rattle.meaning.specs.Answer.{Outcome, accepted}
use Rattle.full_line.specs.Lines.{line_of}
use Rattle.line.proofs.Answered.{turned-down, carried-out}
use Rattle.line.proofs.inverse.Goals as goal

pub returns-in-Err : goal.returns-in-Err
returns-in-Err c =
    let s = c.args in
    turned-down s.n s.kind s.x.now s.y.now (accepted 0, line_of false s.kind s.n (at s.x.now)) c.in-Err.refusal c.at.ensures c.in-Err.ensures

pub returns : goal.returns
returns c =
    let s = c.args in
    let done : Outcome = (accepted 0, line_of false s.kind s.n (at s.x.now)) in
    ◌∙◌ {b = done} (λ i. (c.accepted.ensures i, c.fast_inverse.ensures i)) (carried-out s.n s.kind s.x.now s.y.now done c.in_default.ensures)
