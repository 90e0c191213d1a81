-- `total` meets its contract: the first refusal that applies, or the line with number 0. Assumes nothing.
use Rattle.std.proofs.Common.{sym, ◌∙◌}
use Rattle.algebra.specs.Lists.{at}
use Rattle.meaning.specs.Answer.{Outcome, accepted}
use Rattle.meaning.proofs.AcceptedCalls.{line_taken}
use Rattle.full_line.specs.Lines.{line_of}
use Rattle.line.proofs.Answered.{turned-down, carried-out}
use Rattle.line.proofs.total.Goals as goal

pub returns-in-Err : goal.returns-in-Err
returns-in-Err c =
    let s = c.args in
    turned-down s.n s.kind s.x.now s.y.now (accepted 0, line_of s.forward s.kind s.n (at s.x.now)) c.in-Err.refused c.at.ensures c.in-Err.ensures

pub full-requires : goal.full-requires
full-requires c = line_taken _ _ _ _ (sym c.in_default.ensures)

pub returns : goal.returns
returns c =
    let s = c.args in
    let done : Outcome = (accepted 0, line_of s.forward s.kind s.n (at s.x.now)) in
    ◌∙◌ {b = done} (λ i. (c.accepted.ensures i, c.full.ensures i)) (carried-out s.n s.kind s.x.now s.y.now done c.in_default.ensures)
