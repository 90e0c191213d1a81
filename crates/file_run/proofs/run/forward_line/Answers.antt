-- What the call hands back makes the turn. Assumes nothing.
use Rattle.std.proofs.Common.{refl, arith}
use Rattle.file_text.proofs.Writing.{within}
use Rattle.file_run.proofs.Turns.{same_turn, at_most, forward-refused, forward-made}
use Rattle.file_run.proofs.run.forward_line.Goals as goal

pub returns-then-answer-ne0 : goal.returns-then-answer-ne0
returns-then-answer-ne0 c =
    let a = c.args in
    let call = c.forward-answer in
    let e = forward-refused a.shape a.residuals.now a.coefficients.now a.offset a.next call.result call.new.coefficients c.requires.0 call.ensures c.if-answer-ne0.true in
    at_most (same_turn e c.refused.ensures) (omega arith)

pub returns : goal.returns
returns c =
    let a = c.args in
    let call = c.forward-answer in
    let e = forward-made a.shape a.residuals.now a.coefficients.now a.offset a.next call.result call.new.coefficients c.requires.0 call.ensures c.if-answer-ne0.false in
    same_turn e (record { wrote = within c.put_forward-end.ensures (omega arith); ends = refl; number = refl; next = refl })
