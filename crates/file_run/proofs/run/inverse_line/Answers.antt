-- What the call hands back makes the turn. Assumes nothing.
use Rattle.std.proofs.Common.{refl, arith}
use Rattle.file_text.proofs.Writing.{within}
use Rattle.file_run.proofs.Turns.{same_turn, at_most, inverse-refused, inverse-made}
use Rattle.file_run.proofs.run.inverse_line.Goals as goal

pub returns-then-answer-ne0 : goal.returns-then-answer-ne0
returns-then-answer-ne0 c =
    let a = c.args in
    let call = c.inverse-answer in
    let e = inverse-refused a.shape a.coefficients.now a.residuals.now a.offset a.next call.result call.new.residuals c.requires.0 call.ensures c.if-answer-ne0.true in
    at_most (same_turn e c.refused.ensures) (omega arith)

pub returns : goal.returns
returns c =
    let a = c.args in
    let call = c.inverse-answer in
    let e = inverse-made a.shape a.coefficients.now a.residuals.now a.offset a.next call.result call.new.residuals c.requires.0 call.ensures c.if-answer-ne0.false in
    same_turn e (record { wrote = within c.put_inverse-end.ensures (omega arith); ends = refl; number = refl; next = refl })
