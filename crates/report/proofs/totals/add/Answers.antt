use Rattle.std.proofs.Common.{sym, ap, ◌∙◌, arith}
use Rattle.report.specs.Totals.{plus}
use Rattle.report.proofs.Counting.{add-limit, add-more}
use Rattle.report.proofs.totals.add.Goals as goal

pub returns-then-totals-ge65536 : goal.returns-then-totals-ge65536
returns-then-totals-ge65536 c =
    let s = c.args in
    (λ i. (c.at.ensures i, s.totals.now)) ∙ sym (add-limit s.totals.now s.shape s.residuals.now (omega (arith, c.if-totals-ge65536.true)))

pub returns : goal.returns
returns c =
    let s = c.args in
    let y = c.tally-answer.ensures in
    (λ i. (y.0 i, (c.count.ensures ∙ ap (plus 577 1) y.1) i)) ∙ sym (add-more s.totals.now s.shape s.residuals.now (omega (arith, c.if-totals-ge65536.false)))
