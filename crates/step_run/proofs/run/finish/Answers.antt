-- `run::finish`: the first output cell that is refused, or what the output cells hold. Assumes nothing.
use Rattle.std.proofs.Common.{rules, ◌≡◌, ◌∙◌, ap, sym}
use Rattle.meaning.specs.Refusal.{number_in, refusal_number}
use Rattle.steps.specs.Counted.{step_count}
use Rattle.step_run.proofs.Ends.{not-read, all_read, numbered}
use Rattle.step_run.proofs.run.finish.Goals as goal

pub returns-in_err-unread : goal.returns-in_err-unread
returns-in_err-unread c =
    let s = c.args in
    let r = c.in_err-unread.field-0.0 in
    let e : step_count c.from_residual.result ≡ record { number = refusal_number r; count = 0 } = search rules in
    (λ i. (e i, s.y.now))
    ∙ not-read s.n s.outs.now s.y.now s.values.now s.written.now s.count (refusal_number r) (sym (ap number_in c.in_err-unread.was) ∙ c.unread.ensures) (numbered r)

pub returns : goal.returns
returns c =
    let s = c.args in
    (λ i. (record { number = 0; count = s.count }, c.hand_over.ensures i))
    ∙ all_read s.n s.outs.now s.y.now s.values.now s.written.now s.count (number_in c.unread.result) c.unread.ensures (ap number_in c.in_ok-unread.was)
