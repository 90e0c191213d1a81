-- `run::follow`: the step at a place is refused, or is taken, or there is none left. Assumes nothing.
use Rattle.std.proofs.Common.{rules, arith, ◌≡◌, ◌+◌, ◌*◌, ℕ, drop, sym, ap, ◌∙◌}
use Rattle.meaning.specs.Refusal.{number_in, refusal_number}
use Rattle.steps.specs.Steps.{run, refused, multiplies}
use Rattle.steps.specs.Numbers.{decode}
use Rattle.steps.specs.Outcome.{whole_numbers}
use Rattle.step_run.specs.Parts.{state, tell, tell_count, step_at}
use Rattle.step_run.proofs.Ends.{told, numbered}
use Rattle.step_run.proofs.Laws.{stops, goes-counted, ends}
use Rattle.step_run.proofs.run.follow.Goals as goal

pub returns-in_err-next : goal.returns-in_err-next
returns-in_err-next c =
    let s = c.args in
    let l = c.loop-k in
    let r = c.in_err-next.field-0.0 in
    let left = state c.next.new.values c.next.new.written in
    let e : tell_count c.from_residual.result left ≡ refused (refusal_number r) = search rules in
    e ∙ told (refusal_number r) (left l.count) (numbered r)
    ∙ stops s.n s.steps.now (4 * l.k) (state l.values l.written l.count) (refusal_number r) _ (left l.count) (omega (arith, c.loop-k-test.true)) (numbered r)
    (ap (λ (q : ℕ). tell q (left (l.count + multiplies (step_at s.steps.now (4 * l.k))))) (sym (ap number_in c.in_err-next.was)) ∙ c.next.ensures l.count)
    ∙ l.invariant.1

pub loop-k-preserved : goal.loop-k-preserved
loop-k-preserved c =
    let s = c.args in
    let l = c.loop-k in
    let i = 4 * l.k in
    let e : 4 * (l.k + 1) ≡ i + 4 = omega arith in (
      omega (arith, c.multiplies-count.ensures.1, l.invariant.0),
      ap (λ (j : ℕ). run whole_numbers s.n (decode (drop j s.steps.now)) (state c.next.new.values c.next.new.written (l.count + c.multiplies-count.result))) e
          ∙ goes-counted s.n s.steps.now i (state l.values l.written l.count) (number_in c.next.result) _ _ l.count c.multiplies-count.result
          (omega (arith, c.loop-k-test.true)) (ap number_in c.in_ok-next.was) c.multiplies-count.ensures.0 (c.next.ensures l.count)
          ∙ l.invariant.1,
    )

pub returns : goal.returns
returns c =
    let l = c.loop-k in
    ends c.args.n c.args.steps.now (4 * l.k) (state l.values l.written l.count) (omega (arith, c.loop-k-test.false)) ∙ l.invariant.1
