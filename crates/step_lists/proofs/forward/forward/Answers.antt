-- `forward::forward`: the first refusal that applies, or the line. Assumes nothing.
use Rattle.std.proofs.Common.{arith, ◌≡◌, List, [], length, ap, sym, ◌∙◌}
use Rattle.algebra.specs.Refusals.{Test, number_of}
use Rattle.algebra.proofs.Refusals.{refused-first, passed_first}
use Rattle.meaning.specs.Refusal.{refusal_number}
use Rattle.steps.specs.Outcome.{untouched}
use Rattle.meaning.proofs.RefusalNumbers.{above}
use Rattle.step_lists.specs.Listed.{step_line_tests, step_line, step_line_outcome}
use Rattle.step_lists.proofs.forward.forward.Goals as goal
use Rattle.step_lists.proofs.forward.forward.Goals.{Start}

abbrev tests : Start → List Test
tests s = step_line_tests s.args.n (length s.args.x.now) (length s.args.y.now)

pub returns-in-Err : goal.returns-in-Err
unfolding step_line_outcome
returns-in-Err c =
    let s = (goal.at.returns-in-Err c).Start in
    let e : refusal_number c.in-Err.refusal ≡ number_of (tests s) = c.in-Err.ensures in
    let p = above c.in-Err.refusal in
    (λ i. (c.from.ensures i, c.args.y.now)) ∙ ap (untouched c.args.y.now) e
    ∙ sym (refused-first [] (λ number place. untouched c.args.y.now number) (step_line c.args.n c.args.x.now) (tests s) tt (λ z. omega (arith, p, e, z)))

pub accepted-requires : goal.accepted-requires
accepted-requires c = sym c.in_default.ensures

pub returns : goal.returns
unfolding step_line_outcome
returns c =
    let s = (goal.at.returns c).Start in
    c.accepted.ensures ∙ sym (passed_first [] (λ number place. untouched c.args.y.now number) (step_line c.args.n c.args.x.now) (tests s) tt (sym c.in_default.ensures))
