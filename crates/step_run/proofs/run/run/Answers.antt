-- `run::run`: the first refusal before any step, or the run. Assumes nothing.
use Rattle.std.proofs.Common.{arith, ◌≡◌, ◌/◌, length, List, [], ap, sym, ◌∙◌}
use Rattle.algebra.specs.Refusals.{Test, number_of}
use Rattle.algebra.proofs.Refusals.{refused-first, passed_first}
use Rattle.meaning.specs.Refusal.{number_in, refusal_number}
use Rattle.steps.specs.Steps.{StepList, whole_run}
use Rattle.steps.specs.Numbers.{list_of}
use Rattle.steps.specs.Outcome.{Result, untouched, list_tests, given, whole_numbers, steps_outcome}
use Rattle.step_run.proofs.Ends.{tests-are, passed, numbered}
use Rattle.step_run.proofs.run.run.Goals as goal
use Rattle.step_run.proofs.run.run.Goals.{After-refusal}

abbrev list : After-refusal → StepList
list c = list_of c.args.inputs c.args.cells c.args.steps.now c.args.outs.now

abbrev tests : After-refusal → List Test
tests c = list_tests (length (list c).steps) c.args.cells c.args.inputs (length (list c).outs) (length c.args.x.now) (length c.args.y.now)

abbrev done : After-refusal → Result
done c = given c.args.y.now (whole_run whole_numbers (list c) c.args.x.now)

-- the refusal is that of the list
number_is : (c : After-refusal) → number_in c.refusal.result ≡ number_of (tests c)
number_is c =
    let s = c.args in
    c.refusal.ensures ∙ ap number_of (tests-are s.inputs s.cells s.steps.now s.outs.now (length s.x.now) (length s.y.now))

pub returns-in-Err : goal.returns-in-Err
unfolding steps_outcome
returns-in-Err c =
    let s = c.args in
    let R = (goal.at.returns-in-Err c).After-refusal in
    let r = c.in-Err.refusal in
    let e : refusal_number r ≡ number_of (tests R) = sym (ap number_in c.in-Err.is) ∙ number_is R in
    (λ i. (c.from.ensures i, s.y.now)) ∙ ap (untouched s.y.now) e
    ∙ sym (refused-first [] (λ number place. untouched s.y.now number) (done R) (tests R) tt (λ z. numbered r (e ∙ z)))

pub accepted-requires : goal.accepted-requires
accepted-requires c =
    let s = c.args in
    let p = passed (length s.steps.now / 4) s.cells s.inputs (length s.outs.now) (length s.x.now) (length s.y.now) (sym c.refusal.ensures ∙ ap number_in c.in_default.is) in
    ((omega (arith, p.0.0), p.0.1), p.1)

pub returns : goal.returns
unfolding steps_outcome
returns c =
    let s = c.args in
    let R = (goal.at.returns c).After-refusal in
    (λ i. (c.from-2.ensures i, c.accepted.new.y)) ∙ c.accepted.ensures
    ∙ sym (passed_first [] (λ number place. untouched s.y.now number) (done R) (tests R) tt (sym (number_is R) ∙ ap number_in c.in_default.is))
