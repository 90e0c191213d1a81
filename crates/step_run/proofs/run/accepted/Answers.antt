-- `run::accepted`: the inputs, the steps, then the output cells. Assumes nothing.
use Rattle.std.proofs.Common.{rules, ◌≡◌, ℤ, ap, sym, ◌∙◌}
use mathlib.Core.List.{map}
use Rattle.meaning.specs.Refusal.{refusal_number}
use Rattle.steps.specs.Counted.{step_count}
use Rattle.steps.specs.Steps.{State, Run, and_then, run, finished, first_state}
use Rattle.steps.specs.Numbers.{cell_of, decode}
use Rattle.steps.specs.Outcome.{Result, given, whole_numbers}
use Rattle.step_run.specs.Parts.{state, tell_count}
use Rattle.step_run.proofs.Ends.{started}
use Rattle.step_run.proofs.run.accepted.Goals as goal
use Rattle.step_run.proofs.run.accepted.Goals.{After-follow}

-- the steps were followed from the cells that a run starts from
followed : (c : After-follow) →
    tell_count c.follow.result (state c.follow.new.values c.follow.new.written) ≡ run whole_numbers c.args.n (decode c.args.steps.now) (first_state whole_numbers c.args.x.now)
followed c =
    c.follow.ensures ∙ ap (λ t. run whole_numbers c.args.n (decode c.args.steps.now) t) (started c.args.x.now c.load.new.values c.load.new.written c.load.ensures.0 c.load.ensures.1)

-- what is left to do after the steps
abbrev rest : After-follow → Run (State ℤ) → Result
rest c r = given c.args.y.now (and_then r (λ st. finished whole_numbers c.args.n (map cell_of c.args.outs.now) st))

pub returns-in_err-count : goal.returns-in_err-count
returns-in_err-count c =
    let F = (goal.at.returns-in_err-count c).After-follow in
    let r = c.in_err-count.field-0.0 in
    let e : step_count c.from_residual.result ≡ record { number = refusal_number r; count = 0 } = search rules in
    (λ i. (e i, c.args.y.now))
    ∙ ap (rest F) (ap (λ q. tell_count q (state c.follow.new.values c.follow.new.written)) (sym c.in_err-count.was) ∙ followed F)

pub returns : goal.returns
returns c =
    let F = (goal.at.returns c).After-follow in
    c.finish.ensures ∙ ap (rest F) (ap (λ q. tell_count q (state c.follow.new.values c.follow.new.written)) (sym c.in_ok-count.was) ∙ followed F)
