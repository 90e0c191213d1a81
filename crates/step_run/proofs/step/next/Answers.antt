-- `step::next`: the four numbers of a step. Assumes nothing.
use Rattle.std.proofs.Common.{rules, ◌+◌, ap, ◌∙◌}
use mir.Syntax.{w32}
use mir.ValLaws.{to_z-of_z}
use Rattle.algebra.specs.Lists.{at}
use Rattle.meaning.specs.Refusal.{number_in}
use Rattle.steps.specs.Numbers.{cell_of, step_from}
use Rattle.step_run.specs.Parts.{step_at}
use Rattle.step_run.proofs.Laws.{step-moved}
use Rattle.step_run.proofs.step.next.Goals as goal

pub returns : goal.returns
returns c =
    let s = c.args in
    let l = s.steps.now in
    let o = to_z-of_z w32 (at l s.i) (search rules) in
    let t = c.cell-t.ensures ∙ ap cell_of (to_z-of_z w32 (at l (s.i + 1)) (search rules)) in
    let a = c.cell-a.ensures ∙ ap cell_of (to_z-of_z w32 (at l (s.i + 2)) (search rules)) in
    let d = to_z-of_z w32 (at l (s.i + 3)) (search rules) in
    step-moved s.n s.values.now _ s.written.now _ (number_in c.one.result) _ (step_at l s.i) (λ j. step_from (o j) (t j) (a j) (d j)) c.one.ensures
