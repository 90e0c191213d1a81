-- `list::list`: the list of n points, or 1. Assumes nothing.
use Rattle.std.proofs.Common.{arith, ℕ, [], refl, ap, sym, ◌∙◌}
use Rattle.steps.specs.Lists.{list4, list16, list32}
use Rattle.step_lists.specs.Listed.{HandedList, listed, list_outcome}
use Rattle.step_lists.proofs.ByList.{handed-list, not_listed}
use Rattle.step_lists.proofs.list.list.Goals as goal

pub returns-in-4 : goal.returns-in-4
unfolding list4
returns-in-4 c =
    let s = c.args in
    c.hand.ensures ∙ handed-list 4 c.steps_4.result c.outs_4.result c.steps_4.ensures c.outs_4.ensures refl s.steps.now s.outs.now
    ∙ ap (λ (n : ℕ). list_outcome n s.steps.now s.outs.now) (sym c.in-4.is)

pub returns-in-16 : goal.returns-in-16
unfolding list16
returns-in-16 c =
    let s = c.args in
    c.hand-in-16.ensures ∙ handed-list 16 c.steps_16.result c.outs_16.result c.steps_16.ensures c.outs_16.ensures refl s.steps.now s.outs.now
    ∙ ap (λ (n : ℕ). list_outcome n s.steps.now s.outs.now) (sym c.in-16.is)

pub returns-in-32 : goal.returns-in-32
unfolding list32
returns-in-32 c =
    let s = c.args in
    c.hand-in-32.ensures ∙ handed-list 32 c.steps_32.result c.outs_32.result c.steps_32.ensures c.outs_32.ensures refl s.steps.now s.outs.now
    ∙ ap (λ (n : ℕ). list_outcome n s.steps.now s.outs.now) (sym c.in-32.is)

pub returns-in_default : goal.returns-in_default
unfolding list_outcome
returns-in_default c =
    let s = c.args in
    ◌∙◌ {A = HandedList} (λ i. ((c.told.ensures ∙ ap (λ (k : ℕ). listed k 0 0 [] []) c.number.ensures) i, (s.steps.now, s.outs.now)))
    (rw (not_listed s.n (λ q. omega arith) (λ q. omega arith) (λ q. omega arith)))
