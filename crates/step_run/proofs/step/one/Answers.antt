-- `step::one`: 28, then 17, then what `store` says. Assumes nothing.
use Rattle.std.proofs.Common.{rules, ◌≡◌, ◌+◌, true, false, get_or, sym, ap, ◌∙◌}
use mathlib.Core.Bool.{cond, ◌&&◌}
use lib.Dec.{ltb}
use lib.ListN.{set}
use mir.Syntax.{w32, w64}
use mir.ValLaws.{to_z-of_z}
use Rattle.algebra.specs.Lists.{at}
use Rattle.steps.specs.Steps.{ran, refused, multiplies}
use Rattle.steps.specs.Numbers.{cell_of, step_from}
use Rattle.steps.specs.Outcome.{fits32}
use Rattle.step_run.specs.Parts.{reads_two, combined, state}
use Rattle.step_run.proofs.Laws.{step-parts}
use Rattle.step_run.proofs.step.one.Goals as goal

pub returns : goal.returns
returns c =
    let s = c.args in
    let w = s.written.now in
    let step = step_from s.o s.t s.a s.d in
    let two = c.reads_two-two.ensures ∙ ap reads_two (to_z-of_z w32 s.o c.ranges.o) in
    let m = c.second-b.ensures ∙ (λ i. cond (two i) (cell_of (to_z-of_z w32 s.d c.ranges.d i)) s.a) in
    let e = sym (c.inside.ensures ∙ (λ i. ltb s.t s.n && (ltb s.a s.n && ltb (m i) s.n))) ∙ c.if-not-inside.false in
    let f : get_or w s.a false && get_or w (cond (reads_two s.o) (cell_of s.d) s.a) false ≡ true =
    ap (λ m. get_or w s.a false && get_or w m false) (sym m) ∙ sym c.known.ensures ∙ c.if-not-known.false in
    let y = to_z-of_z w32 c.operand-y.result (search rules) ∙ c.operand-y.ensures ∙ (λ i. cond (two i) (at s.values.now (m i)) (to_z-of_z w32 s.d c.ranges.d i)) in
    let z = to_z-of_z w64 c.combine-z.result (search rules) ∙ c.combine-z.ensures
    ∙ (λ i. combined (to_z-of_z w32 s.o c.ranges.o i) (to_z-of_z w32 (at s.values.now s.a) (search rules) i) (y i)) in
    λ k. c.store.ensures (k + multiplies step)
    ∙ (λ i. cond (fits32 (z i)) (ran (state (set s.values.now s.t (z i)) (set w s.t true) (k + multiplies step))) (refused 29))
    ∙ sym (step-parts s.o s.t s.a s.d s.n s.values.now w k ∙ rw (e, f))
