use Rattle.std.proofs.Common.{rules, arith, sym, ap, ◌∙◌}
use Rattle.std.proofs.lemmas.Bool.{true≢false}
use Rattle.meaning.specs.Inverse.{count}
use Rattle.inverse_stage.proofs.Railing.{rails-none, rails-next}
use Rattle.inverse_stage.proofs.settle.any_rail.Goals as goal
use Rattle.inverse_stage.proofs.settle.any_rail.Goals.{then-rail, else-rail}

pub loop-x-init : goal.loop-x-init
loop-x-init c = λ _. sym (rails-none c.args.e.now c.args.m.now)

pub loop-x-preserved : goal.loop-x-preserved
loop-x-preserved c =
    let next = rails-next c.args.e.now c.args.m.now c.loop-x.x (search rules) (search rules) c.rail.ensures in
    λ f. elim c.if-rail.branch [ then-rail w ↦ absurd (true≢false (sym w.found-is ∙ f)) | else-rail w ↦ omega (arith, next, ap count w.if-rail.false, c.loop-x.invariant (sym w.found-is ∙ f)) ]
