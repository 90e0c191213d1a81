use Rattle.std.proofs.Common.{rules, arith, sym, ap, ◌∙◌, w16, w32}
use Rattle.std.proofs.lemmas.Int.{to_z-of_z}
use Rattle.algebra.specs.Clip.{clip}
use Rattle.algebra.specs.Lists.{at}
use Rattle.algebra.proofs.Lists.{fill_none, fill-first, filled-to}
use Rattle.meaning.specs.Plan.{short_range}
use Rattle.inverse_stage.proofs.settle.clipped.Goals as goal

pub loop-x-init : goal.loop-x-init
loop-x-init c = fill_none 0 _ _

pub loop-x-preserved : goal.loop-x-preserved
loop-x-preserved c =
    fill-first _ (omega arith) c.loop-x.invariant
    (to_z-of_z w16 c.clip16.result (search rules) ∙ c.clip16.ensures ∙ ap (clip short_range) (to_z-of_z w32 (at c.args.e.now c.loop-x.x) (search rules)))

pub returns : goal.returns
returns c = filled-to (sym c.requires) (omega arith) c.loop-x-test.false c.loop-x.invariant
