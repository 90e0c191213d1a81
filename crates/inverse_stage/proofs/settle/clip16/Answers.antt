use Rattle.std.proofs.Common.{rules, arith, ℤ, pos, ◌≡◌, w16, w32, SFits}
use Rattle.std.proofs.lemmas.Int.{ints, to_z-of_z}
use Rattle.std.specs.Int.{int_max, int_min}
use lib.IntN.{negsuc}
use Rattle.algebra.specs.Clip.{clip}
use Rattle.algebra.proofs.Order.{le_parts, parts-fit}
use Rattle.meaning.specs.Plan.{short_range}
use Rattle.inverse_stage.proofs.settle.clip16.Goals as goal

clamped : (v : ℤ) → int_max (negsuc 32767) (int_min v (pos 32767)) ≡ clip short_range v
unfolding short_range
clamped v = grind (arith, ints)

pub returns : goal.returns
returns c =
    let r = c.clamp.result in
    let in16 : SFits w16 r = parts-fit w16 r (omega (arith, le_parts c.clamp.ensures.lower_bound, le_parts c.clamp.ensures.upper_bound)) (omega (arith, le_parts c.clamp.ensures.lower_bound, le_parts c.clamp.ensures.upper_bound)) in
    rw (to_z-of_z w32 r (search rules), to_z-of_z w16 r in16, c.clamp.ensures.value, to_z-of_z w32 c.args.v c.ranges.v) (clamped c.args.v)
