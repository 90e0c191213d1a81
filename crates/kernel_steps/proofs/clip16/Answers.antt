use Rattle.std.proofs.Common.{rules, arith, ◌≡◌, ap, ◌∙◌, ℤ}
use mir.Syntax.{w16, w32}
use mir.ValLaws.{to_z-of_z}
use Rattle.algebra.specs.Clip.{clip}
use Rattle.meaning.specs.Plan.{short_range}
use Rattle.kernel_steps.proofs.clip16.Goals as goal
use Rattle.std.proofs.lemmas.Int.{ints, clamps}
use Rattle.std.specs.Int.{int_min, int_max}
use Rattle.algebra.proofs.Clip.{clip-cases}
use lib.IntN.{pos, negsuc}

clamped : (v : ℤ) → int_max (negsuc 32767) (int_min v (pos 32767)) ≡ clip short_range v
unfolding short_range
clamped v = clip-cases short_range v (λ x. int_max (negsuc 32767) (int_min v (pos 32767)) ≡ x) (λ p. omega (arith, ints, clamps)) (λ p. omega (arith, ints, clamps)) (λ p q. omega (arith, ints, clamps))

pub returns : goal.returns
returns c =
    to_z-of_z w16 _ (search rules) ∙ to_z-of_z w32 _ (search rules) ∙ c.clamp.ensures.value ∙ ap (λ (v : ℤ). int_max (negsuc 32767) (int_min v (pos 32767))) (to_z-of_z w32 c.args.v c.ranges.v) ∙ clamped c.args.v
