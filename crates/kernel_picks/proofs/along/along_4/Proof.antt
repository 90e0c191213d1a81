-- `along_4` meets its contract. Assumes nothing.
use mathlib.Core.Path.{◌≡◌, sym, ◌∙◌, subst}
use Prim.Native.Nat.{ℕ}
use lib.IntN.{ℤ}
use mir.Syntax.{w32}
use mir.Val.{to_z, of_z}
use mir.ValLaws.{to_z-of_z}
use Rattle.algebra.specs.Lists.{block}
use Rattle.product.specs.Product.{shifted}
use Rattle.kernel_levels.specs.Kernels.{Rowed, rows_sum}
use Rattle.kernel_picks.proofs.along.along_4.Statement.{statement}
use Rattle.kernel_picks.proofs.along.along_4.Tie as tie

half_is : (c : tie.Start) → to_z w32 (of_z w32 c.args.half) ≡ c.args.half
half_is c = to_z-of_z w32 c.args.half c.ranges.half

first-along-4-requires : tie.Need-first_along_4-requires
first-along-4-requires c κs = (c.before.before.requires.0, (subst (λ (k : ℕ). Rowed c.before.before.args.wide 4 k (to_z w32 (of_z w32 c.before.before.args.half)) c.before.before.args.shift c.before.before.args.m.now) c.before.if-apart-eq32.true (subst (λ (z : ℤ). Rowed c.before.before.args.wide 4 c.before.before.args.apart z c.before.before.args.shift c.before.before.args.m.now) (sym (half_is c.before.before)) c.before.before.requires.1.0), c.before.before.requires.1.1))

same_length : tie.Need-shape_of-r-then-apart-eq32
same_length c = c.before.first_along_4.auto.r

returns : tie.Need-returns-then-apart-eq32
returns c = c.before.first_along_4.ensures ∙ (λ t. block c.before.before.before.before.args.w 4 (λ j l. shifted (half_is c.before.before.before.before t) c.before.before.before.before.args.shift (rows_sum c.before.before.before.before.args.w c.before.before.before.before.args.wide 4 (sym c.before.before.before.if-apart-eq32.true t) c.before.before.before.before.args.m.now j l)))

next-along-4-requires : tie.Need-next_along_4-requires
next-along-4-requires c κs = (c.before.before.requires.0, (subst (λ (z : ℤ). Rowed c.before.before.args.wide 4 c.before.before.args.apart z c.before.before.args.shift c.before.before.args.m.now) (sym (half_is c.before.before)) c.before.before.requires.1.0, c.before.before.requires.1.1))

same-length-2 : tie.Need-shape_of-r
same-length-2 c = c.before.next_along_4.auto.r

returns-2 : tie.Need-returns
returns-2 c = c.before.next_along_4.ensures ∙ (λ t. block c.before.before.before.before.args.w 4 (λ j l. shifted (half_is c.before.before.before.before t) c.before.before.before.before.args.shift (rows_sum c.before.before.before.before.args.w c.before.before.before.before.args.wide 4 c.before.before.before.before.args.apart c.before.before.before.before.args.m.now j l)))

pub along_4_spec : {M : Type 1} → statement M
along_4_spec = tie.close (tie.spec first-along-4-requires same_length returns next-along-4-requires same-length-2 returns-2)
