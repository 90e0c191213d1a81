-- `values` meets its contract: by 16-bit numbers where R is 15. Assumes nothing.
use mathlib.Core.Path.{subst}
use Prim.Native.Nat.{ℕ}
use Rattle.lfnst.specs.Work.{Ranged}
use Rattle.lfnst.proofs.sums.values.Statement.{statement}
use Rattle.lfnst.proofs.sums.values.Tie as tie

short-values-requires : tie.Need-short_values-requires
short-values-requires c κs =
    let T = c.before in
    let s = T.before in
    let p = s.requires in
    (p.0, (p.1.0, (subst (λ (r : ℕ). Ranged r s.args.corner.now) T.if-reach-eq15.true p.1.1.1.0, p.1.1.1.1)))

long-values-requires : tie.Need-long_values-requires
long-values-requires c κs = c.before.before.requires

same_length : tie.Need-shape_of-v-then-reach-eq15
same_length c = c.before.short_values.ensures.long

returns : tie.Need-returns-then-reach-eq15
returns c = rw c.before.before.before.if-reach-eq15.true c.before.short_values.ensures

same-length-2 : tie.Need-shape_of-v-else-reach-eq15
same-length-2 c = c.before.long_values.ensures.long

returns-2 : tie.Need-returns-else-reach-eq15
returns-2 c = c.before.long_values.ensures

pub values_spec : {M : Type 1} → statement M
values_spec = tie.close (tie.spec short-values-requires long-values-requires same_length returns same-length-2 returns-2)
