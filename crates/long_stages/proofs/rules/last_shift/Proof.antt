-- `last_shift` meets its contract: R is 15 to 20, and no depth is over 20. Assumes nothing.
use borrow.Author.Rules.{rules}
use native.Mathlib.Omega.{arith}
use mathlib.Core.Path.{ap}
use Prim.Native.Nat.{ℕ, ◌+◌, ◌-◌}
use Rattle.meaning.proofs.LongRules.{reach-in}
use Rattle.long_stages.proofs.rules.last_shift.Statement.{statement}
use Rattle.long_stages.proofs.rules.last_shift.Tie as tie

reach-of-requires : tie.Need-reach_of-requires
reach-of-requires c κs = search rules

add-result : tie.Need-overflow_add-result
add-result c = let s = c.before.args in omega (arith, c.reach_of.ensures, reach-in s.extended s.d)

sub-result : tie.Need-overflow_sub-result
sub-result c = let s = c.before.args in omega (arith, c.reach_of.ensures, reach-in s.extended s.d, c.before.requires)

returns : tie.Need-returns
returns c = ap (λ (r : ℕ). 5 + r - c.before.args.d) c.reach_of.ensures

pub last_shift_spec : {M : Type 1} → statement M
last_shift_spec = tie.close (tie.spec reach-of-requires add-result sub-result returns)
