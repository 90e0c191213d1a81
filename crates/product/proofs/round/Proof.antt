-- `round` meets its contract. Assumes nothing.
use borrow.Author.Rules.{rules}
use Prim.Native.Nat.{◌^◌}
use Rattle.algebra.proofs.Machine.{arg≤, add, shr, add-fits, val}
use Rattle.product.proofs.round.Statement.{statement}
use Rattle.product.proofs.round.Tie as tie

add-result : tie.Need-overflow_add-result
add-result c = add-fits (arg≤ c.ranges.z c.requires.0) (arg≤ c.ranges.half c.requires.1.small) tt

cast-result : tie.Need-overflow_cast-result
cast-result c = search rules

shr-result : tie.Need-overflow_shr-result
shr-result c = search rules

returns : tie.Need-returns
returns c = val (shr (add (arg≤ c.ranges.z c.requires.0) (arg≤ c.ranges.half c.requires.1.small) tt) (2 ^ c.args.shift) tt)

pub round_spec : {M : Type 1} → statement M
round_spec = tie.close (tie.spec add-result cast-result shr-result returns)
