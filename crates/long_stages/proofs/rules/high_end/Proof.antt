-- `high_end` meets its contract: 2^R is at most 2^20. Assumes nothing.
use borrow.Author.Rules.{rules}
use native.Mathlib.Omega.{arith}
use mathlib.Core.Path.{◌≡◌, ◌∙◌}
use Prim.Native.Nat.{ℕ, ◌-◌, ◌^◌, ◌<◌}
use lib.IntN.{pos, neg_ℤ, ◌-ℤ◌}
use lib.Pow.{pow_pos}
use mir.Syntax.{w32}
use Rattle.algebra.proofs.Order.{up_neg, dn-neg, parts_add, parts-eq}
use Rattle.algebra.proofs.Machine.{MV, lit, sub, sub-fits, val}
use Rattle.long_stages.proofs.Edge.{edge_of}
use Rattle.long_stages.proofs.rules.high_end.Statement.{statement}
use Rattle.long_stages.proofs.rules.high_end.Tie as tie

abbrev edge : tie.Start → MV w32
edge c = edge_of c.args.reach c.requires

-- 2^R - 1
below : (n : ℕ) → 0 < n → pos n -ℤ pos 1 ≡ pos (n - 1)
below n h = parts-eq (pos n -ℤ pos 1) (pos (n - 1)) (omega (arith, parts_add (pos n) (neg_ℤ (pos 1)), up_neg (pos 1), dn-neg (pos 1)))

cast-result : tie.Need-overflow_cast-result
cast-result c = search rules

shl-result : tie.Need-overflow_shl-result
shl-result c = search rules

sub-result : tie.Need-overflow_sub-result
sub-result c = sub-fits (edge c) (lit w32 1) tt

returns : tie.Need-returns
returns c = val (sub (edge c) (lit w32 1) tt) ∙ below (2 ^ c.args.reach) (pow_pos c.args.reach)

pub high_end_spec : {M : Type 1} → statement M
high_end_spec = tie.close (tie.spec cast-result shl-result sub-result returns)
