-- 2^R is at most 2^20. Assumes nothing.
use native.Mathlib.Omega.{arith}
use mathlib.Core.Path.{◌≡◌, ◌∙◌}
use Prim.Native.Nat.{ℕ, ◌-◌, ◌^◌, ◌<◌}
use lib.IntN.{pos, negsuc, neg_ℤ, ◌-ℤ◌}
use lib.Pow.{pow_pos}
use mir.Syntax.{w32}
use Rattle.algebra.proofs.Order.{up_neg, dn-neg, parts_add, parts-eq}
use Rattle.algebra.proofs.Machine.{lit, sub, sub-fits, val}
use Rattle.long_stages.proofs.Edge.{edge_of}
use Rattle.long_stages.proofs.rules.low_end.Goals as goal

-- -2^R
below : (n : ℕ) → 0 < n → pos 0 -ℤ pos n ≡ negsuc (n - 1)
below n h = parts-eq (pos 0 -ℤ pos n) (negsuc (n - 1)) (omega (arith, parts_add (pos 0) (neg_ℤ (pos n)), up_neg (pos n), dn-neg (pos n)))

pub overflow_sub-result : goal.overflow_sub-result
overflow_sub-result c = sub-fits (lit w32 0) (edge_of c.args.reach c.requires) tt

pub returns : goal.returns
returns c = val (sub (lit w32 0) (edge_of c.args.reach c.requires) tt) ∙ below (2 ^ c.args.reach) (pow_pos c.args.reach)
