-- `live_of_4` meets its contract. Assumes nothing.
use native.Mathlib.Omega.{arith}
use mathlib.Core.Path.{ap}
use Prim.Native.Nat.{ℕ}
use Rattle.kernel_picks.specs.Picks.{is_kernel}
use Rattle.dct2_block.proofs.worked.live_of_4.Statement.{statement}
use Rattle.dct2_block.proofs.worked.live_of_4.Tie as tie

returns : tie.Need-returns-then-n-eq8
unfolding is_kernel
returns c p = ((λ count. ap (λ (n : ℕ). is_kernel count n 8) c.if-n-eq8.true), omega (arith, c.if-n-eq8.true))

returns-2 : tie.Need-returns-then-n-eq16
unfolding is_kernel
returns-2 c p = ((λ count. ap (λ (n : ℕ). is_kernel count n 16) c.if-n-eq16.true), omega (arith, c.if-n-eq16.true))

returns-3 : tie.Need-returns
returns-3 c p = absurd (omega arith)

pub live_of_4_spec : {M : Type 1} → statement M
live_of_4_spec = tie.close (tie.spec returns returns-2 returns-3)
