-- `used` meets its contract: from k on there is nothing. Assumes nothing.
use native.Mathlib.Omega.{arith}
use mathlib.Core.Path.{◌≡◌, sym, ap, ◌∙◌}
use mathlib.Core.List.{List}
use Prim.Native.Nat.{ℕ, ◌-◌, ◌<◌}
use native.Mathlib.Decide.{ℕ_discrete}
use lib.ListN.{length}
use lib.IntN.{ℤ, pos}
use mir.Syntax.{w32}
use mir.Val.{to_z, of_z}
use mir.ValLaws.{to_z-of_z}
use Rattle.algebra.specs.Lists.{at}
use Rattle.layout.specs.Live.{Clear}
use Rattle.long_stages.proofs.live.used.Goals as goal

-- one place more
clear-before : (l : List ℤ) (k n : ℕ) → 0 < k → at l (k - 1) ≡ pos 0 → Clear l k n → Clear l (k - 1) n
clear-before l k n p z f i h g = pick (ℕ_discrete i (k - 1))
  where
    pick : Dec (i ≡ k - 1) → at l i ≡ pos 0
    pick (yes e) = ap (at l) e ∙ z
    pick (no d) = f i (omega arith) g

pub loop-k-init : goal.loop-k-init
loop-k-init c k h g = absurd (omega arith)

pub returns-then-c-k-ne0 : goal.returns-then-c-k-ne0
returns-then-c-k-ne0 c = (omega arith, λ k h. c.loop-k.invariant k (omega arith))

pub loop-k-preserved : goal.loop-k-preserved
loop-k-preserved c =
    let l = c.args.c.now in
    let z = at l (c.loop-k.k - 1) in
    let v : to_z w32 (of_z w32 z) ≡ z = to_z-of_z w32 z (record { sfits = c.t6-1.given }) in
    clear-before l c.loop-k.k (length l) c.loop-k-test.true (sym v ∙ ap (to_z w32) c.if-c-k-ne0.false) c.loop-k.invariant

pub returns : goal.returns
returns c = (omega arith, λ k h. c.loop-k.invariant k (omega arith))
