-- `pairs_of` meets its contract: one branch for each number of pairs. Assumes nothing.
use native.Mathlib.Omega.{arith}
use mathlib.Core.Path.{◌≡◌, refl}
use Prim.Native.Nat.{ℕ, ◌≤◌, ◌<◌}
use borrow.Author.Tests.{le-leb, lt-leb}
use Rattle.transform_pairs.specs.Pairs.{pairs_of}
use Rattle.transform_pairs.proofs.pairs.pairs_of.Statement.{statement}
use Rattle.transform_pairs.proofs.pairs.pairs_of.Tie as tie

-- above each of the bounds before it
two : (k : ℕ) → 2 < k → k ≤ 4 → 2 ≡ pairs_of k
unfolding pairs_of
two k a b = rw (lt-leb k 2 a, le-leb k 4 b) refl

four : (k : ℕ) → 4 < k → k ≤ 8 → 4 ≡ pairs_of k
unfolding pairs_of
four k a b = rw (lt-leb k 2 (omega arith), lt-leb k 4 a, le-leb k 8 b) refl

eight : (k : ℕ) → 8 < k → k ≤ 16 → 8 ≡ pairs_of k
unfolding pairs_of
eight k a b = rw (lt-leb k 2 (omega arith), lt-leb k 4 (omega arith), lt-leb k 8 a, le-leb k 16 b) refl

sixteen : (k : ℕ) → 16 < k → 16 ≡ pairs_of k
unfolding pairs_of
sixteen k a = rw (lt-leb k 2 (omega arith), lt-leb k 4 (omega arith), lt-leb k 8 (omega arith), lt-leb k 16 a) refl

returns : tie.Need-returns-then-k-le2
unfolding pairs_of
returns c = rw (le-leb c.before.args.k 2 c.if-k-le2.true) refl

returns-2 : tie.Need-returns-then-k-le4
returns-2 c = two _ c.before.if-k-le2.false c.if-k-le4.true

returns-3 : tie.Need-returns-then-k-le8
returns-3 c = four _ c.before.if-k-le4.false c.if-k-le8.true

returns-4 : tie.Need-returns-then-k-le16
returns-4 c = eight _ c.before.if-k-le8.false c.if-k-le16.true

returns-5 : tie.Need-returns
returns-5 c = sixteen _ c.if-k-le16.false

pub pairs_of_spec : {M : Type 1} → statement M
pairs_of_spec = tie.close (tie.spec returns returns-2 returns-3 returns-4 returns-5)
