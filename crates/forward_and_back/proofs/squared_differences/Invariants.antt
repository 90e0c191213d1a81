use Rattle.std.proofs.Common.{◌≡◌, ◌*◌, ◌≤◌}
use Rattle.algebra.specs.Sum.{sumℕ}
use Rattle.forward_and_back.specs.Trip.{apart}
use Rattle.forward_and_back.proofs.squared_differences.Given as goal

-- a difference is at most 2^15 + 2^18 in size
abbrev pub invariant-loop-k : goal.invariant-loop-k
invariant-loop-k l =
    (l.sum ≡ sumℕ l.k (λ k. apart l.given l.back k * apart l.given l.back k)) × (l.sum ≤ l.k * 86973087744)
