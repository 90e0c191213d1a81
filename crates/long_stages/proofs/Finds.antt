-- What a hunt hands back: the place where it stopped, or none where it ran through. Assumes nothing.
use native.Mathlib.Omega.{arith}
use Rattle.std.specs.Prelude.{None, Some}
use Rattle.std.specs.List.{position_or_len}
use mathlib.Core.Path.{◌≡◌, sym, ◌∙◌}
use mathlib.Core.Bool.{Bool, true, false, not, cond}
use mathlib.Core.List.{List, [], ◌∷◌}
use Prim.Native.Nat.{ℕ, suc, ◌+◌, ◌≤◌, ◌<◌}
use native.Mathlib.Nat.{add-zero}
use borrow.Author.Tests.{lt-ltb, le-ltb}
use lib.IntN.{ℤ}
use Rattle.algebra.specs.First.{first_at, found}

pub is-found : (count place k : ℕ) → k ≡ place → k < count → Some k ≡ found count place
is-found count place k e h = rw (lt-ltb place count (omega arith), e)

pub not-found : (count place : ℕ) → count ≤ place → None ≡ found count place
not-found count place h = rw (le-ltb place count h)

-- a search from the front, as the library counts it
pub first_counted : (test : ℤ → Bool) (k : ℕ) (l : List ℤ) → first_at (λ k z. test z) k l ≡ k + position_or_len test l
unfolding first_at
first_counted test k [] = sym (add-zero k)
first_counted test k (z ∷ l) = one (test z) (first_counted test (suc k) l)
  where
    one : (b : Bool) → first_at (λ k z. test z) (suc k) l ≡ suc k + position_or_len test l → cond b k (first_at (λ k z. test z) (suc k) l) ≡ k + cond (not b) (1 + position_or_len test l) 0
    one true e = sym (add-zero k)
    one false e = e ∙ omega arith
