-- The three sizes with shared weights: L = 2n+1 is 3 * 3, 3 * 11 and 5 * 13. Assumes nothing.
use mathlib.Core.Path.{refl}
use Prim.Native.Nat.{ℕ, ◌+◌, ◌*◌, ◌≤◌, ◌<◌}
use native.Mathlib.Omega.{arith}
use Rattle.meaning.specs.Weights.{S, fold, first}
use Rattle.algebra.proofs.Lists.{row_in}
use Rattle.shared_steps.specs.Folds.{class_of, leading, periodic, leading_into, periodic_into}
use Rattle.shared_steps.specs.Steps.{Stretched}
use Rattle.shared_steps.proofs.Classes.{Shared}

each : (n s m : ℕ) → m * s ≤ n → (k : ℕ) → k < m → k * s + s ≤ n
each n s m b k h = omega (arith, row_in s h)

pub shared4 : Shared 4 3 3
unfolding S fold first class_of leading periodic leading_into periodic_into
shared4 = record {
  size = record { by-q = s; by-p = s; all = refl; whole = omega arith; least = omega arith; five = λ d. absurd (d refl); wide = λ e. absurd (omega arith) };
  first = tt;
  second = tt;
  third = tt;
}
  where
    s : Stretched 4 3
    s = record { few = omega arith; some = omega arith; odd = refl; number = omega arith; each = each 4 3 1 (omega arith); last = refl }

pub shared16 : Shared 16 3 11
unfolding S fold first class_of leading periodic leading_into periodic_into
shared16 = record {
  size = record {
    by-q = record { few = omega arith; some = omega arith; odd = refl; number = omega arith; each = each 16 11 1 (omega arith); last = refl };
    by-p = record { few = omega arith; some = omega arith; odd = refl; number = omega arith; each = each 16 3 5 (omega arith); last = refl };
    all = refl;
    whole = omega arith;
    least = omega arith;
    five = λ d. absurd (d refl);
    wide = λ e. absurd (omega arith);
  };
  first = tt;
  second = tt;
  third = tt;
}

pub shared32 : Shared 32 5 13
unfolding S fold first class_of leading periodic leading_into periodic_into
shared32 = record {
  size = record {
    by-q = record { few = omega arith; some = omega arith; odd = refl; number = omega arith; each = each 32 13 2 (omega arith); last = refl };
    by-p = record { few = omega arith; some = omega arith; odd = refl; number = omega arith; each = each 32 5 6 (omega arith); last = refl };
    all = refl;
    whole = omega arith;
    least = omega arith;
    five = λ d. refl;
    wide = λ e. refl;
  };
  first = tt;
  second = tt;
  third = tt;
}
