-- What one row of residuals is given: a line of 32, and the weights. Assumes nothing.
use native.Mathlib.Omega.{arith}
use mathlib.Core.Path.{◌≡◌, sym, subst}
use mathlib.Core.List.{List}
use Prim.Native.Nat.{ℕ, ◌+◌, ◌*◌, ◌≤◌, ◌<◌}
use lib.ListN.{length}
use lib.IntN.{ℤ}
use mir.Syntax.{w32}
use mir.Val.{SFits}
use Rattle.algebra.specs.Shift.{nearest}
use Rattle.long_stages.specs.Sums.{dotted}
use Rattle.long_stages.specs.Work.{Along}

pub row-given : {t line : List ℤ} (w pairs last : ℕ) → w ≤ 64 → 2 * pairs ≤ 32 → 0 < last → last ≤ 32 → length line ≡ 32
    → ((x k : ℕ) → x < w → k < pairs → 2 * x + k * (2 * w) + 1 < length t)
    → ((x : ℕ) → x < w → SFits w32 (nearest last (dotted t (2 * x) (2 * w) line 0 1 pairs)))
    → Along t w 1 line 32 pairs last
row-given {t} {line} w pairs last wide few some short long held fits =
    record {
      wide = wide;
      low = omega arith;
      narrow = omega arith;
      some = some;
      short = short;
      each = λ x y l v. record { few = omega arith; held = λ k q. held x k l q; there = λ k q. omega (arith, long) };
      fits = λ x y l v.
          let e : y * 32 ≡ 0 = omega arith in
          subst (λ (o : ℕ). SFits w32 (nearest last (dotted t (2 * x) (2 * w) line o 1 pairs))) (sym e) (fits x l);
    }
