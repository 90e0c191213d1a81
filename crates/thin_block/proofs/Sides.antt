-- What the tests of the sides leave: a size, or 1 beside a line of 4, 8 or 16. Assumes nothing.
use mathlib.Core.Path.{◌≡◌, refl, sym, ◌∙◌, subst}
use mathlib.Core.Bool.{true, false, ◌&&◌, ◌||◌, true≢false}
use Prim.Native.Nat.{ℕ, ◌≤◌}
use native.Mathlib.Omega.{arith}
use borrow.Author.Tests.{eqb-true}
use lib.Dec.{eqb}
use Rattle.meaning.specs.declared.Shape.{Shape}
use Rattle.meaning.specs.Shape.{is_size}
use Rattle.meaning.specs.Taken.{Taken}
use Rattle.meaning.proofs.Cases.{or_cases, and_cases, neither, at-number, size_in}
use Rattle.thin_block.specs.Thin.{is_line, is_side, one_stage}
use Rattle.thin_block.specs.Given.{TakenSides}

-- a side is 1 or a size
pub side-cases : (P : ℕ → Type 0) → P 1 → ((n : ℕ) → is_size n ≡ true → P n) → (n other : ℕ) → is_side n other ≡ true → P n
unfolding is_side
side-cases P one size n other h =
    or_cases (is_size n) (eqb n 1 && is_line other) h (size n) (λ h. at-number P n 1 one (and_cases (eqb n 1) (is_line other) h).0)

pub side-in : (n other : ℕ) → is_side n other ≡ true → n ≤ 32
side-in = side-cases (λ n. n ≤ 32) (omega arith) size_in

-- beside a side of 1 stands a size
line-size : (n : ℕ) → is_line n ≡ true → is_size n ≡ true
unfolding is_line is_size
line-size n h =
    let P : ℕ → Type 0 = λ n. is_size n ≡ true in
    or_cases (eqb n 4) (eqb n 8 || eqb n 16) h (at-number P n 4 refl) (λ h. or_cases (eqb n 8) (eqb n 16) h (at-number P n 8 refl) (at-number P n 16 refl))

pub beside : (n other : ℕ) → n ≡ 1 → is_side n other ≡ true → is_size other ≡ true
unfolding is_side is_size
beside n other e h = line-size other (subst (λ (n : ℕ). is_side n other ≡ true) e h)

-- where there are two stages, both sides are sizes
pub two-sides : (sh : Shape) → TakenSides sh → one_stage sh ≡ false → Taken sh
unfolding one_stage
two-sides sh t e =
    let no = neither (eqb sh.width 1) (eqb sh.height 1) e in
    record {
      width = sized sh.width sh.height t.width no.0;
      height = sized sh.height sh.width t.height no.1;
      horizontal = t.horizontal;
      vertical = t.vertical;
      depth = t.depth;
      kept = t.kept;
    }
  where
    sized : (n other : ℕ) → is_side n other ≡ true → eqb n 1 ≡ false → is_size n ≡ true
    sized = side-cases (λ n. eqb n 1 ≡ false → is_size n ≡ true) (λ e. absurd (true≢false e)) (λ n s e. s)

-- where there is one, and the width is not 1, the height is
pub low-side : (sh : Shape) → one_stage sh ≡ true → eqb sh.width 1 ≡ false → sh.height ≡ 1
unfolding one_stage
low-side sh e n = or_cases (eqb sh.width 1) (eqb sh.height 1) e (λ y. absurd (true≢false (sym y ∙ n))) (eqb-true sh.height 1)
