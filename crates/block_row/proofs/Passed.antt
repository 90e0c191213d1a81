-- What a row that was taken has passed: 16, 6 and 7. Assumes nothing.
use mathlib.Core.Path.{◌≡◌, refl}
use mathlib.Core.List.{List}
use Prim.Native.Nat.{ℕ, ◌≤◌}
use borrow.Author.Tests.{eqb-true, not-false, ltb-false}
use lib.Dec.{eqb}
use lib.ListN.{length}
use Rattle.algebra.specs.Refusals.{first_of, number_of}
use Rattle.algebra.proofs.Refusals.{Clear, clear}
use Rattle.meaning.specs.declared.Shape.{Shape}
use Rattle.block_row.specs.Row.{spans, row_tests}

pub record Passed (shapes : List Shape) (input output : ℕ) : Type 0 where
  pub few : length shapes ≤ 64
  pub long : input ≡ spans shapes
  pub room : output ≡ spans shapes

-- by any outcome that tells the number of its refusal
module _ {A : Type 0} (number : A → ℕ) (refused : ℕ → ℕ → A) (done : A) (tells : (n place : ℕ) → number (refused n place) ≡ n) where
  pub passed-by : (shapes : List Shape) (input output : ℕ) → number (first_of (row_tests shapes input output) refused done) ≡ 0 → Passed shapes input output
  passed-by shapes input output e = of (clear number refused done tells (row_tests shapes input output) tt e)
    where
      of : Clear (row_tests shapes input output) → Passed shapes input output
      of (f, (l, (r, _))) =
          let n = spans shapes in
          record { few = ltb-false 64 (length shapes) f; long = eqb-true input n (not-false (eqb input n) l); room = eqb-true output n (not-false (eqb output n) r) }

-- by the number alone
pub passed : (shapes : List Shape) (input output : ℕ) → number_of (row_tests shapes input output) ≡ 0 → Passed shapes input output
passed = passed-by (λ (n : ℕ). n) (λ number place. number) 0 (λ n place. refl)
