-- Tables of zipped rows: a rule by one computed test, and a table of which the first rows were copied. Assumes nothing.
use mathlib.Core.Path.{◌≡◌, ap, ◌∙◌}
use mathlib.Core.List.{List}
use Prim.Native.Nat.{ℕ, ◌+◌, ◌*◌, ◌/◌, ◌%◌, ◌<◌}
use native.Mathlib.Omega.{arith}
use lib.Arith.{digits_lt, digits_div, digits_mod}
use lib.Dec.{T}
use lib.ListN.{length}
use lib.IntN.{ℤ}
use Rattle.algebra.proofs.Table.{every, every-at}
use Rattle.product.specs.Product.{spot, Laid}

-- what stands at place k of a table of zipped rows of n pairs
abbrev pub by_pair : ℕ → (ℕ → ℕ → ℤ) → ℕ → ℤ
by_pair n W k = W (2 * (k / (2 * n)) + k % 2) (k % (2 * n) / 2)

-- ---- the places of a table
module _ (n i j : ℕ) (g : j < n) where
  low : 2 * j + i % 2 < 2 * n
  low = omega arith

  digits : 2 * j + spot (2 * n) i ≡ i / 2 * (2 * n) + (2 * j + i % 2)
  digits = omega arith

  pub place-held : (pairs : ℕ) → i < 2 * pairs → 2 * j + spot (2 * n) i < pairs * (2 * n)
  place-held pairs h =
      let q : i / 2 < pairs = omega arith in
      let r : i / 2 * (2 * n) + (2 * j + i % 2) < pairs * (2 * n) = digits_lt q low in
      omega (arith, digits)

  output : (2 * j + spot (2 * n) i) % (2 * n) / 2 ≡ j
  output =
      let q : (2 * j + spot (2 * n) i) % (2 * n) ≡ 2 * j + i % 2 = ap (λ (k : ℕ). k % (2 * n)) digits ∙ digits_mod (i / 2) low in
      rw q (omega arith)

  input : 2 * ((2 * j + spot (2 * n) i) / (2 * n)) + (2 * j + spot (2 * n) i) % 2 ≡ i
  input =
      let q : (2 * j + spot (2 * n) i) / (2 * n) ≡ i / 2 = ap (λ (k : ℕ). k / (2 * n)) digits ∙ digits_div (i / 2) low in
      let m = i / 2 * n in
      let d : 2 * j + spot (2 * n) i ≡ 2 * (m + j) + i % 2 = omega arith in
      rw (q, d) (omega arith)

pub laid_by : (n pairs : ℕ) (W : ℕ → ℕ → ℤ) (t : List ℤ) → T (every (by_pair n W) 0 t) → pairs * (2 * n) ≡ length t → Laid n pairs 2 (2 * n) W t
laid_by n pairs W t p e =
    record {
      held = held;
      right = λ i j h g. every-at (by_pair n W) t p (2 * j + spot (2 * n) i) (held i j h g) ∙ (λ s. W (input n i j g s) (output n i j g s));
    }
  where
    held : (i j : ℕ) → i < 2 * pairs → j < n → 2 * j + spot (2 * n) i < length t
    held i j h g = omega (arith, place-held n i j g pairs h)
