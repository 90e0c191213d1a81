-- What a caller of `lines` cites: lists in which inputs and weights are laid out, and the lines that they are. Assumes nothing.
use mathlib.Core.Path.{◌≡◌, sym, ap, ◌∙◌, subst}
use mathlib.Core.List.{List}
use Prim.Native.Nat.{ℕ, ◌+◌, ◌*◌, ◌-◌, ◌^◌, ◌≤◌, ◌<◌}
use native.Mathlib.Nat.{mul_comm}
use native.Mathlib.Omega.{arith}
use lib.IntN.{ℤ, pos, negsuc, ◌*ℤ◌, +ℤ_idr}
use lib.ListN.{length}
use lib.Signed.{shr_z}
use mir.Syntax.{w32}
use mir.Val.{to_z, of_z}
use mir.ValLaws.{to_z-of_z}
use Rattle.algebra.specs.Sum.{sum}
use Rattle.algebra.specs.Shift.{◌>>◌}
use Rattle.algebra.specs.Lists.{at, block}
use Rattle.algebra.proofs.Word.{small}
use Rattle.algebra.proofs.Sum.{sum-cong}
use Rattle.algebra.proofs.Lists.{block_cong, place_in}
use Rattle.product.specs.Product.{spot, Laid, line_sum, shifted, Light, Rounding, Lines}

-- fewer lines or outputs, fewer inputs, numbers that are the same there
pub laid-less : {n m pairs few step gap : ℕ} {X Y : ℕ → ℕ → ℤ} {t : List ℤ} → m ≤ n → few ≤ pairs
    → ((i j : ℕ) → i < 2 * few → j < m → X i j ≡ Y i j) → Laid n pairs step gap X t → Laid m few step gap Y t
laid-less l f e z = record { held = λ i j h g. z.held i j (omega arith) (omega arith); right = λ i j h g. z.right i j (omega arith) (omega arith) ∙ e i j h g }

-- inputs one after the other are laid with pairs that are 2 apart
pub spot-two : (i : ℕ) → spot 2 i ≡ i
spot-two i = omega arith

-- .. and so are the rows of a block of w by h
pub block-laid : {w h pairs : ℕ} {m : List ℤ} → 2 * pairs ≤ w → h * w ≤ length m → Laid h pairs w 2 (λ i y. at m (i + y * w)) m
block-laid {w} {h} {pairs} {m} few long =
    record { held = λ i y k v. omega (arith, place i y, place_in {x = i} {y = y} {w = w} {h = h} (omega arith) v); right = λ i y k v. ap (at m) (place i y) }
  where
    place : (i y : ℕ) → w * y + spot 2 i ≡ i + y * w
    place i y = omega (arith, mul_comm w y)

module _ {lines n pairs step gap apart : ℕ} {X W : ℕ → ℕ → ℤ} {a b : List ℤ} (z : Laid lines pairs step gap X a) (u : Laid n pairs 2 apart W b) where
  -- what the lines are given, where one of each two numbers is a weight
  pub lines-given : 0 < pairs → pairs ≤ 16 → ((i j l : ℕ) → Light (W i j) (X i l)) → Lines lines n pairs a step gap b apart
  lines-given some few light =
      record {
        some = some;
        each = λ l h. record {
          few = few;
          there = λ i g. z.held i l g h;
          held = u.held;
          light = λ i j g k. both (sym (u.right i j g k)) (sym (z.right i l g h)) (light i j l);
        };
      }
    where
      both : {x x' y y' : ℤ} → x ≡ x' → y ≡ y' → Light x y → Light x' y'
      both {x} {x'} {y} {y'} e f p = subst (λ (x : ℤ). Light x y') e (subst (λ (y : ℤ). Light x y) f p)

  -- the outputs
  pub line-is : (l j : ℕ) → l < lines → j < n → line_sum a (step * l) gap b apart pairs j ≡ sum (2 * pairs) (λ i. X i l *ℤ W i j)
  unfolding line_sum
  line-is l j h g = sum-cong (2 * pairs) _ _ (λ i k t. z.right i l k h t *ℤ u.right i j k g t)

  pub lines_are : (half : ℤ) (shift : ℕ) → block n lines (λ j l. shifted half shift (line_sum a (step * l) gap b apart pairs j)) ≡ block n lines (λ j l. shifted half shift (sum (2 * pairs) (λ i. X i l *ℤ W i j)))
  lines_are half shift = block_cong n lines _ _ (λ j l h g. ap (shifted half shift) (line-is l j g h))

-- ---- what `half` gave, as it is handed on to lines
module _ {half : ℤ} {shift : ℕ} (q : (half ≡ pos (2 ^ (shift - 1))) × Rounding half shift) where
  handed : to_z w32 (of_z w32 half) ≡ half
  handed = to_z-of_z w32 half (small {w = w32} {B = 1000000000} (omega arith) q.1.small)

  pub half_is : to_z w32 (of_z w32 half) ≡ pos (2 ^ (shift - 1))
  half_is = handed ∙ q.0

  pub half-rounds : Rounding (to_z w32 (of_z w32 half)) shift
  half-rounds = subst (λ (z : ℤ). Rounding z shift) (sym handed) q.1

-- ---- no shift
pub exact : (z : ℤ) → shifted (pos 0) 0 z ≡ z
exact z = ap (λ (y : ℤ). y >> 0) (+ℤ_idr z) ∙ whole z
  where
    whole : (z : ℤ) → shr_z z (2 ^ 0) ≡ z
    whole (pos n) = ap pos (omega arith)
    whole (negsuc n) = ap negsuc (omega arith)
