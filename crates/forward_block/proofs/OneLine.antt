-- One line of a stage, worked by itself: its inputs are lent from their own start on. Assumes nothing.
use mathlib.Core.Path.{◌≡◌, sym, ap, ◌∙◌, subst}
use mathlib.Core.List.{List, ◌++◌}
use Prim.Native.Nat.{ℕ, ◌+◌, ◌*◌, ◌-◌, ◌^◌, ◌≤◌, ◌<◌}
use native.Mathlib.Nat.{mul-zero}
use native.Mathlib.Omega.{arith}
use lib.ListN.{length, take, drop, length-append, length-take, length-drop, get_or-append}
use lib.Seq.{get_or-take, get_or-drop}
use lib.IntN.{ℤ, pos, ◌*ℤ◌}
use Rattle.algebra.specs.Shift.{nearest}
use Rattle.algebra.specs.Lists.{at, block}
use Rattle.algebra.proofs.Sum.{sum-cong}
use Rattle.algebra.proofs.Lists.{block_at, block-length}
use Rattle.product.specs.Product.{spot, line_sum, shifted, Light, Line, Lines}

-- a list from place o on
abbrev pub from : ℕ → List ℤ → List ℤ
from o l = take (length l - o) (drop o l)

pub from-long : (l : List ℤ) (o : ℕ) → length (from o l) ≡ length l - o
from-long l o = simp (length-take, length-drop) (omega arith)

from_at : (l : List ℤ) (o k : ℕ) → o + k < length l → at (from o l) k ≡ at l (o + k)
from_at l o k h = get_or-take (length l - o) (drop o l) k (pos 0) (omega arith) ∙ get_or-drop o l k (pos 0)

module _ {kept pairs o gap apart : ℕ} {a b : List ℤ} (step : ℕ) (g : Line kept pairs a o gap b apart) where
  -- the first line starts at 0
  start : {l : ℕ} → l < 1 → step * l ≡ 0
  start {l} h =
      let e : l ≡ 0 = omega arith in
      ap (λ (l : ℕ). step * l) e ∙ mul-zero step

  same : (i l : ℕ) → i < 2 * pairs → l < 1 → at (from o a) (step * l + spot gap i) ≡ at a (o + spot gap i)
  same i l h k =
      let e : step * l + spot gap i ≡ spot gap i = omega (arith, start k) in
      ap (at (from o a)) e ∙ from_at a o (spot gap i) (g.there i h)

  pub one_line : 0 < pairs → Lines 1 kept pairs (from o a) step gap b apart
  one_line some =
      record {
        some = some;
        each = λ l k. record {
          few = g.few;
          there = λ i h. omega (arith, start k, from-long a o, g.there i h);
          held = g.held;
          light = λ i j h v. subst (Light (at b (2 * j + spot apart i))) (sym (same i l h k)) (g.light i j h v);
        };
      }

  one-sum : (l j : ℕ) → l < 1 → line_sum (from o a) (step * l) gap b apart pairs j ≡ line_sum a o gap b apart pairs j
  unfolding line_sum
  one-sum l j k = sum-cong (2 * pairs) _ _ (λ i h t. same i l h k t *ℤ at b (2 * j + spot apart i))

  -- the outputs, at the front of a list, and the list is as long as it was
  pub one-long : (half : ℤ) (shift : ℕ) (e₀ : List ℤ) {e : List ℤ} → kept ≤ length e₀
      → e ≡ block kept 1 (λ j l. shifted half shift (line_sum (from o a) (step * l) gap b apart pairs j)) ++ drop (1 * kept) e₀ → length e ≡ length e₀
  one-long half shift e₀ l p =
      let f : ℕ → ℕ → ℤ = λ j l. shifted half shift (line_sum (from o a) (step * l) gap b apart pairs j) in
      ap length p ∙ length-append (block kept 1 f) (drop (1 * kept) e₀) ∙ omega (arith, block-length kept 1 f, length-drop (1 * kept) e₀)

  pub one_value : {half : ℤ} (shift : ℕ) {e : List ℤ} (rest : List ℤ) → half ≡ pos (2 ^ (shift - 1))
      → e ≡ block kept 1 (λ j l. shifted half shift (line_sum (from o a) (step * l) gap b apart pairs j)) ++ rest
      → (x : ℕ) → x < kept → at e x ≡ nearest shift (line_sum a o gap b apart pairs x)
  one_value {half} shift rest q p x h =
      let f : ℕ → ℕ → ℤ = λ j l. shifted half shift (line_sum (from o a) (step * l) gap b apart pairs j) in
      let z : x ≡ x + 0 * kept = omega arith in
      ap (λ (l : List ℤ). at l x) p
      ∙ get_or-append (block kept 1 f) rest (pos 0) x (omega (arith, block-length kept 1 f))
      ∙ ap (at (block kept 1 f)) z ∙ block_at kept 1 f x 0 h (omega arith)
      ∙ (λ t. shifted (q t) shift (one-sum 0 x (omega arith) t))
