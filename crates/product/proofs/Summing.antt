-- Sums two at a time: the pairs of an output are the products of its line. Assumes nothing.
use mathlib.Core.Path.{◌≡◌, refl, sym, ◌∙◌, subst}
use mathlib.Core.Logic.{⊎_elim}
use mathlib.Core.List.{List}
use Prim.Native.Nat.{ℕ, ◌+◌, ◌*◌, ◌/◌, ◌%◌, ◌≤◌, ◌<◌}
use native.Mathlib.Nat.{le_trans, mul-le-mul}
use native.Mathlib.Omega.{arith}
use lib.ListN.{length}
use lib.IntN.{ℤ, pos, nat_abs, ◌+ℤ◌, ◌*ℤ◌, *ℤ_comm}
use mir.Syntax.{w16, w32}
use mir.Val.{SFits}
use Rattle.algebra.specs.Sum.{sum}
use Rattle.algebra.specs.Lists.{at}
use Rattle.algebra.proofs.Order.{abs-add, abs-mul, in-fits}
use Rattle.algebra.proofs.Word.{small}
use Rattle.algebra.proofs.Sum.{sum-cong, sum-in, sum-pairs}
use Rattle.product.specs.Product.{spot, line_sum, pair_at, Light, Column, Line}

-- ---- the places of pair k
module _ (gap k : ℕ) where
  pub even_place : (o : ℕ) → o + spot gap (2 * k) ≡ o + k * gap
  even_place o =
      let q : 2 * k / 2 ≡ k = omega arith in
      let r : 2 * k % 2 ≡ 0 = omega arith in
      rw (q, r) (omega arith)

  pub odd_place : (o : ℕ) → o + spot gap (2 * k + 1) ≡ o + k * gap + 1
  odd_place o =
      let q : (2 * k + 1) / 2 ≡ k = omega arith in
      let r : (2 * k + 1) % 2 ≡ 1 = omega arith in
      rw (q, r) (omega arith)

-- ---- sizes
-- 91 * 32768
pub product-size : {x y : ℤ} → SFits w16 x → SFits w16 y → Light x y → nat_abs (x *ℤ y) ≤ 2981888
product-size {x} {y} f g light =
    ⊎_elim
    (λ h. let q : nat_abs x * nat_abs y ≤ 91 * 32768 = mul-le-mul h (in-fits g).within in omega (arith, abs-mul x y))
    (λ h. let q : nat_abs x * nat_abs y ≤ 32768 * 91 = mul-le-mul (in-fits f).within h in omega (arith, abs-mul x y))
    light

pub pair_size : (x y : ℤ) → nat_abs x ≤ 2981888 → nat_abs y ≤ 2981888 → nat_abs (x +ℤ y) ≤ 5963776
pair_size x y h g = omega (arith, abs-add x y)

pub small-pair : {z : ℤ} → nat_abs z ≤ 5963776 → SFits w32 z
small-pair {z} h = small {w = w32} {B = 5963776} (omega arith) h

pub small-total : (f : ℕ → ℤ) (n : ℕ) → n ≤ 16 → ((k : ℕ) → k < n → nat_abs (f k) ≤ 5963776) → nat_abs (sum n f) ≤ 95420416
small-total f n l h =
    let g : n * 5963776 ≤ 16 * 5963776 = omega arith in
    le_trans (sum-in n f 5963776 h) g

-- ---- the sum of the pairs before k
pub sum-none-yet : (f : ℕ → ℤ) → pos 0 ≡ sum 0 f
unfolding sum
sum-none-yet f = refl

-- ---- output j of a line
module _ (a : List ℤ) (p gap : ℕ) (b : List ℤ) (apart j : ℕ) where
  abbrev product : ℕ → ℤ
  product i = at a (p + spot gap i) *ℤ at b (2 * j + spot apart i)

  odd-product : (k : ℕ) → product (2 * k + 1) ≡ at b (2 * j + k * apart + 1) *ℤ at a (p + k * gap + 1)
  odd-product k = (λ t. at a (odd_place gap k p t) *ℤ at b (odd_place apart k (2 * j) t)) ∙ *ℤ_comm (at a (p + k * gap + 1)) (at b (2 * j + k * apart + 1))

  even-product : (k : ℕ) → product (2 * k) ≡ at b (2 * j + k * apart) *ℤ at a (p + k * gap)
  even-product k = (λ t. at a (even_place gap k p t) *ℤ at b (even_place apart k (2 * j) t)) ∙ *ℤ_comm (at a (p + k * gap)) (at b (2 * j + k * apart))

  -- the sum of its pairs
  pub pairs-line : (pairs : ℕ) → sum pairs (pair_at a p gap b (2 * j) apart) ≡ line_sum a p gap b apart pairs j
  unfolding line_sum
  pairs-line pairs = sum-cong pairs _ _ (λ k h t. sym (odd-product k) t +ℤ sym (even-product k) t) ∙ sum-pairs pairs product

  -- what its pairs are given
  pub column : {n pairs : ℕ} → Line n pairs a p gap b apart → j < n → Column pairs a p gap b (2 * j) apart
  column {n} {pairs} q h =
      record {
        few = q.few;
        there = λ k l. subst (λ (m : ℕ). m < length a) (odd_place gap k p) (q.there (2 * k + 1) (omega arith));
        held = λ k l. subst (λ (m : ℕ). m < length b) (odd_place apart k (2 * j)) (q.held (2 * k + 1) j (omega arith) h);
        even = λ k l. moved (even_place apart k (2 * j)) (even_place gap k p) (q.light (2 * k) j (omega arith) h);
        odd = λ k l. moved (odd_place apart k (2 * j)) (odd_place gap k p) (q.light (2 * k + 1) j (omega arith) h);
      }
    where
      moved : {x x' i i' : ℕ} → x ≡ x' → i ≡ i' → Light (at b x) (at a i) → Light (at b x') (at a i')
      moved {x} {x'} {i} {i'} e f l = subst (λ (x : ℕ). Light (at b x) (at a i')) e (subst (λ (i : ℕ). Light (at b x) (at a i)) f l)
