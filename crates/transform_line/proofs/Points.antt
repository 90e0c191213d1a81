-- Lines of two points: their sums, and rows of them that a loop writes. Assumes nothing.
use native.Mathlib.Omega.{arith}
use mathlib.Core.Path.{◌≡◌, refl, sym, ap, ◌∙◌, subst}
use mathlib.Core.List.{List}
use Prim.Native.Nat.{ℕ, ◌+◌, ◌*◌, ◌≤◌, ◌<◌}
use native.Mathlib.Nat.{mul-le-mul}
use native.Mathlib.Decide.{ℕ_discrete}
use lib.IntN.{ℤ, pos, negsuc, nat_abs, ◌+ℤ◌, ◌*ℤ◌, +ℤ_idl}
use lib.ListN.{length, set, length-set}
use lib.Seq.{get_or-set_same, get_or-set_other}
use mir.Syntax.{w16, w32}
use mir.Val.{SFits, to_z, of_z}
use mir.ValLaws.{to_z-of_z}
use Rattle.algebra.specs.Sum.{sum}
use Rattle.algebra.specs.Lists.{at, block}
use Rattle.algebra.proofs.Lists.{block-ext}
use Rattle.algebra.proofs.Order.{in-fits, abs-mul, abs-add}
use Rattle.meaning.specs.Weights.{weight, dct2, turn, cosines}
use Rattle.meaning.specs.Line.{inverse_sum}
use Rattle.product.specs.Product.{shifted}
use Rattle.transform_line.specs.Lines.{two_at}

size : (z : ℤ) → SFits w16 z → nat_abs z ≤ 32768
size z f = (in-fits {w = w16} {z = z} f).within

small : (w z : ℤ) → nat_abs w ≤ 64 → SFits w16 z → nat_abs (w *ℤ z) ≤ 2097152
small w z l f = let m : nat_abs w * nat_abs z ≤ 64 * 32768 = mul-le-mul l (size z f) in omega (arith, abs-mul w z, m)

-- a number of 16 bits as it is handed on, weighed
pub weighs : (w z : ℤ) → nat_abs w ≤ 64 → SFits w16 z → nat_abs (w *ℤ to_z w16 (of_z w16 z)) ≤ 2981888
weighs w z l f = subst (λ (v : ℤ). nat_abs (w *ℤ v) ≤ 2981888) (sym (to_z-of_z w16 z f)) (omega (arith, small w z l f))

pub weighed : (v w a b : ℤ) → nat_abs v ≤ 64 → nat_abs w ≤ 64 → SFits w16 a → SFits w16 b → nat_abs (v *ℤ a +ℤ w *ℤ b) ≤ 1000000000
weighed v w a b k l f g = omega (arith, abs-add (v *ℤ a) (w *ℤ b), small v a k f, small w b l g)

-- ---- the two sums
pub first-sum : (x : ℕ → ℤ) → inverse_sum 0 2 2 x 0 ≡ pos 64 *ℤ x 0 +ℤ pos 64 *ℤ x 1
unfolding inverse_sum sum weight dct2 turn cosines
first-sum x = ap (λ (z : ℤ). z +ℤ pos 64 *ℤ x 1) (+ℤ_idl (pos 64 *ℤ x 0))

pub second-sum : (x : ℕ → ℤ) → inverse_sum 0 2 2 x 1 ≡ pos 64 *ℤ x 0 +ℤ negsuc 63 *ℤ x 1
unfolding inverse_sum sum weight dct2 turn cosines
second-sum x = ap (λ (z : ℤ). z +ℤ negsuc 63 *ℤ x 1) (+ℤ_idl (pos 64 *ℤ x 0))

-- ---- rows of two, as far as they are written
pub record TwoDone (f : ℕ → ℕ → ℤ) (y : ℕ) (out out₀ : List ℤ) : Type 0 where
  pub long : length out ≡ length out₀
  pub done : (x l : ℕ) → x < 2 → l < y → at out (x + l * 2) ≡ f x l

pub two_none : (f : ℕ → ℕ → ℤ) (out : List ℤ) → TwoDone f 0 out out
two_none f out = record { long = refl; done = λ x l h g. absurd (omega arith) }

pub two-next : {f : ℕ → ℕ → ℤ} {y : ℕ} {out out₀ : List ℤ} (a b : ℤ) → 2 * y + 1 < length out₀ → TwoDone f y out out₀ → a ≡ f 0 y → b ≡ f 1 y
    → TwoDone f (y + 1) (set (set out (2 * y) a) (2 * y + 1) b) out₀
two-next {f} {y} {out} {out₀} a b room p ea eb =
    record { long = length-set (set out (2 * y) a) (2 * y + 1) b ∙ length-set out (2 * y) a ∙ p.long; done = λ x l h g. here x l h g (ℕ_discrete l y) (ℕ_discrete x 0) }
  where
    here : (x l : ℕ) → x < 2 → l < y + 1 → Dec (l ≡ y) → Dec (x ≡ 0) → at (set (set out (2 * y) a) (2 * y + 1) b) (x + l * 2) ≡ f x l
    here x l h g (no n) _ =
        get_or-set_other (set out (2 * y) a) (2 * y + 1) (x + l * 2) b (pos 0) (λ q. n (omega arith))
        ∙ get_or-set_other out (2 * y) (x + l * 2) a (pos 0) (λ q. n (omega arith)) ∙ p.done x l h (omega arith)
    here x l h g (yes e) (yes d) =
        let k : x + l * 2 ≡ 2 * y = omega arith in
        ap (at (set (set out (2 * y) a) (2 * y + 1) b)) k ∙ get_or-set_other (set out (2 * y) a) (2 * y + 1) (2 * y) b (pos 0) (λ q. omega arith)
        ∙ get_or-set_same out (2 * y) a (pos 0) (omega (arith, p.long)) ∙ ea ∙ (λ i. f (sym d i) (sym e i))
    here x l h g (yes e) (no d) =
        let k : x + l * 2 ≡ 2 * y + 1 = omega arith in
        let one : 1 ≡ x = omega arith in
        ap (at (set (set out (2 * y) a) (2 * y + 1) b)) k ∙ get_or-set_same (set out (2 * y) a) (2 * y + 1) b (pos 0) (omega (arith, p.long, length-set out (2 * y) a)) ∙ eb ∙ (λ i. f (one i) (sym e i))

pub two-all : {f : ℕ → ℕ → ℤ} {y : ℕ} {out out₀ : List ℤ} (h : ℕ) → y ≡ h → length out₀ ≡ h * 2 → TwoDone f y out out₀ → out ≡ block 2 h f
two-all {f} {y} {out} {out₀} h e room p = block-ext 2 h f out (p.long ∙ room) (λ x l k g. p.done x l k (omega (arith, e)))

-- ---- a row of two, by its numbers
module _ (z : List ℤ) (step apart : ℕ) (half : ℤ) (shift y : ℕ) (a b : ℤ) (p : a ≡ at z (y * step)) (q : b ≡ at z (y * step + apart)) where
  even : a ≡ at z (y * step + 0 * apart)
  even = p ∙ ap (at z) (omega arith)

  odd : b ≡ at z (y * step + 1 * apart)
  odd = q ∙ ap (at z) (omega arith)

  pub sum_is : shifted half shift (pos 64 *ℤ a +ℤ pos 64 *ℤ b) ≡ two_at z step apart half shift 0 y
  sum_is = ap (shifted half shift) ((λ i. pos 64 *ℤ even i +ℤ pos 64 *ℤ odd i) ∙ sym (first-sum (λ i. at z (y * step + i * apart))))

  pub difference-is : shifted half shift (pos 64 *ℤ a +ℤ negsuc 63 *ℤ b) ≡ two_at z step apart half shift 1 y
  difference-is = ap (shifted half shift) ((λ i. pos 64 *ℤ even i +ℤ negsuc 63 *ℤ odd i) ∙ sym (second-sum (λ i. at z (y * step + i * apart))))
