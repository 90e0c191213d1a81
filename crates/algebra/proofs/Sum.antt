-- Laws of finite sums: congruence, addition, scaling, splitting, exchange, reversal, sizes. Assumes nothing.
use mathlib.Core.Path.{◌≡◌, refl, sym, ap, ◌∙◌, subst}
use mathlib.Core.List.{[], ◌∷◌}
use Prim.Native.Nat.{ℕ, zero, suc, ◌+◌, ◌-◌, ◌*◌, ◌≤◌, ◌<◌}
use native.Mathlib.Numerals.{add-one}
use native.Mathlib.Omega.{arith}
use native.Mathlib.Nat.{le_trans, le_refl, mul-le-mul_left, mul-le-mul_right, add-mul, zero-mul, add-zero, add-suc, add-le-add, not-suc-le-zero}
use lib.IntN.{ℤ, pos, neg_ℤ, nat_abs, ◌+ℤ◌, ◌*ℤ◌, +ℤ_idr, +ℤ_assoc, +ℤ_comm, *ℤ-zero, neg_ℤ-+ℤ}
use Rattle.algebra.specs.Sum.{sum, sumℕ}
use Rattle.algebra.proofs.Ring.{*ℤ-add}
use Rattle.algebra.proofs.Normal.{ν, ◌⊕◌, ring}
use Rattle.algebra.proofs.Table.{last}
use Rattle.algebra.proofs.Order.{abs-add, abs-mul}

pub sum-suc : (n : ℕ) (f : ℕ → ℤ) → sum (suc n) f ≡ sum n f +ℤ f n
unfolding sum
sum-suc n f = refl

pub sum-cong : (n : ℕ) (f g : ℕ → ℤ) → ((i : ℕ) → i < n → f i ≡ g i) → sum n f ≡ sum n g
unfolding sum
sum-cong zero f g h = refl
sum-cong (suc n) f g h = λ t. sum-cong n f g (λ i p. h i (omega arith)) t +ℤ h n (omega arith) t

pub sum-add : (n : ℕ) (f g : ℕ → ℤ) → sum n (λ i. f i +ℤ g i) ≡ sum n f +ℤ sum n g
unfolding sum
sum-add zero f g = refl
sum-add (suc n) f g =
    ap (λ (x : ℤ). x +ℤ (f n +ℤ g n)) (sum-add n f g)
    ∙ ring (sum n f ∷ sum n g ∷ f n ∷ g n ∷ []) (ν 0 ⊕ ν 1 ⊕ (ν 2 ⊕ ν 3)) (ν 0 ⊕ ν 2 ⊕ (ν 1 ⊕ ν 3)) refl

pub sum-scale : (n : ℕ) (c : ℤ) (f : ℕ → ℤ) → sum n (λ i. c *ℤ f i) ≡ c *ℤ sum n f
unfolding sum
sum-scale zero c f = sym (*ℤ-zero c)
sum-scale (suc n) c f = ap (λ (x : ℤ). x +ℤ c *ℤ f n) (sum-scale n c f) ∙ sym (*ℤ-add c (sum n f) (f n))

pub sum-neg : (n : ℕ) (f : ℕ → ℤ) → sum n (λ i. neg_ℤ (f i)) ≡ neg_ℤ (sum n f)
unfolding sum
sum-neg zero f = refl
sum-neg (suc n) f = ap (λ (x : ℤ). x +ℤ neg_ℤ (f n)) (sum-neg n f) ∙ sym (neg_ℤ-+ℤ (sum n f) (f n))

pub sum-none : (n : ℕ) → sum n (λ i. pos zero) ≡ pos zero
unfolding sum
sum-none zero = refl
sum-none (suc n) = ap (λ (x : ℤ). x +ℤ pos zero) (sum-none n)

pub sum-split : (m n : ℕ) (f : ℕ → ℤ) → sum (m + n) f ≡ sum m f +ℤ sum n (λ i. f (m + i))
unfolding sum
sum-split m zero f = ap (λ (x : ℕ). sum x f) (add-zero m) ∙ sym (+ℤ_idr (sum m f))
sum-split m (suc n) f =
    ap (λ (x : ℕ). sum x f) (add-suc m n) ∙ ap (λ (x : ℤ). x +ℤ f (m + n)) (sum-split m n f) ∙ +ℤ_assoc (sum m f) (sum n (λ i. f (m + i))) (f (m + n))

pub sum-swap : (m n : ℕ) (f : ℕ → ℕ → ℤ) → sum m (λ i. sum n (f i)) ≡ sum n (λ j. sum m (λ i. f i j))
unfolding sum
sum-swap zero n f = sym (sum-none n)
sum-swap (suc m) n f = ap (λ (x : ℤ). x +ℤ sum n (f m)) (sum-swap m n f) ∙ sym (sum-add n (λ j. sum m (λ i. f i j)) (f m))

-- ---- size
pub sumℕ-cong : (n : ℕ) (f g : ℕ → ℕ) → ((i : ℕ) → i < n → f i ≡ g i) → sumℕ n f ≡ sumℕ n g
unfolding sumℕ
sumℕ-cong zero f g e = refl
sumℕ-cong (suc n) f g e = λ t. sumℕ-cong n f g (λ i p. e i (omega arith)) t + e n (omega arith) t

pub sumℕ-mono : (n : ℕ) (f g : ℕ → ℕ) → ((i : ℕ) → i < n → f i ≤ g i) → sumℕ n f ≤ sumℕ n g
unfolding sumℕ
sumℕ-mono zero f g h = omega arith
sumℕ-mono (suc n) f g h = add-le-add (sumℕ-mono n f g (λ i p. h i (omega arith))) (h n (omega arith))

-- the sum of two, and a count by rows as by columns
pub sumℕ-add : (n : ℕ) (f g : ℕ → ℕ) → sumℕ n (λ i. f i + g i) ≡ sumℕ n f + sumℕ n g
unfolding sumℕ
sumℕ-add zero f g = refl
sumℕ-add (suc n) f g = omega (arith, sumℕ-add n f g)

pub sumℕ-swap : (m n : ℕ) (f : ℕ → ℕ → ℕ) → sumℕ m (λ i. sumℕ n (f i)) ≡ sumℕ n (λ j. sumℕ m (λ i. f i j))
unfolding sumℕ
sumℕ-swap zero n f = sym (none n)
  where
    none : (n : ℕ) → sumℕ n (λ j. 0) ≡ 0
    none zero = refl
    none (suc n) = omega (arith, none n)
sumℕ-swap (suc m) n f = ap (λ (k : ℕ). k + sumℕ n (f m)) (sumℕ-swap m n f) ∙ sym (sumℕ-add n (λ j. sumℕ m (λ i. f i j)) (f m))

pub sumℕ-scale : (n : ℕ) (f : ℕ → ℕ) (M : ℕ) → sumℕ n (λ i. f i * M) ≡ sumℕ n f * M
unfolding sumℕ
sumℕ-scale zero f M = sym (zero-mul M)
sumℕ-scale (suc n) f M = ap (λ (x : ℕ). x + f n * M) (sumℕ-scale n f M) ∙ sym (add-mul (sumℕ n f) (f n) M)

pub abs-sum : (n : ℕ) (f : ℕ → ℤ) → nat_abs (sum n f) ≤ sumℕ n (λ i. nat_abs (f i))
unfolding sum sumℕ
abs-sum zero f = omega arith
abs-sum (suc n) f = omega (arith, abs-sum n f, abs-add (sum n f) (f n))

-- |Σ w x| ≤ (Σ |w|) M
pub abs-dot : (n : ℕ) (w x : ℕ → ℤ) (M : ℕ) → ((i : ℕ) → i < n → nat_abs (x i) ≤ M) → nat_abs (sum n (λ i. w i *ℤ x i)) ≤ sumℕ n (λ i. nat_abs (w i)) * M
abs-dot n w x M h =
    le_trans (abs-sum n (λ i. w i *ℤ x i))
    (rw (← sumℕ-scale n (λ i. nat_abs (w i)) M)
    (sumℕ-mono n (λ i. nat_abs (w i *ℤ x i)) (λ i. nat_abs (w i) * M) (λ i p. rw (abs-mul (w i) (x i)) (mul-le-mul_left (nat_abs (w i)) (h i p)))))

pub sumℕ-const : (n M : ℕ) → sumℕ n (λ i. M) ≡ n * M
unfolding sumℕ
sumℕ-const zero M = sym (zero-mul M)
sumℕ-const (suc n) M = ap (λ (x : ℕ). x + M) (sumℕ-const n M) ∙ omega arith

-- |Σ f| ≤ n M
pub sum-in : (n : ℕ) (f : ℕ → ℤ) (M : ℕ) → ((i : ℕ) → i < n → nat_abs (f i) ≤ M) → nat_abs (sum n f) ≤ n * M
sum-in n f M h = le_trans (abs-sum n f) (rw (← sumℕ-const n M) (sumℕ-mono n (λ i. nat_abs (f i)) (λ i. M) h))

-- as a loop counts
pub sum-next : (n : ℕ) (f : ℕ → ℤ) → sum (n + 1) f ≡ sum n f +ℤ f n
sum-next n f = ap (λ (m : ℕ). sum m f) (add-one n) ∙ sum-suc n f

-- from the front
pub sum_first : (n : ℕ) (f : ℕ → ℤ) → sum (suc n) f ≡ f 0 +ℤ sum n (λ i. f (suc i))
unfolding sum
sum_first zero f = +ℤ_comm (pos zero) (f 0)
sum_first (suc n) f = ap (λ (x : ℤ). x +ℤ f (suc n)) (sum_first n f) ∙ +ℤ_assoc (f 0) (sum n (λ i. f (suc i))) (f (suc n))

pub sum-rev : (n : ℕ) (f : ℕ → ℤ) → sum n f ≡ sum n (λ i. f (n - suc i))
unfolding sum
sum-rev zero f = refl
sum-rev (suc n) f =
    ap (λ (x : ℤ). x +ℤ f n) (sum-rev n f) ∙ +ℤ_comm (sum n (λ i. f (n - suc i))) (f n)
    ∙ (λ t. ap f (top n) t +ℤ sum-cong n (λ i. f (n - suc i)) (λ i. f (suc n - suc (suc i))) (λ i p. ap f (omega arith)) t)
    ∙ sym (sum_first n (λ i. f (suc n - suc i)))
  where
    top : (n : ℕ) → n ≡ suc n - suc 0
    top n = omega arith

-- ---- for a loop that adds w i * x i
pub sumℕ-next : (n : ℕ) (f : ℕ → ℕ) → sumℕ (n + 1) f ≡ sumℕ n f + f n
unfolding sumℕ
sumℕ-next n f = ap (λ (m : ℕ). sumℕ m f) (add-one n)

pub sumℕ-le : (k n : ℕ) (f : ℕ → ℕ) → sumℕ n f ≤ sumℕ (n + k) f
unfolding sumℕ
sumℕ-le zero n f = rw (add-zero n) (le_refl (sumℕ n f))
sumℕ-le (suc k) n f = rw (add-suc n k) (omega (arith, sumℕ-le k n f))

-- no partial sum is larger: |w 0 x 0 + .. + w (k - 1) x (k - 1)| ≤ W M for every k ≤ n, where Σ |w| ≤ W
pub abs-part : (n : ℕ) (w x : ℕ → ℤ) (W M : ℕ) → sumℕ n (λ i. nat_abs (w i)) ≤ W → ((i : ℕ) → i < n → nat_abs (x i) ≤ M)
    → (k : ℕ) → k ≤ n → nat_abs (sum k (λ i. w i *ℤ x i)) ≤ W * M
abs-part n w x W M v h k l =
    let rest : k + (n - k) ≡ n = omega arith in
    let f : ℕ → ℕ = λ i. nat_abs (w i) in
    le_trans (abs-dot k w x M (λ i p. h i (omega arith)))
    (mul-le-mul_right M (le_trans (subst (λ (m : ℕ). sumℕ k f ≤ sumℕ m f) rest (sumℕ-le (n - k) k f)) v))

-- ---- a sum is 0 where each of its numbers is
pub sum-zero : (n : ℕ) (f : ℕ → ℕ) → sumℕ n f ≡ 0 → (i : ℕ) → i < n → f i ≡ 0
unfolding sumℕ
sum-zero zero f e i h = absurd (not-suc-le-zero h)
sum-zero (suc n) f e i h = last (λ (m : ℕ). f m ≡ 0) n i h (omega arith) (λ l. sum-zero n f (omega arith) i l)

pub zero-sum : (n : ℕ) (f : ℕ → ℕ) → ((i : ℕ) → i < n → f i ≡ 0) → sumℕ n f ≡ 0
unfolding sumℕ
zero-sum zero f e = refl
zero-sum (suc n) f e = omega (arith, zero-sum n f (λ i h. e i (omega arith)), e n (omega arith))

-- ---- two at a time, the odd one first
pub sum-pairs : (n : ℕ) (f : ℕ → ℤ) → sum n (λ k. f (2 * k + 1) +ℤ f (2 * k)) ≡ sum (2 * n) f
unfolding sum
sum-pairs zero f = refl
sum-pairs (suc n) f =
    ap (λ (z : ℤ). z +ℤ (f (2 * n + 1) +ℤ f (2 * n))) (sum-pairs n f)
    ∙ ring (sum (2 * n) f ∷ f (2 * n + 1) ∷ f (2 * n) ∷ []) (ν 0 ⊕ (ν 1 ⊕ ν 2)) (ν 0 ⊕ ν 2 ⊕ ν 1) refl
    ∙ sym (sum-next (2 * n + 1) f ∙ ap (λ (z : ℤ). z +ℤ f (2 * n + 1)) (sum-next (2 * n) f))
    ∙ ap (λ (m : ℕ). sum m f) (two n)
  where
    two : (n : ℕ) → 2 * n + 1 + 1 ≡ 2 * suc n
    two n = omega arith

-- ---- the numbers after the first m are 0
pub sum-rest : (m n : ℕ) (f : ℕ → ℤ) → m ≤ n → ((i : ℕ) → m ≤ i → i < n → f i ≡ pos 0) → sum n f ≡ sum m f
sum-rest m n f l e =
    let k = n - m in
    let whole : n ≡ m + k = omega arith in
    ap (λ (i : ℕ). sum i f) whole ∙ sum-split m k f
    ∙ ap (λ (z : ℤ). sum m f +ℤ z) (sum-cong k (λ i. f (m + i)) (λ i. pos 0) (λ i h. e (m + i) (omega arith) (omega arith)) ∙ sum-none k)
    ∙ +ℤ_idr (sum m f)

pub sumℕ-rest : (m n : ℕ) (f : ℕ → ℕ) → m ≤ n → ((i : ℕ) → m ≤ i → i < n → f i ≡ 0) → sumℕ n f ≡ sumℕ m f
sumℕ-rest m n f l e =
    let k = n - m in
    let whole : n ≡ m + k = omega arith in
    ap (λ (i : ℕ). sumℕ i f) whole ∙ more k (λ i h g. e i h (omega arith))
  where
    more : (k : ℕ) → ((i : ℕ) → m ≤ i → i < m + k → f i ≡ 0) → sumℕ (m + k) f ≡ sumℕ m f
    more zero z = ap (λ (i : ℕ). sumℕ i f) (add-zero m)
    more (suc k) z =
        let one : m + suc k ≡ m + k + 1 = omega arith in
        ap (λ (i : ℕ). sumℕ i f) one ∙ sumℕ-next (m + k) f ∙ omega (arith, more k (λ i h g. z i h (omega arith)), z (m + k) (omega arith) (omega arith))
