-- DCT-VIII by the weights of DST-VII: forward, the inputs backwards and the signs on the sums; inverse, the signs on the inputs and
-- the sums backwards. Assumes nothing.
use mathlib.Core.Path.{◌≡◌, refl, sym, ap, ◌∙◌, subst}
use mathlib.Core.Bool.{Bool, true, false, ◌||◌}
use mathlib.Core.List.{List}
use Prim.Native.Nat.{ℕ, suc, ◌-◌, ◌<◌}
use native.Mathlib.Omega.{arith}
use borrow.Author.Tests.{eqb-true}
use lib.Dec.{eqb}
use lib.ListN.{length}
use lib.IntN.{ℤ, ◌*ℤ◌}
use Rattle.algebra.specs.Sum.{sum}
use Rattle.algebra.specs.Lists.{at}
use Rattle.algebra.proofs.Ring.{neg-*ℤ, *ℤ-neg}
use Rattle.algebra.proofs.Sum.{sum-cong, sum-rev, sum-neg}
use Rattle.algebra.proofs.Lists.{tabulated}
use Rattle.meaning.specs.Weights.{S, C, weight, signed}
use Rattle.meaning.specs.Line.{forward_sum, inverse_sum, forward_line, inverse_line}
use Rattle.shared_steps.specs.Folds.{is_odd}
use Rattle.shared_steps.specs.Lines.{turned, alternated, reading, used, is_folded, is_shared, kind_of}
use Rattle.shared_steps.specs.Steps.{FilledTo}
use Rattle.shared_steps.proofs.Reading.{turned-in, turned-twice}

sum-turned : (back : Bool) (n : ℕ) (f : ℕ → ℤ) → sum n (λ k. f (turned back n k)) ≡ sum n f
sum-turned true n f = sum-cong n (λ k. f (n - 1 - k)) (λ k. f (n - suc k)) (λ k h. ap f (omega arith)) ∙ sym (sum-rev n f)
sum-turned false n f = refl

sum-signed : (b : Bool) (n : ℕ) (f : ℕ → ℤ) → sum n (λ k. signed b (f k)) ≡ signed b (sum n f)
sum-signed true n f = sum-neg n f
sum-signed false n f = refl

signed-left : (b : Bool) (w x : ℤ) → signed b w *ℤ x ≡ signed b (w *ℤ x)
signed-left true w x = neg-*ℤ w x
signed-left false w x = refl

signed-right : (b : Bool) (w x : ℤ) → w *ℤ signed b x ≡ signed b (w *ℤ x)
signed-right true w x = *ℤ-neg w x
signed-right false w x = refl

-- output i of the line of the inputs x, by the weights of DST-VII
unfoldable pub output : Bool → ℕ → List ℤ → ℕ → ℤ
output back n x i = alternated back i (sum n (λ k. S n i k *ℤ reading back n x k))

pub output-is : (back : Bool) (n : ℕ) (x : List ℤ) (i : ℕ) → output back n x i ≡ forward_sum (kind_of back) n (at x) i
unfolding output forward_sum weight C
output-is false n x i = refl
output-is true n x i =
    let f : ℕ → ℤ = λ k. S n i k *ℤ at x (n - 1 - k) in
    ap (signed (is_odd i))
    (sym (sum-turned true n f)
    ∙ sum-cong n (λ k. f (n - 1 - k)) (λ k. S n i (n - 1 - k) *ℤ at x k) (λ k h. ap (λ (j : ℕ). S n i (n - 1 - k) *ℤ at x j) (turned-twice true n k h)))
    ∙ sym (sum-signed (is_odd i) n (λ k. S n i (n - 1 - k) *ℤ at x k))
    ∙ sum-cong n (λ k. signed (is_odd i) (S n i (n - 1 - k) *ℤ at x k)) (λ k. signed (is_odd i) (S n i (n - 1 - k)) *ℤ at x k) (λ k h. sym (signed-left (is_odd i) (S n i (n - 1 - k)) (at x k)))

-- place j of the line, which is place k of the sums
pub place-sum : (back : Bool) (n : ℕ) (x : List ℤ) (j : ℕ) → sum n (λ i. S n i (turned back n j) *ℤ used back x i) ≡ inverse_sum (kind_of back) n n (at x) j
unfolding inverse_sum weight C
place-sum false n x j = refl
place-sum true n x j =
    sum-cong n (λ i. S n i (n - 1 - j) *ℤ signed (is_odd i) (at x i)) (λ i. signed (is_odd i) (S n i (n - 1 - j)) *ℤ at x i)
    (λ i h. signed-right (is_odd i) (S n i (n - 1 - j)) (at x i) ∙ sym (signed-left (is_odd i) (S n i (n - 1 - j)) (at x i)))

-- all places are written
pub inverse-whole : {back : Bool} {n : ℕ} {f : ℕ → ℤ} {y : List ℤ} (x : List ℤ) → FilledTo back n n f y
    → ((k : ℕ) → k < n → f k ≡ sum n (λ i. S n i k *ℤ used back x i)) → y ≡ inverse_line (kind_of back) n n (at x)
unfolding inverse_line
inverse-whole {back} {n} {f} {y} x w e =
    tabulated n y (inverse_sum (kind_of back) n n (at x)) w.long
    (λ j h. ap (at y) (sym (turned-twice back n j h)) ∙ w.done (turned back n j) (turned-in back n j h) ∙ e (turned back n j) (turned-in back n j h) ∙ place-sum back n x j)

pub forward-whole : (back : Bool) (n : ℕ) (x : List ℤ) {y : List ℤ} → length y ≡ n → ((i : ℕ) → i < n → at y i ≡ output back n x i) → y ≡ forward_line (kind_of back) n (at x)
unfolding forward_line
forward-whole back n x {y} l e = tabulated n y (forward_sum (kind_of back) n (at x)) l (λ i h. e i h ∙ output-is back n x i)

-- a kind that was tested
pub sine : (P : ℕ → Type 0) → P 1 → P 2 → (kind : ℕ) → is_folded kind ≡ true → P kind
sine P one two kind = either (eqb kind 1) (eqb kind 2) (λ e. subst P (sym (eqb-true kind 1 e)) one) (λ e. subst P (sym (eqb-true kind 2 e)) two)
  where
    either : (a b : Bool) → (a ≡ true → P kind) → (b ≡ true → P kind) → a || b ≡ true → P kind
    either true b f g h = f h
    either false b f g h = g h

pub kind-back : (kind : ℕ) → is_folded kind ≡ true → kind_of (eqb kind 2) ≡ kind
kind-back = sine (λ k. kind_of (eqb k 2) ≡ k) refl refl

-- a size that is neither of the two others
pub thirty_two : (n : ℕ) → is_shared n ≡ true → (n ≡ 4 → ⊥) → (n ≡ 16 → ⊥) → n ≡ 32
thirty_two n s a b = eqb-true n 32 (rest (eqb n 4) (eqb n 16) (eqb n 32) (λ e. a (eqb-true n 4 e)) (λ e. b (eqb-true n 16 e)) s)
  where
    rest : (x y z : Bool) → (x ≡ true → ⊥) → (y ≡ true → ⊥) → x || (y || z) ≡ true → z ≡ true
    rest true y z f g e = absurd (f refl)
    rest false true z f g e = absurd (g refl)
    rest false false z f g e = e
