-- One step of the forward line, once over the size: sizes of its sums and differences, and what the line of half the points is given.
-- Assumes nothing.
use mathlib.Core.Path.{◌≡◌, sym, ap, ◌∙◌, subst}
use Prim.Native.Nat.{ℕ, zero, suc, ◌+◌, ◌-◌, ◌*◌, ◌≤◌, ◌<◌}
use native.Mathlib.Nat.{mul-le-mul, mul-le-mul_left, mul-le-mul_right, le_trans, mul_left_comm, mul-add, add-mul, one-mul, mul-zero, le_of_mul-le-mul_left}
use native.Mathlib.Omega.{arith}
use lib.IntN.{ℤ, nat_abs, neg_ℤ, ◌+ℤ◌, ◌-ℤ◌, ◌*ℤ◌}
use mathlib.Core.List.{List, [], ◌∷◌}
use lib.ListN.{length}
use Rattle.algebra.specs.Sum.{sum}
use Rattle.algebra.specs.Lists.{at, tabulate}
use Rattle.algebra.proofs.Order.{abs-add, abs-mul, abs_neg}
use Rattle.algebra.proofs.Sum.{sum-cong}
use Rattle.algebra.proofs.Lists.{Filled, tab-length, tab-cong}
use Rattle.meaning.specs.Weights.{weight}
use Rattle.meaning.specs.Line.{forward_sum, forward_line}
use Rattle.meaning.specs.Taken.{NoneAbove}
use Rattle.halves.specs.Halves.{Halves, odd, end_sums, end_differences}
use Rattle.dct2_line.specs.Lines.{Half, SmallLine}
use Rattle.dct2_line.proofs.HalfRows.{tab-holds}

-- n a ≤ B and 1 ≤ n give a ≤ B
pub less : (n a B : ℕ) → 1 ≤ n → n * a ≤ B → a ≤ B
less n a B s h = let m : 1 * a ≤ n * a = mul-le-mul_right a s in omega (arith, one-mul a)

pub less9 : (n a : ℕ) → 1 ≤ n → n * a ≤ 1048576 → a ≤ 1000000000
less9 n a s h = omega (arith, less n a 1048576 s h)

-- a product of k ≤ h weights and differences
module _ (h : ℕ) (w v : ℕ → ℤ) (weights : (j : ℕ) → j < h → nat_abs (w j) ≤ 90) (low : (j : ℕ) → h * nat_abs (v j) ≤ 1048576) where
  grow : (k : ℕ) → k ≤ h → h * nat_abs (sum k (λ j. w j *ℤ v j)) ≤ k * 94371840
  unfolding sum
  grow zero l = omega (arith, mul-zero h)
  grow (suc k) l =
      let S = sum k (λ j. w j *ℤ v j) in
      let P = w k *ℤ v k in
      let b : h * nat_abs (S +ℤ P) ≤ h * (nat_abs S + nat_abs P) = mul-le-mul_left h (abs-add S P) in
      let c : nat_abs (w k) * (h * nat_abs (v k)) ≤ 90 * 1048576 = mul-le-mul (weights k (omega arith)) (low k) in
      let d : h * nat_abs P ≡ nat_abs (w k) * (h * nat_abs (v k)) = ap (λ (m : ℕ). h * m) (abs-mul (w k) (v k)) ∙ mul_left_comm h (nat_abs (w k)) (nat_abs (v k)) in
      omega (arith, b, c, d, mul-add h (nat_abs S) (nat_abs P), grow k (omega arith))

  pub row-size : (k : ℕ) → k ≤ h → 0 < h → nat_abs (sum k (λ j. w j *ℤ v j)) ≤ 94371840
  row-size k l s =
      let a : k * 94371840 ≤ h * 94371840 = mul-le-mul_right 94371840 l in
      le_of_mul-le-mul_left (le_trans (grow k l) a) s

-- the sums and the differences of h places are as small as the inputs of 2h
module _ (h : ℕ) (x y : ℤ) (p : (h + h) * nat_abs x ≤ 1048576) (q : (h + h) * nat_abs y ≤ 1048576) where
  pub add_low : h * nat_abs (x +ℤ y) ≤ 1048576
  add_low =
      let b : h * nat_abs (x +ℤ y) ≤ h * (nat_abs x + nat_abs y) = mul-le-mul_left h (abs-add x y) in
      omega (arith, b, mul-add h (nat_abs x) (nat_abs y), add-mul h h (nat_abs x), add-mul h h (nat_abs y))

pub sub_low : (h : ℕ) (x y : ℤ) → (h + h) * nat_abs x ≤ 1048576 → (h + h) * nat_abs y ≤ 1048576 → h * nat_abs (x -ℤ y) ≤ 1048576
sub_low h x y p q = add_low h x (neg_ℤ y) p (subst (λ (m : ℕ). (h + h) * m ≤ 1048576) (sym (abs_neg y)) q)

-- ---- a list that is small at its places is small past its end too
everywhere : (h : ℕ) (s : List ℤ) → ((k : ℕ) → k < length s → h * nat_abs (at s k) ≤ 1048576) → (k : ℕ) → h * nat_abs (at s k) ≤ 1048576
everywhere h [] p k = omega (arith, mul-zero h)
everywhere h (z ∷ s) p zero = p zero (omega arith)
everywhere h (z ∷ s) p (suc k) = everywhere h s (λ i l. p (suc i) (omega arith)) k

tab-low : (h : ℕ) (s : List ℤ) (f : ℕ → ℤ) → s ≡ tabulate h f → ((k : ℕ) → k < h → h * nat_abs (f k) ≤ 1048576) → (k : ℕ) → h * nat_abs (at s k) ≤ 1048576
tab-low h s f e p =
    let l : length s ≡ h = ap length e ∙ tab-length h f in
    everywhere h s (λ k q. subst (λ (z : ℤ). h * nat_abs z ≤ 1048576) (sym (tab-holds h s f e k (omega arith))) (p k (omega arith)))

-- what the lines and the differences of half the points are given
pub sums-small : (h : ℕ) (x s : List ℤ) → 1 ≤ h → SmallLine (h + h) x → s ≡ tabulate h (end_sums (h + h) (at x)) → SmallLine h s
sums-small h x s o p e =
    record {
      some = o;
      few = omega (arith, p.few);
      long = ap length e ∙ tab-length h (end_sums (h + h) (at x));
      low = tab-low h s (end_sums (h + h) (at x)) e (λ k l. add_low h (at x k) (at x (h + h - 1 - k)) (p.low k) (p.low (h + h - 1 - k)));
    }

differences-small : (h : ℕ) (x d : List ℤ) → 1 ≤ h → SmallLine (h + h) x → d ≡ tabulate h (end_differences (h + h) (at x)) → SmallLine h d
differences-small h x d o p e =
    record {
      some = o;
      few = omega (arith, p.few);
      long = ap length e ∙ tab-length h (end_differences (h + h) (at x));
      low = tab-low h d (end_differences (h + h) (at x)) e (λ k l. sub_low h (at x k) (at x (h + h - 1 - k)) (p.low k) (p.low (h + h - 1 - k)));
    }

-- a line over a list is the line over what the list holds
over : (h : ℕ) (s : List ℤ) (f : ℕ → ℤ) → s ≡ tabulate h f → tabulate h (forward_sum 0 h (at s)) ≡ tabulate h (forward_sum 0 h f)
unfolding forward_sum
over h s f e =
    tab-cong h _ _ (λ i q. sum-cong h (λ j. weight 0 h i j *ℤ at s j) (λ j. weight 0 h i j *ℤ f j) (λ j l. ap (λ (z : ℤ). weight 0 h i j *ℤ z) (tab-holds h s f e j l)))

-- what the outputs are woven of: the line of half the points over the sums s, and the differences d
pub weave-given : {h m : ℕ} {x s d e t : List ℤ} → 1 ≤ h → SmallLine (h + h) x → m ≡ h + h → (s ≡ tabulate h (end_sums (h + h) (at x))) × (d ≡ tabulate h (end_differences (h + h) (at x)))
    → e ≡ tabulate h (forward_sum 0 h (at s)) → Half (odd (h + h)) h t → Halves (h + h) h
    → (Half (odd (h + h)) h t × Halves (h + h) h) × (SmallLine h d × ((e ≡ tabulate h (forward_sum 0 h (end_sums (h + h) (at x)))) × ((d ≡ tabulate h (end_differences (h + h) (at x))) × (m ≡ h + h))))
weave-given {h} {x = x} {s} {d} o p l q e t v = ((t, v), (differences-small h x d o p q.1, (e ∙ over h s (end_sums (h + h) (at x)) q.0, (q.1, l))))

pub recount : {m n : ℕ} {a a₀ : List ℤ} {f : ℕ → ℤ} → m ≡ n → Filled 0 m a a₀ f → Filled 0 n a a₀ f
recount {a = a} {a₀} {f} e p = subst (λ (k : ℕ). Filled 0 k a a₀ f) e p

-- ---- a whole line
pub whole-small : (x : List ℤ) (m : ℕ) → 1 ≤ m → m ≤ 32 → NoneAbove 32768 x → (a : List ℤ) → a ≡ tabulate m (at x) → SmallLine m a
whole-small x m some few low a q =
    record {
      some = some;
      few = few;
      long = ap length q ∙ tab-length m (at x);
      low = fits m a (at x) q few low;
    }
  where
    fits : (m : ℕ) (a : List ℤ) (f : ℕ → ℤ) → a ≡ tabulate m f → m ≤ 32 → ((k : ℕ) → nat_abs (f k) ≤ 32768) → (k : ℕ) → m * nat_abs (at a k) ≤ 1048576
    fits m a f q few low = tab-low m a f q (λ k l. le_trans (mul-le-mul few (low k)) (omega arith))

pub whole-line : {n : ℕ} (m : ℕ) → n ≡ m → (x a : List ℤ) → a ≡ tabulate m (at x) → tabulate m (forward_sum 0 m (at a)) ≡ forward_line 0 n (at x)
unfolding forward_line
whole-line m e x a q = over m a (at x) q ∙ ap (λ (m : ℕ). forward_line 0 m (at x)) (sym e)
