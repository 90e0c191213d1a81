-- That every row of a class is folded so, and that the two sides of a fold are one, is computed: one test for each size over the
-- whole table of weights, carried to each row and place. Then the law gives each output of a forward line and each place of an
-- inverse one, over (n, p, q). Assumes nothing.
use mathlib.Core.Path.{◌≡◌, refl, sym, ap, ◌∙◌}
use mathlib.Core.Bool.{Bool, true, false, cond, not, ◌&&◌, ◌||◌, false≢true}
use mathlib.Core.List.{List}
use Prim.Native.Nat.{ℕ, ◌%◌, ◌<◌}
use lib.Dec.{T, eqb}
use borrow.Author.Tests.{eq-eqb}
use lib.IntN.{ℤ, pos, ◌+ℤ◌, ◌*ℤ◌, +ℤ_idl, +ℤ_idr, zero-*ℤ, *ℤ-zero}
use Rattle.algebra.specs.Equal.{eq_z}
use Rattle.algebra.specs.Sum.{sum}
use Rattle.algebra.specs.Lists.{at}
use Rattle.algebra.proofs.Ring.{*ℤ-add, one-*ℤ}
use Rattle.algebra.proofs.Sum.{sum-cong, sum-add}
use Rattle.algebra.proofs.Table.{all_to, all_to-at, and_left, and_right, eq_z→eq}
use Rattle.meaning.specs.Weights.{S}
use Rattle.shared_steps.specs.Folds.{SignedPlace, folded, occurrence, half, class_of, width, signed_places, into}
use Rattle.shared_steps.specs.Steps.{Factored, short_sum, only, Class, joined_sums}
use Rattle.shared_steps.proofs.Law.{below, folded-sum, fold-inputs, fold-sums}

-- a test that is asked only where another one passes
pub implied : (b d : Bool) → b ≡ true → T (not b || d) → T d
implied true d e t = t
implied false d e t = absurd (false≢true e)

-- ---- the tests of a class
abbrev row_folds : ℕ → ℕ → ℕ → ℕ → ℕ → ℕ → Bool
row_folds n p q c k i = not (eqb (class_of p q i) c) || eq_z (S n i k) (folded (S n i) (signed_places p q c k))

abbrev place_folds : ℕ → ℕ → ℕ → ℕ → ℕ → Bool
place_folds n p q c k = below (width p q c) (signed_places p q c k) && all_to n (row_folds n p q c k)

abbrev same_side : ℕ → ℕ → ℕ → ℕ → ℕ → ℕ → Bool
same_side n p q c g k = eq_z (occurrence (into n p q c g) k) (occurrence (signed_places p q c k) g)

abbrev turns_round : ℕ → ℕ → ℕ → ℕ → ℕ → Bool
turns_round n p q c g = below n (into n p q c g) && all_to n (same_side n p q c g)

abbrev pub folds : ℕ → ℕ → ℕ → ℕ → Bool
folds n p q c = all_to n (place_folds n p q c) && all_to (width p q c) (turns_round n p q c)

pub record Shared (n p q : ℕ) : Type 0 where
  pub size : Factored n p q
  pub first : T (folds n p q 1)
  pub second : T (folds n p q 2)
  pub third : T (folds n p q 3)

module _ (n p q c : ℕ) (t : T (folds n p q c)) where
  place_of : (k : ℕ) → k < n → T (place_folds n p q c k)
  place_of = all_to-at n (place_folds n p q c) (and_left (all_to n (place_folds n p q c)) (all_to (width p q c) (turns_round n p q c)) t)

  turn-of : (g : ℕ) → g < width p q c → T (turns_round n p q c g)
  turn-of = all_to-at (width p q c) (turns_round n p q c) (and_right (all_to n (place_folds n p q c)) (all_to (width p q c) (turns_round n p q c)) t)

  low : (k : ℕ) → k < n → T (below (width p q c) (signed_places p q c k))
  low k h = and_left (below (width p q c) (signed_places p q c k)) (all_to n (row_folds n p q c k)) (place_of k h)

  row_of : (k i : ℕ) → k < n → i < n → T (row_folds n p q c k i)
  row_of k i h l = all_to-at n (row_folds n p q c k) (and_right (below (width p q c) (signed_places p q c k)) (all_to n (row_folds n p q c k)) (place_of k h)) i l

  row-folds : (k i : ℕ) → k < n → i < n → class_of p q i ≡ c → S n i k ≡ folded (S n i) (signed_places p q c k)
  row-folds k i h l e = eq_z→eq (S n i k) (folded (S n i) (signed_places p q c k)) (implied (eqb (class_of p q i) c) (eq_z (S n i k) (folded (S n i) (signed_places p q c k))) (eq-eqb (class_of p q i) c e) (row_of k i h l))

  -- a number that the inputs are folded to, seen from the places
  gathered : (x : ℕ → ℤ) (g : ℕ) → g < width p q c → folded x (into n p q c g) ≡ sum n (λ k. occurrence (signed_places p q c k) g *ℤ x k)
  gathered x g h =
      let b = below n (into n p q c g) in
      let a = all_to n (same_side n p q c g) in
      folded-sum n x (into n p q c g) (and_left b a (turn-of g h))
      ∙ sum-cong n (λ k. occurrence (into n p q c g) k *ℤ x k) (λ k. occurrence (signed_places p q c k) g *ℤ x k)
      (λ k l. ap (λ (z : ℤ). z *ℤ x k) (eq_z→eq (occurrence (into n p q c g) k) (occurrence (signed_places p q c k) g) (all_to-at n (same_side n p q c g) (and_right b a (turn-of g h)) k l)))

  -- forward: an output of the class
  pub short-is : (x : ℕ → ℤ) (t : List ℤ) → ((g : ℕ) → g < width p q c → at t g ≡ folded x (into n p q c g)) → (i : ℕ) → i < n → class_of p q i ≡ c
      → short_sum n (width p q c) t i ≡ sum n (λ k. S n i k *ℤ x k)
  unfolding short_sum
  short-is x t e i h d =
      sum-cong (width p q c) (λ g. S n i g *ℤ at t g) (λ g. S n i g *ℤ sum n (λ k. occurrence (signed_places p q c k) g *ℤ x k)) (λ g l. ap (λ (z : ℤ). S n i g *ℤ z) (e g l ∙ gathered x g l))
      ∙ sym (fold-inputs n (width p q c) (S n i) x (signed_places p q c) low (λ k l. row-folds k i l h d))

  -- inverse: a place, from the sums of the class
  pub place_is : (x : ℕ → ℤ) (a : List ℤ) → ((g : ℕ) → g < width p q c → at a g ≡ sum n (λ i. S n i g *ℤ only p q c x i)) → (k : ℕ) → k < n
      → folded (at a) (signed_places p q c k) ≡ sum n (λ i. S n i k *ℤ only p q c x i)
  place_is x a e k h =
      folded-cong (width p q c) (at a) (λ g. sum n (λ i. S n i g *ℤ only p q c x i)) (signed_places p q c k) (low k h) e
      ∙ sym (fold-sums n (width p q c) (S n) (only p q c x) k (signed_places p q c k) (low k h) (λ i l. product i (row_of k i h l)))
    where
      folded-cong : (m : ℕ) (f g : ℕ → ℤ) (E : List SignedPlace) → T (below m E) → ((k : ℕ) → k < m → f k ≡ g k) → folded f E ≡ folded g E
      folded-cong m f g E b e =
          folded-sum m f E b ∙ sum-cong m (λ k. occurrence E k *ℤ f k) (λ k. occurrence E k *ℤ g k) (λ k h. ap (λ (z : ℤ). occurrence E k *ℤ z) (e k h)) ∙ sym (folded-sum m g E b)

      either : (b : Bool) (w v x : ℤ) → T (not b || eq_z w v) → w *ℤ cond b x (pos 0) ≡ v *ℤ cond b x (pos 0)
      either true w v x t = ap (λ (y : ℤ). y *ℤ x) (eq_z→eq w v t)
      either false w v x t = *ℤ-zero w ∙ sym (*ℤ-zero v)

      product : (i : ℕ) → T (row_folds n p q c k i) → S n i k *ℤ only p q c x i ≡ folded (S n i) (signed_places p q c k) *ℤ only p q c x i
      product i = either (eqb (class_of p q i) c) (S n i k) (folded (S n i) (signed_places p q c k)) (x i)

-- ---- the three classes are all rows
three : (p q i : ℕ) (x : ℕ → ℤ) → x i ≡ only p q 1 x i +ℤ (only p q 2 x i +ℤ only p q 3 x i)
unfolding class_of
three p q i x = go (eqb (i % p) (half p)) (eqb (i % q) (half q)) (x i)
  where
    go : (a b : Bool) (z : ℤ) → let c = cond {A = ℕ} a 2 (cond {A = ℕ} b 3 1) in z ≡ cond (eqb c 1) z (pos 0) +ℤ (cond (eqb c 2) z (pos 0) +ℤ cond (eqb c 3) z (pos 0))
    go true b z = sym (+ℤ_idl (z +ℤ pos 0) ∙ +ℤ_idr z)
    go false true z = sym (+ℤ_idl (pos 0 +ℤ z) ∙ +ℤ_idl z)
    go false false z = sym (+ℤ_idr z)

pub joined_is : {n p q : ℕ} → Shared n p q → (x : ℕ → ℤ) {a b d : List ℤ} → Class n p q 1 x a → Class n p q 2 x b → Class n p q 3 x d
    → (k : ℕ) → k < n → joined_sums p q a b d k ≡ sum n (λ i. S n i k *ℤ x i)
unfolding joined_sums
joined_is {n} {p} {q} s x {a} {b} {d} ca cb cd k h =
    (λ t. place_is n p q 1 s.first x a ca.are k h t +ℤ (place_is n p q 2 s.second x b cb.are k h t +ℤ place_is n p q 3 s.third x d cd.are k h t))
    ∙ (λ t. of 1 t +ℤ sym (sum-add n (λ i. S n i k *ℤ only p q 2 x i) (λ i. S n i k *ℤ only p q 3 x i)) t)
    ∙ sym (sum-add n (λ i. S n i k *ℤ only p q 1 x i) (λ i. S n i k *ℤ only p q 2 x i +ℤ S n i k *ℤ only p q 3 x i))
    ∙ sum-cong n (λ i. S n i k *ℤ only p q 1 x i +ℤ (S n i k *ℤ only p q 2 x i +ℤ S n i k *ℤ only p q 3 x i)) (λ i. S n i k *ℤ x i)
    (λ i l. ap (λ (z : ℤ). S n i k *ℤ only p q 1 x i +ℤ z) (sym (*ℤ-add (S n i k) (only p q 2 x i) (only p q 3 x i)))
    ∙ sym (*ℤ-add (S n i k) (only p q 1 x i) (only p q 2 x i +ℤ only p q 3 x i)) ∙ ap (λ (z : ℤ). S n i k *ℤ z) (sym (three p q i x)))
  where
    of : (c : ℕ) → sum n (λ i. S n i k *ℤ only p q c x i) ≡ sum n (λ i. S n i k *ℤ only p q c x i)
    of c = refl

-- ---- a class summed row by row, in any order
pub record Summed (n m : ℕ) (x : ℕ → ℤ) (rows : List SignedPlace) (a : List ℤ) : Type 0 where
  pub are : (g : ℕ) → g < m → at a g ≡ folded (λ i. S n i g *ℤ x i) rows

abbrev pub these : ℕ → ℕ → ℕ → ℕ → List SignedPlace → Bool
these n p q c rows = below n rows && all_to n (λ i. eq_z (occurrence rows i) (cond (eqb (class_of p q i) c) (pos 1) (pos 0)))

pub class-is : {n p q c : ℕ} {x : ℕ → ℤ} {rows : List SignedPlace} {a : List ℤ} → T (these n p q c rows) → Summed n (width p q c) x rows a → Class n p q c x a
class-is {n} {p} {q} {c} {x} {rows} {a} t s =
    record {
      are = λ g h. s.are g h ∙ folded-sum n (λ i. S n i g *ℤ x i) rows (and_left (below n rows) _ t)
          ∙ sum-cong n (λ i. occurrence rows i *ℤ (S n i g *ℤ x i)) (λ i. S n i g *ℤ only p q c x i)
          (λ i l. ap (λ (z : ℤ). z *ℤ (S n i g *ℤ x i)) (eq_z→eq (occurrence rows i) (cond (eqb (class_of p q i) c) (pos 1) (pos 0)) (all_to-at n (λ i. eq_z (occurrence rows i) (cond (eqb (class_of p q i) c) (pos 1) (pos 0))) (and_right (below n rows) _ t) i l))
          ∙ either (eqb (class_of p q i) c) (S n i g) (x i));
    }
  where
    either : (b : Bool) (w x : ℤ) → cond b (pos 1) (pos 0) *ℤ (w *ℤ x) ≡ w *ℤ cond b x (pos 0)
    either true w x = one-*ℤ (w *ℤ x)
    either false w x = zero-*ℤ (w *ℤ x) ∙ sym (*ℤ-zero w)
