-- The values of a line by a stored matrix: what the sums by pairs are given and what they leave (`some-given`, `small_line`,
-- `line-done`), for a matrix that one computed test holds to its rule (`line-given`, `valued`). Assumes nothing.
use mathlib.Core.Path.{◌≡◌, sym, ap, ◌∙◌, subst}
use mathlib.Core.Logic.{◌⊎◌, inl, inr, ⊎_elim}
use mathlib.Core.Bool.{Bool}
use mathlib.Core.List.{List}
use Prim.Native.Nat.{ℕ, ◌+◌, ◌*◌, ◌-◌, ◌≤◌, ◌<◌, zero-le}
use native.Mathlib.Nat.{zero-add, sub-zero}
use native.Mathlib.Omega.{arith}
use lib.ListN.{length}
use lib.IntN.{ℤ, nat_abs, ◌*ℤ◌}
use Rattle.algebra.specs.Sum.{sum}
use Rattle.algebra.specs.Lists.{at}
use Rattle.algebra.proofs.Sum.{sum-cong}
use Rattle.meaning.specs.Plan.{range_of}
use Rattle.meaning.specs.Inverse.{middle}
use Rattle.product.specs.Product.{spot, Laid, line_sum}
use Rattle.product.proofs.Laid.{spot-two}
use Rattle.kernel_steps.specs.Weighed.{Weighed, Small, sum_size}
use Rattle.kernel_steps.specs.Written.{WroteFrom}
use Rattle.lfnst_tables.specs.Lfnst.{entry, outputs_of}
use Rattle.lfnst_tables.specs.Line.{GivenValues, GivenInputs}
use Rattle.lfnst_tables.proofs.Sizes.{entry-size}

-- what is written is the same where the values and their number are
pub wrote-same : {n m : ℕ} {a a₀ : List ℤ} {f g : ℕ → ℤ} → n ≡ m → ((k : ℕ) → k < n → f k ≡ g k) → WroteFrom 0 n a a₀ f → WroteFrom 0 m a a₀ g
wrote-same {n} {m} {a} {a₀} {f} {g} e s p =
    record {
      long = p.long;
      done = λ k h. let l : k < n = omega arith in p.done k l ∙ s k l;
      before = p.before;
      after = λ k h. p.after k (omega arith);
    }

-- values made of what was written
pub wrote-again : {n : ℕ} {a a₁ a₀ : List ℤ} {f h : ℕ → ℤ} (g : ℤ → ℤ) → WroteFrom 0 n a₁ a₀ f → WroteFrom 0 n a a₁ (λ j. g (at a₁ j)) → ((k : ℕ) → k < n → f k ≡ h k) → WroteFrom 0 n a a₀ (λ j. g (h j))
wrote-again {n} {a} {a₁} {a₀} {f} {h} g p q s =
    record {
      long = q.long ∙ p.long;
      done = λ k l. q.done k l ∙ ap g (ap (at a₁) (sym (zero-add k)) ∙ p.done k l ∙ s k l);
      before = λ k l. absurd (omega arith);
      after = λ k l. q.after k l ∙ p.after k l;
    }

pub not-four : {pairs : ℕ} → (pairs ≡ 4) ⊎ (pairs ≡ 8) → (pairs ≡ 4 → ⊥) → pairs ≡ 8
not-four h n = ⊎_elim (λ e. absurd (n e)) (λ e. e) h

-- ---- sums by pairs, of which there are as many as is written
module _ {n pairs : ℕ} {t a v : List ℤ} (g : GivenValues n pairs t a v) (p : ℕ) (e : pairs ≡ p) where
  pub some-given : Weighed n p a t (2 * n) × ((0 ≤ n) × (n ≤ length v))
  some-given = (subst (λ (p : ℕ). Weighed n p a t (2 * n)) e g.weighed, (zero-le, g.room))

  module _ {v₁ : List ℤ} (w : WroteFrom 0 (n - 0) v₁ v (λ k. line_sum a 0 2 t (2 * n) p (0 + k)) × ((i : ℕ) → i < n - 0 → nat_abs (line_sum a 0 2 t (2 * n) p (0 + i)) ≤ sum_size)) where
    -- they may be rounded
    pub small_line : Small n v₁
    small_line =
        record {
          room = omega (arith, w.0.long, g.room);
          low = λ j h.
              let l : j < n - 0 = omega arith in
              let b : nat_abs (at v₁ j) ≤ sum_size = subst (λ (z : ℤ). nat_abs z ≤ sum_size) (sym (ap (at v₁) (sym (zero-add j)) ∙ w.0.done j l)) (w.1 j l) in
              omega (arith, b);
        }

    pub line-done : {v₂ : List ℤ} → WroteFrom 0 n v₂ v₁ (λ j. middle (range_of 15) (at v₁ j)) → WroteFrom 0 n v₂ v (λ j. middle (range_of 15) (line_sum a 0 2 t (2 * n) pairs j))
    line-done f =
        wrote-again (middle (range_of 15)) (wrote-same (sub-zero n) (λ k h i. line_sum a 0 2 t (2 * n) p (zero-add k i)) w.0) f (λ k h i. line_sum a 0 2 t (2 * n) (sym e i) k)

-- ---- matrix k, of which the first p pairs of inputs are stored
module _ (wide : Bool) (k p : ℕ) {pairs : ℕ} {t a v : List ℤ} (m : k < 8) (e : pairs ≡ p) (g : GivenInputs (outputs_of wide) pairs a v)
    (stored : Laid (outputs_of wide) p 2 (2 * outputs_of wide) (entry (outputs_of wide) k) t) where
  few : p ≤ 8
  few = ⊎_elim (λ h. omega (arith, h, e)) (λ h. omega (arith, h, e)) g.half

  pub line-given : GivenValues (outputs_of wide) pairs t a v
  line-given =
      record {
        half = g.half;
        weighed = record {
          few = omega (arith, few);
          there = omega (arith, few, g.long);
          held = λ i j l h. stored.held i j (omega arith) h;
          light = λ i j l h. subst (λ (z : ℤ). nat_abs z ≤ 121) (sym (stored.right i j (omega arith) h)) (entry-size wide m h i (omega (arith, few)));
        };
        room = g.room;
      }

  pub valued : {v₁ : List ℤ} → WroteFrom 0 (outputs_of wide) v₁ v (λ j. middle (range_of 15) (line_sum a 0 2 t (2 * outputs_of wide) pairs j))
      → WroteFrom 0 (outputs_of wide) v₁ v (λ j. middle (range_of 15) (sum (2 * pairs) (λ i. at a i *ℤ entry (outputs_of wide) k i j)))
  unfolding line_sum
  valued w =
      record {
        long = w.long;
        done = λ j h. w.done j h ∙ ap (middle (range_of 15)) (sum-cong (2 * pairs) _ _ (λ i l s. at a (place i s) *ℤ stored.right i j (below i l) h s));
        before = w.before;
        after = w.after;
      }
    where
      place : (i : ℕ) → 0 + spot 2 i ≡ i
      place i = omega (arith, spot-two i)

      below : (i : ℕ) → i < 2 * pairs → i < 2 * p
      below i l = omega arith

-- ---- which matrix is asked for
pub between : {pairs : ℕ} → (pairs ≡ 4) ⊎ (pairs ≡ 8) → (4 ≤ pairs) × (pairs ≤ 8)
between = ⊎_elim (λ e. (omega arith, omega arith)) (λ e. (omega arith, omega arith))

pub asked-few : {matrix pairs : ℕ} (k : ℕ) → k < 8 → (pairs ≡ 4) ⊎ (pairs ≡ 8) → matrix + 2 * pairs - 8 ≡ k → (matrix ≡ k) × (pairs ≡ 4)
asked-few k l (inl e) w = (omega arith, e)
asked-few k l (inr e) w = absurd (omega arith)

pub asked-all : {matrix pairs : ℕ} (k : ℕ) → matrix < 8 → (pairs ≡ 4) ⊎ (pairs ≡ 8) → matrix + 2 * pairs - 8 ≡ 8 + k → (matrix ≡ k) × (pairs ≡ 8)
asked-all k l (inl e) w = absurd (omega arith)
asked-all k l (inr e) w = (omega arith, e)

-- past one more of them
pub past : {which : ℕ} (k : ℕ) → k ≤ which → (which ≡ k → ⊥) → k + 1 ≤ which
past k l n = omega arith

pub the-sixteenth : {matrix pairs : ℕ} → matrix < 8 → (pairs ≡ 4) ⊎ (pairs ≡ 8) → 15 ≤ matrix + 2 * pairs - 8 → (matrix ≡ 7) × (pairs ≡ 8)
the-sixteenth l (inl e) w = absurd (omega arith)
the-sixteenth l (inr e) w = (omega arith, e)

-- matrix m is matrix k
pub valued_as : {n m k pairs : ℕ} {a v v₁ : List ℤ} → GivenInputs n pairs a v → m ≡ k
    → WroteFrom 0 n v₁ v (λ j. middle (range_of 15) (sum (2 * pairs) (λ i. at a i *ℤ entry n k i j)))
    → WroteFrom 0 n v₁ v (λ j. middle (range_of 15) (sum (2 * pairs) (λ i. at a i *ℤ entry n m i j)))
valued_as {n} {m} {k} {pairs} {a} {v} {v₁} g e = subst (λ (m : ℕ). WroteFrom 0 n v₁ v (λ j. middle (range_of 15) (sum (2 * pairs) (λ i. at a i *ℤ entry n m i j)))) (sym e)
