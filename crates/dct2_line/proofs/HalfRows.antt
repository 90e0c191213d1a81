-- A stored half by one computed test, and what the product by pairs is given of it. Assumes nothing.
use mathlib.Core.Path.{◌≡◌, sym, ap, ◌∙◌, subst}
use mathlib.Core.Logic.{inl}
use mathlib.Core.List.{List}
use Prim.Native.Nat.{ℕ, ◌+◌, ◌*◌, ◌≤◌, ◌<◌}
use native.Mathlib.Nat.{zero-add}
use native.Mathlib.Omega.{arith}
use lib.Dec.{T, leb, leb→le}
use lib.ListN.{length}
use lib.IntN.{ℤ, pos, nat_abs, ◌*ℤ◌, *ℤ_comm}
use Rattle.algebra.specs.Sum.{sum}
use Rattle.algebra.specs.Lists.{at, tabulate}
use Rattle.algebra.proofs.Sum.{sum-cong}
use Rattle.algebra.proofs.Lists.{tab-at, tab-length}
use Rattle.algebra.proofs.Table.{every}
use Rattle.product.specs.Product.{spot, Laid, line_sum, shifted, Line}
use Rattle.product.proofs.Laid.{spot-two, exact}
use Rattle.tables.proofs.Pairs.{by_pair, laid_by}
use Rattle.dct2_line.specs.Lines.{Half, Row}

-- what a tabulated list holds
pub tab-holds : (n : ℕ) (l : List ℤ) (f : ℕ → ℤ) → l ≡ tabulate n f → (j : ℕ) → j < n → at l j ≡ f j
tab-holds n l f e j h = ap (λ (a : List ℤ). at a j) e ∙ tab-at n f j h

pub tab-long : (n : ℕ) (l : List ℤ) (f : ℕ → ℤ) → l ≡ tabulate n f → length l ≡ n
tab-long n l f e = ap length e ∙ tab-length n f

-- ---- a stored half
laid-half : {W : ℕ → ℕ → ℤ} {h : ℕ} {t : List ℤ} (pairs : ℕ) → 2 * pairs ≡ h → h ≤ 16 → ((i j : ℕ) → nat_abs (W i j) ≤ 90) → Laid h pairs 2 (2 * h) W t → Half W h t
laid-half pairs two few light z = record { few = few; light = light; held = λ i j k g. z.held i j (omega arith) g; right = λ i j k g. z.right i j (omega arith) g }

pub half-by : (W : ℕ → ℕ → ℤ) → ((i j : ℕ) → nat_abs (W i j) ≤ 90) → (h pairs : ℕ) (t : List ℤ) → 2 * pairs ≡ h → T (leb h 16) → T (every (by_pair h W) 0 t) → pairs * (2 * h) ≡ length t → Half W h t
half-by W light h pairs t two few p e = laid-half pairs two (leb→le h 16 few) light (laid_by h pairs W t p e)

-- row i of it
pub row_of : {W : ℕ → ℕ → ℤ} {h : ℕ} {t : List ℤ} → Half W h t → (i : ℕ) → i < h → Row h (spot (2 * h) i) t
row_of p i l =
    record { held = λ j k. p.held i j l k; light = λ j k. subst (λ (z : ℤ). nat_abs z ≤ 90) (sym (p.right i j l k)) (p.light i j) }

pub row-sum : {W : ℕ → ℕ → ℤ} {h : ℕ} {t : List ℤ} → Half W h t → (i : ℕ) → i < h → (f : ℕ → ℤ)
    → sum h (λ j. at t (2 * j + spot (2 * h) i) *ℤ f j) ≡ sum h (λ j. W i j *ℤ f j)
row-sum {W} {h} {t} p i l f =
    sum-cong h (λ j. at t (2 * j + spot (2 * h) i) *ℤ f j) (λ j. W i j *ℤ f j) (λ j k. ap (λ (w : ℤ). w *ℤ f j) (p.right i j l k))

-- ---- a product by pairs over h inputs f that were dealt to a
module _ {W : ℕ → ℕ → ℤ} {h : ℕ} {t : List ℤ} (p : Half W h t) (pairs : ℕ) (two : 2 * pairs ≡ h)
    (a : List ℤ) (f : ℕ → ℤ) (dealt : a ≡ tabulate h f) (m : ℕ) (few : m ≤ h) where
  dealt-at : (i : ℕ) → i < h → at a (0 + spot 2 i) ≡ f i
  dealt-at i l = ap (at a) (zero-add (spot 2 i) ∙ spot-two i) ∙ tab-holds h a f dealt i l

  pub pairs-given : Line m pairs a 0 2 t (2 * h)
  pairs-given =
      record {
        few = omega (arith, p.few);
        there = λ i l. omega (arith, spot-two i, tab-long h a f dealt);
        held = λ i j l g. p.held i j (omega arith) (omega arith);
        light = λ i j l g. inl (subst (λ (z : ℤ). nat_abs z ≤ 91) (sym (p.right i j (omega arith) (omega arith))) (omega (arith, p.light i j)));
      }

  pub pairs-hold : (o : List ℤ) → o ≡ tabulate m (λ j. shifted (pos 0) 0 (line_sum a 0 2 t (2 * h) pairs j)) → (j : ℕ) → j < m → at o j ≡ sum h (λ i. W i j *ℤ f i)
  unfolding line_sum
  pairs-hold o e j l =
      tab-holds m o _ e j l ∙ exact (line_sum a 0 2 t (2 * h) pairs j)
      ∙ ap (λ (k : ℕ). sum k (λ i. at a (0 + spot 2 i) *ℤ at t (2 * j + spot (2 * h) i))) two
      ∙ sum-cong h (λ i. at a (0 + spot 2 i) *ℤ at t (2 * j + spot (2 * h) i)) (λ i. W i j *ℤ f i)
      (λ i k. (λ s. dealt-at i k s *ℤ p.right i j k (omega arith) s) ∙ *ℤ_comm (f i) (W i j))
