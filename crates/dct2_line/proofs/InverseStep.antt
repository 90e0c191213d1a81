-- One step of the inverse line, once over the size: what the deal and the butterfly are given, and the line that they leave.
-- Assumes nothing.
use mathlib.Core.Path.{◌≡◌, sym, ap, ◌∙◌, subst}
use mathlib.Core.List.{List}
use Prim.Native.Nat.{ℕ, ◌+◌, ◌*◌, ◌≤◌, ◌<◌}
use native.Mathlib.Nat.{one-mul, mul-le-mul, mul-add, mul_assoc, mul_comm}
use native.Mathlib.Omega.{arith}
use lib.ListN.{length}
use lib.IntN.{ℤ, pos, nat_abs, ◌*ℤ◌}
use Rattle.algebra.specs.Sum.{sum}
use Rattle.algebra.specs.Lists.{at, tabulate}
use Rattle.algebra.proofs.Order.{abs-mul}
use Rattle.algebra.proofs.Sum.{sum-cong, sum-in}
use Rattle.algebra.proofs.Lists.{tab-cong}
use Rattle.meaning.specs.Weights.{weight}
use Rattle.meaning.specs.Line.{inverse_sum, inverse_line}
use Rattle.meaning.specs.Taken.{TakenLine, NoneAbove}
use Rattle.meaning.proofs.Sizes.{weight_most}
use Rattle.product.specs.Product.{line_sum, shifted}
use Rattle.halves.specs.Halves.{Halves, odd, odd_sum, evens}
use Rattle.dct2_line.specs.Lines.{Half, strided, Inputs, HalfSums, Joined}
use Rattle.dct2_line.proofs.HalfRows.{tab-holds, tab-long, pairs-hold}
use Rattle.dct2_line.proofs.Joining.{joined}

-- ---- sizes: no sum of 16 products is near the end of 32 bits
small-sum : (h : ℕ) (w f : ℕ → ℤ) → h ≤ 16 → ((i : ℕ) → nat_abs (w i) ≤ 91) → ((i : ℕ) → nat_abs (f i) ≤ 32768) → nat_abs (sum h (λ i. w i *ℤ f i)) ≤ 1000000000
small-sum h w f few light low =
    let each : (i : ℕ) → i < h → nat_abs (w i *ℤ f i) ≤ 2981888 = λ i l. product i in
    omega (arith, sum-in h (λ i. w i *ℤ f i) 2981888 each)
  where
    product : (i : ℕ) → nat_abs (w i *ℤ f i) ≤ 2981888
    product i =
        let q : nat_abs (w i) * nat_abs (f i) ≤ 91 * 32768 = mul-le-mul (light i) (low i) in
        omega (arith, abs-mul (w i) (f i))

-- ---- places: the even inputs stand twice as far apart, the odd ones between them
twice : (apart i : ℕ) → 2 * apart * i ≡ apart * (2 * i)
twice apart i = ap (λ (m : ℕ). m * i) (mul_comm 2 apart) ∙ mul_assoc apart 2 i

between : (apart i : ℕ) → apart + i * (2 * apart) ≡ apart * (2 * i + 1)
between apart i = omega (arith, mul_comm i (2 * apart), twice apart i, mul-add apart (2 * i) 1)

module _ {h apart : ℕ} {x : List ℤ} (inputs : Inputs (h + h) apart x) where
  pub evens-in : Inputs h (2 * apart) x
  evens-in = record { there = λ i l. subst (λ (m : ℕ). m < length x) (sym (twice apart i)) (inputs.there (2 * i) (omega arith)); low = inputs.low }

  pub odds-there : (i : ℕ) → i < h → apart + i * (2 * apart) < length x
  odds-there i l = subst (λ (m : ℕ). m < length x) (sym (between apart i)) (inputs.there (2 * i + 1) (omega arith))

  -- ---- in e what the even inputs give, in o what the odd ones do
  module _ {e o : List ℤ} (few : h ≤ 16) (long : length e ≡ h) (room : h ≤ length o) (evened : (j : ℕ) → j < h → at e j ≡ inverse_sum 0 h h (evens (strided x apart)) j)
      (odded : (j : ℕ) → j < h → at o j ≡ odd_sum (h + h) h (strided x apart) j) where
    pub sums-given : HalfSums h e o
    unfolding inverse_sum odd_sum
    sums-given =
        record {
          few = few;
          evens = long;
          odds = room;
          even = λ j l. subst (λ (z : ℤ). nat_abs z ≤ 1000000000) (sym (evened j l))
              (small-sum h (λ i. weight 0 h i j) (evens (strided x apart)) few (λ i. weight_most 0 h i j) (λ i. inputs.low (apart * (2 * i))));
          odd = λ j l. subst (λ (z : ℤ). nat_abs z ≤ 1000000000) (sym (odded j l))
              (small-sum h (λ i. odd (h + h) i j) (λ i. strided x apart (2 * i + 1)) few (λ i. weight_most 0 (h + h) (2 * i + 1) j) (λ i. inputs.low (apart * (2 * i + 1))));
        }

    pub line_made : Halves (h + h) h → {out : List ℤ} → Joined h h e o out → out ≡ tabulate (h + h) (inverse_sum 0 (h + h) (h + h) (strided x apart))
    line_made p {out} q = joined p (strided x apart) e o out evened odded q

  -- ---- the line over the even inputs in e; the odd ones in a, by weights t in o
  module _ {e a t o : List ℤ} {m : ℕ} (pairs : ℕ) (two : 2 * pairs ≡ h) (full : m ≡ h) (lined : e ≡ tabulate h (inverse_sum 0 h h (strided x (2 * apart)))) (stored : Half (odd (h + h)) h t)
      (dealt : a ≡ tabulate h (λ i. at x (apart + i * (2 * apart)))) (summed : o ≡ tabulate m (λ j. shifted (pos 0) 0 (line_sum a 0 2 t (2 * h) pairs j))) where
    evened : (j : ℕ) → j < h → at e j ≡ inverse_sum 0 h h (evens (strided x apart)) j
    unfolding inverse_sum
    evened j l =
        tab-holds h e _ lined j l
        ∙ sum-cong h (λ i. weight 0 h i j *ℤ at x (2 * apart * i)) (λ i. weight 0 h i j *ℤ at x (apart * (2 * i))) (λ i k. ap (λ (m : ℕ). weight 0 h i j *ℤ at x m) (twice apart i))

    odded : (j : ℕ) → j < h → at o j ≡ odd_sum (h + h) h (strided x apart) j
    unfolding odd_sum
    odded j l =
        pairs-hold stored pairs two a _ dealt m (omega arith) o summed j (omega arith)
        ∙ sum-cong h (λ i. odd (h + h) i j *ℤ at x (apart + i * (2 * apart))) (λ i. odd (h + h) i j *ℤ at x (apart * (2 * i + 1))) (λ i k. ap (λ (m : ℕ). odd (h + h) i j *ℤ at x m) (between apart i))

    pub step_given : HalfSums h e o
    step_given = sums-given stored.few (tab-long h e _ lined) (omega (arith, tab-long m o _ summed)) evened odded

    pub step : Halves (h + h) h → {out : List ℤ} → Joined h h e o out → out ≡ tabulate (h + h) (inverse_sum 0 (h + h) (h + h) (strided x apart))
    step = line_made stored.few (tab-long h e _ lined) (omega (arith, tab-long m o _ summed)) evened odded

-- ---- a whole line: its inputs stand side by side
pub whole-inputs : {n : ℕ} (x y : List ℤ) (m : ℕ) → n ≡ m → TakenLine n 0 (length x) (length y) → NoneAbove 32768 x → Inputs m 1 x × (length y ≡ m)
whole-inputs x y m e w low = (record { there = λ i l. omega (arith, w.long); low = low }, w.room ∙ e)

pub whole-line : {n : ℕ} (m : ℕ) → n ≡ m → (x : List ℤ) → tabulate m (inverse_sum 0 m m (strided x 1)) ≡ inverse_line 0 n n (at x)
unfolding inverse_line inverse_sum
whole-line m e x =
    tab-cong m _ _ (λ j l. sum-cong m (λ i. weight 0 m i j *ℤ at x (1 * i)) (λ i. weight 0 m i j *ℤ at x i) (λ i k. ap (λ (p : ℕ). weight 0 m i j *ℤ at x p) (one-mul i)))
    ∙ ap (λ (m : ℕ). inverse_line 0 m m (at x)) (sym e)
