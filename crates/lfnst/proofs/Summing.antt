-- The sums of the stage in 64 bits, and how large they are. Assumes nothing.
use mathlib.Core.Path.{◌≡◌, refl, sym, ap, ◌∙◌, subst}
use mathlib.Core.Logic.{◌⊎◌, inl, inr, ⊎_elim}
use mathlib.Core.Bool.{Bool, true, false}
use mathlib.Core.List.{List}
use Prim.Native.Nat.{ℕ, ◌+◌, ◌*◌, ◌^◌, ◌≤◌, ◌<◌}
use native.Mathlib.Nat.{zero-add, mul-le-mul}
use native.Mathlib.Omega.{arith}
use lib.ListN.{length}
use lib.IntN.{ℤ, nat_abs, ◌*ℤ◌, *ℤ_comm}
use lib.Pow.{pow_mono, pow_pos}
use mir.Syntax.{w16, w32}
use mir.Val.{SFits}
use Rattle.algebra.specs.Sum.{sum}
use Rattle.algebra.specs.Lists.{at, tabulate}
use Rattle.algebra.proofs.Order.{le_parts, parts-fit, parts-abs}
use Rattle.algebra.proofs.Sum.{sum-cong}
use Rattle.algebra.proofs.Lists.{tab-at, tab-length}
use Rattle.algebra.proofs.Word.{small}
use Rattle.meaning.specs.Plan.{range_of}
use Rattle.meaning.specs.Inverse.{middle}
use Rattle.product.specs.Product.{spot, Laid, line_sum}
use Rattle.product.proofs.Summing.{odd_place}
use Rattle.product.proofs.Laid.{spot-two}
use Rattle.kernel_steps.specs.Weighed.{Small}
use Rattle.kernel_steps.specs.Written.{WroteFrom}
use Rattle.long_stages.specs.Sums.{dotted, Dot}
use Rattle.lfnst_tables.specs.Lfnst.{entry, outputs_of}
use Rattle.lfnst_tables.specs.Line.{GivenInputs}
use Rattle.lfnst_tables.proofs.Sizes.{largest, entry-size, column-part}
use Rattle.lfnst.specs.LowFrequency.{input}
use Rattle.lfnst.specs.Work.{Ranged, GivenSums}

pub few-pairs : {pairs : ℕ} → (pairs ≡ 4) ⊎ (pairs ≡ 8) → pairs ≤ 8
few-pairs = ⊎_elim (λ e. omega arith) (λ e. omega arith)

pub few-outputs : {n : ℕ} → (n ≡ 16) ⊎ (n ≡ 48) → n ≤ 48
few-outputs = ⊎_elim (λ e. omega arith) (λ e. omega arith)

-- ---- what they are given
module _ {n pairs : ℕ} {t u v : List ℤ} (g : GivenSums n pairs t u v) where
  -- in 64 bits
  pub by-dots : (j : ℕ) → j < n → Dot t (2 * j) (2 * n) u 0 1 pairs
  by-dots j h =
      let q : pairs ≤ 8 = few-pairs g.half in
      record {
        few = omega arith;
        held = λ k l. subst (λ (m : ℕ). m < length t) (odd_place (2 * n) k (2 * j)) (g.weighed.held (2 * k + 1) j (omega arith) h);
        there = λ k l. omega (arith, g.inputs);
      }

  pub dot-line : (j : ℕ) → dotted t (2 * j) (2 * n) u 0 1 pairs ≡ line_sum u 0 2 t (2 * n) pairs j
  unfolding dotted line_sum
  dot-line j = sum-cong (2 * pairs) _ _ (λ i h. *ℤ_comm (at t (2 * j + spot (2 * n) i)) (at u (0 + i * 1)) ∙ ap (λ (k : ℕ). at u k *ℤ at t (2 * j + spot (2 * n) i)) (place i))
    where
      place : (i : ℕ) → 0 + i * 1 ≡ 0 + spot 2 i
      place i = omega (arith, spot-two i)

  pub sum_fits : (j : ℕ) → j < n → SFits w32 (line_sum u 0 2 t (2 * n) pairs j)
  sum_fits j h = small {w = w32} {B = 1000000000} (omega arith) (g.low j h)

  -- sums that were written may be rounded
  pub small-sums : {v' : List ℤ} → WroteFrom 0 n v' v (line_sum u 0 2 t (2 * n) pairs) → Small n v'
  small-sums {v'} w =
      record {
        room = omega (arith, w.long, g.room);
        low = λ j h. subst (λ (z : ℤ). nat_abs z ≤ 1000000000) (sym (ap (at v') (sym (zero-add j)) ∙ w.done j h)) (g.low j h);
      }

-- ---- numbers of a range
module _ {reach : ℕ} {u : List ℤ} (r : Ranged reach u) (k : ℕ) (h : k < 16) where
  -- at most 2^R in size
  pub ranged-size : nat_abs (at u k) ≤ 2 ^ reach
  ranged-size =
      let p : 0 < 2 ^ reach = pow_pos reach in
      parts-abs (at u k) (2 ^ reach) (omega (arith, le_parts (r.inside k h).1)) (omega (arith, le_parts (r.inside k h).0))

  -- 16 bits where R is 15 or less
  pub ranged-short : reach ≤ 15 → SFits w16 (at u k)
  ranged-short l =
      let p : 0 < 2 ^ reach = pow_pos reach in
      let q : 2 ^ reach ≤ 32768 = pow_mono {j = 15} l in
      parts-fit w16 (at u k) (omega (arith, le_parts (r.inside k h).1)) (omega (arith, le_parts (r.inside k h).0))

-- ---- the sums by a matrix of the tables
pub most : (wide : Bool) → largest wide ≤ 470
most true = omega arith
most false = omega arith

module _ (wide : Bool) {matrix pairs reach : ℕ} {t u : List ℤ} (m : matrix < 8) (half : (pairs ≡ 4) ⊎ (pairs ≡ 8)) (short : reach ≤ 20) (r : Ranged reach u)
    (w : Laid (outputs_of wide) 8 2 (2 * outputs_of wide) (entry (outputs_of wide) matrix) t) where
  -- as the definition has them
  pub line-entries : (j : ℕ) → j < outputs_of wide → line_sum u 0 2 t (2 * outputs_of wide) pairs j ≡ sum (2 * pairs) (λ i. at u i *ℤ entry (outputs_of wide) matrix i j)
  unfolding line_sum
  line-entries j h = sum-cong (2 * pairs) _ _ (λ i l s. at u (place i s) *ℤ w.right i j (below i l) h s)
    where
      place : (i : ℕ) → 0 + spot 2 i ≡ i
      place i = omega (arith, spot-two i)

      below : (i : ℕ) → i < 2 * pairs → i < 2 * 8
      below i l = omega (arith, few-pairs half)

  -- 470 * 2^20 is far from 32 bits
  low : (j : ℕ) → j < outputs_of wide → nat_abs (line_sum u 0 2 t (2 * outputs_of wide) pairs j) ≤ 1000000000
  low j h =
      let q : nat_abs (sum (2 * pairs) (λ i. entry (outputs_of wide) matrix i j *ℤ at u i)) ≤ largest wide * 2 ^ reach =
      column-part wide m h (at u) (2 ^ reach) (λ i l. ranged-size r i l) (2 * pairs) (omega (arith, few-pairs half)) in
      let e : largest wide * 2 ^ reach ≤ 470 * 1048576 = mul-le-mul (most wide) (pow_mono {j = 20} short) in
      subst (λ (z : ℤ). nat_abs z ≤ 1000000000) (sym (line-entries j h ∙ sum-cong (2 * pairs) _ _ (λ i l. *ℤ_comm (at u i) (entry (outputs_of wide) matrix i j)))) (omega arith)

  pub given-sums : {v : List ℤ} → outputs_of wide ≤ length v → GivenSums (outputs_of wide) pairs t u v
  given-sums room =
      record {
        half = half;
        sizes = sizes wide;
        room = room;
        inputs = r.long;
        weighed = record {
          few = omega arith;
          there = omega (arith, r.long);
          held = λ i j l h. w.held i j l h;
          light = λ i j l h. subst (λ (z : ℤ). nat_abs z ≤ 121) (sym (w.right i j l h)) (entry-size wide m h i (omega arith));
        };
        low = low;
      }
    where
      sizes : (wide : Bool) → (outputs_of wide ≡ 16) ⊎ (outputs_of wide ≡ 48)
      sizes true = inr refl
      sizes false = inl refl

-- ---- the inputs, put in order, are those of the corner
pub by-inputs : (n matrix pairs reach : ℕ) (corner a : List ℤ) {v v₁ : List ℤ} → (pairs ≡ 4) ⊎ (pairs ≡ 8) → a ≡ tabulate 16 (input (λ x y. at corner (x + 4 * y)))
    → WroteFrom 0 n v₁ v (λ j. middle (range_of reach) (sum (2 * pairs) (λ i. at a i *ℤ entry n matrix i j)))
    → WroteFrom 0 n v₁ v (λ j. middle (range_of reach) (sum (2 * pairs) (λ i. input (λ x y. at corner (x + 4 * y)) i *ℤ entry n matrix i j)))
by-inputs n matrix pairs reach corner a half r w =
    record {
      long = w.long;
      done = λ j h. w.done j h ∙ ap (middle (range_of reach)) (sum-cong (2 * pairs) _ _ (λ i l s. read i l s *ℤ entry n matrix i j));
      before = w.before;
      after = w.after;
    }
  where
    read : (i : ℕ) → i < 2 * pairs → at a i ≡ input (λ x y. at corner (x + 4 * y)) i
    read i l = ap (λ (a : List ℤ). at a i) r ∙ tab-at 16 (input (λ x y. at corner (x + 4 * y))) i (omega (arith, few-pairs half))

pub inputs-given : (n pairs : ℕ) (f : ℕ → ℤ) (a v : List ℤ) → (pairs ≡ 4) ⊎ (pairs ≡ 8) → a ≡ tabulate 16 f → n ≤ length v → GivenInputs n pairs a v
inputs-given n pairs f a v half r room = record { half = half; long = ap (λ (a : List ℤ). length a) r ∙ tab-length 16 f; room = room }
