-- One law over the points n and the live inputs: a line of n = 2h points over 2q inputs is a line of h points over q of them, q odd
-- inputs by pairs, and a butterfly; over one input it is the line of h points, mirrored. Each kernel goes up these levels from 2
-- points. Assumes nothing.
use mathlib.Core.Path.{◌≡◌, refl, sym, ap, ◌∙◌, subst}
use mathlib.Core.Bool.{Bool, true, false}
use mathlib.Core.List.{List, [], ◌∷◌}
use Prim.Native.Nat.{ℕ, ◌+◌, ◌*◌, ◌-◌, ◌≤◌, ◌<◌}
use native.Mathlib.Nat.{zero-add}
use native.Mathlib.Omega.{arith}
use borrow.Author.Tests.{ltb-true, ltb-false}
use lib.Dec.{T, leb, leb→le, ltb}
use lib.ListN.{length, replicate, length-replicate}
use lib.IntN.{ℤ, pos, nat_abs, neg_ℤ, ◌+ℤ◌, ◌-ℤ◌, ◌*ℤ◌, *ℤ-zero, *ℤ_comm}
use Rattle.algebra.specs.Sum.{sum}
use Rattle.algebra.specs.Lists.{at}
use Rattle.algebra.proofs.Order.{abs-add, abs_neg}
use Rattle.algebra.proofs.Normal.{ν, ◌⊕◌, ◌⊖◌, ring! }
use Rattle.algebra.proofs.Sum.{sum-cong, sum-rest}
use Rattle.algebra.proofs.Lists.{zeros-at}
use Rattle.algebra.proofs.Table.{every}
use Rattle.meaning.specs.Weights.{weight}
use Rattle.meaning.specs.Line.{inverse_sum}
use Rattle.meaning.proofs.Sizes.{weight_most}
use Rattle.product.specs.Product.{spot, Laid, line_sum}
use Rattle.product.proofs.Laid.{spot-two}
use Rattle.tables.proofs.Pairs.{by_pair, laid_by}
use Rattle.halves.specs.Halves.{Halves, odd, odd_sum, evens}
use Rattle.halves.proofs.ByHalves.{inverse-low, inverse-high}
use Rattle.kernel_steps.specs.Weighed.{heaviest, sum_size, Weighed, Small}
use Rattle.kernel_steps.specs.Written.{WroteFrom, Ends}

-- ---- inputs
-- q numbers f, then zeros, m in all
pub record Dealt (q m : ℕ) (f : ℕ → ℤ) (z : List ℤ) : Type 0 where
  pub few : q ≤ m
  pub long : length z ≡ m
  pub are : (i : ℕ) → i < q → at z i ≡ f i
  pub rest : (i : ℕ) → q ≤ i → i < m → at z i ≡ pos 0

pub dealt : {q m : ℕ} {f g : ℕ → ℤ} {z : List ℤ} → q ≤ m → WroteFrom 0 q z (replicate m (pos 0)) g → ((i : ℕ) → i < q → g i ≡ f i) → Dealt q m f z
dealt {q} {m} {f} {g} {z} few w e =
    record {
      few = few;
      long = w.long ∙ length-replicate m (pos 0);
      are = λ i l. ap (at z) (sym (zero-add i)) ∙ w.done i l ∙ e i l;
      rest = λ i l g. w.after i (omega arith) ∙ zeros-at m i;
    }

-- the first k of m inputs are taken
pub record Gathered (k m : ℕ) (f : ℕ → ℤ) (z : List ℤ) : Type 0 where
  pub long : length z ≡ m
  pub are : (i : ℕ) → i < k → at z i ≡ f i

pub gather_none : (m : ℕ) (f : ℕ → ℤ) → Gathered 0 m f (replicate m (pos 0))
gather_none m f = record { long = length-replicate m (pos 0); are = λ i l. absurd (omega arith) }

pub gather-next : {k m n : ℕ} {f g : ℕ → ℤ} {z z' : List ℤ} → Gathered k m f z → WroteFrom k n z' z g → ((i : ℕ) → i < n → g i ≡ f (k + i)) → Gathered (k + n) m f z'
gather-next {k} {m} {n} {f} {g} {z} {z'} p w e = record { long = w.long ∙ p.long; are = λ i l. are i l (ltb i k) refl }
  where
    are : (i : ℕ) → i < k + n → (b : Bool) → ltb i k ≡ b → at z' i ≡ f i
    are i l true t = let s : i < k = ltb-true i k t in w.before i s ∙ p.are i s
    are i l false t =
        let s : k ≤ i = ltb-false i k t in
        let back : k + (i - k) ≡ i = omega arith in
        subst (λ (j : ℕ). at z' j ≡ f j) back (w.done (i - k) (omega arith) ∙ e (i - k) (omega arith))

-- ---- a product by pairs
-- t has h outputs of 2 * pairs weights W, and none is too heavy
pub record StoredWeights (h pairs : ℕ) (W : ℕ → ℕ → ℤ) (t : List ℤ) : Type 0 where
  pub few : pairs ≤ 8
  pub light : (i j : ℕ) → nat_abs (W i j) ≤ heaviest
  pub laid : Laid h pairs 2 (2 * h) W t

-- .. by one computed test of its numbers: of 2 points all rows, above that the odd ones
pub stored-first : (pairs : ℕ) (t : List ℤ) → T (leb pairs 8) → T (every (by_pair 2 (weight 0 2)) 0 t) → pairs * 4 ≡ length t → StoredWeights 2 pairs (weight 0 2) t
stored-first pairs t few p e = record { few = leb→le pairs 8 few; light = λ i j. omega (arith, weight_most 0 2 i j); laid = laid_by 2 pairs (weight 0 2) t p e }

pub stored-odd : (n h pairs : ℕ) (t : List ℤ) → T (leb pairs 8) → T (every (by_pair h (odd n)) 0 t) → pairs * (2 * h) ≡ length t → StoredWeights h pairs (odd n) t
stored-odd n h pairs t few p e = record { few = leb→le pairs 8 few; light = λ i j. omega (arith, weight_most 0 n (2 * i + 1) j); laid = laid_by h pairs (odd n) t p e }

module _ {W : ℕ → ℕ → ℤ} {h pairs q : ℕ} {f : ℕ → ℤ} {t z : List ℤ} (stored : StoredWeights h pairs W t) (d : Dealt q (2 * pairs) f z) where
  pub weighed : (n : ℕ) → n ≤ h → Weighed n pairs z t (2 * h)
  weighed n l =
      record {
        few = stored.few;
        there = omega (arith, d.long);
        held = λ i j p g. stored.laid.held i j p (omega arith);
        light = λ i j p g. subst (λ (z : ℤ). nat_abs z ≤ heaviest) (sym (stored.laid.right i j p (omega arith))) (stored.light i j);
      }

  pairs-are : (j : ℕ) → j < h → line_sum z 0 2 t (2 * h) pairs j ≡ sum q (λ i. W i j *ℤ f i)
  unfolding line_sum
  pairs-are j l =
      sum-cong (2 * pairs) (λ i. at z (0 + spot 2 i) *ℤ at t (2 * j + spot (2 * h) i)) (λ i. W i j *ℤ at z i)
      (λ i k. (λ s. at z ((zero-add (spot 2 i) ∙ spot-two i) s) *ℤ stored.laid.right i j k l s) ∙ *ℤ_comm (at z i) (W i j))
      ∙ sum-rest q (2 * pairs) (λ i. W i j *ℤ at z i) d.few (λ i k g. ap (λ (v : ℤ). W i j *ℤ v) (d.rest i k g) ∙ *ℤ-zero (W i j))
      ∙ sum-cong q (λ i. W i j *ℤ at z i) (λ i. W i j *ℤ f i) (λ i k. ap (λ (v : ℤ). W i j *ℤ v) (d.are i k))

-- the first k of h outputs are made
pub record Made (k h : ℕ) (g : ℕ → ℤ) (o : List ℤ) : Type 0 where
  pub long : length o ≡ h
  pub are : (j : ℕ) → j < k → at o j ≡ g j
  pub size : (j : ℕ) → j < k → nat_abs (g j) ≤ sum_size

pub made_none : (h : ℕ) (g : ℕ → ℤ) → Made 0 h g (replicate h (pos 0))
made_none h g = record { long = length-replicate h (pos 0); are = λ j l. absurd (omega arith); size = λ j l. absurd (omega arith) }

pub made-next : {k h : ℕ} {g : ℕ → ℤ} {o o' : List ℤ} (e : ℕ) → k ≤ e → Made k h g o → WroteFrom k (e - k) o' o (λ i. g (k + i)) × ((i : ℕ) → i < e - k → nat_abs (g (k + i)) ≤ sum_size) → Made e h g o'
made-next {k} {h} {g} {o} {o'} e l p w =
    record {
      long = w.0.long ∙ p.long;
      are = λ j q. are j q (ltb j k) refl;
      size = λ j q. size j q (ltb j k) refl;
    }
  where
    are : (j : ℕ) → j < e → (b : Bool) → ltb j k ≡ b → at o' j ≡ g j
    are j q true t = let s : j < k = ltb-true j k t in w.0.before j s ∙ p.are j s
    are j q false t =
        let s : k ≤ j = ltb-false j k t in
        let back : k + (j - k) ≡ j = omega arith in
        subst (λ (i : ℕ). at o' i ≡ g i) back (w.0.done (j - k) (omega arith))

    size : (j : ℕ) → j < e → (b : Bool) → ltb j k ≡ b → nat_abs (g j) ≤ sum_size
    size j q true t = p.size j (ltb-true j k t)
    size j q false t =
        let s : k ≤ j = ltb-false j k t in
        let back : k + (j - k) ≡ j = omega arith in
        subst (λ (i : ℕ). nat_abs (g i) ≤ sum_size) back (w.1 (j - k) (omega arith))

-- all of them may be added
pub made-small : {h : ℕ} {g : ℕ → ℤ} {o : List ℤ} → Made h h g o → Small h o
made-small {h} {g} {o} p =
    record { room = omega (arith, p.long); low = λ j l. subst (λ (z : ℤ). nat_abs z ≤ 1000000000) (sym (p.are j l)) (omega (arith, p.size j l)) }

-- ---- levels
-- the sums of k levels, with what a sum is rounded by
abbrev pub reach : ℕ → ℕ
reach k = k * sum_size + 1000000

-- l has n sums over the first c inputs x, half added, after k levels
pub record Sums (n c : ℕ) (half : ℤ) (x : ℕ → ℤ) (k : ℕ) (l : List ℤ) : Type 0 where
  pub long : length l ≡ n
  pub are : (j : ℕ) → j < n → at l j ≡ inverse_sum 0 n c x j +ℤ half
  pub size : (j : ℕ) → j < n → nat_abs (at l j) ≤ reach k

-- six levels are 64 points
pub sums-small : {n c : ℕ} {half : ℤ} {x : ℕ → ℤ} {k : ℕ} {l : List ℤ} → k ≤ 6 → Sums n c half x k l → Small n l
sums-small b p = record { room = omega (arith, p.long); low = λ j l. omega (arith, p.size j l) }

-- the lowest: n sums by pairs, lifted
pub lowest : {n pairs q : ℕ} {half : ℤ} {x : ℕ → ℤ} {t z e e' : List ℤ} → nat_abs half ≤ 1000000 → StoredWeights n pairs (weight 0 n) t → Dealt q (2 * pairs) x z
    → Made n n (line_sum z 0 2 t (2 * n) pairs) e → WroteFrom 0 n e' e (λ j. at e j +ℤ half) → Sums n q half x 1 e'
unfolding inverse_sum
lowest {n} {pairs} {q} {half} {x} {t} {z} {e} {e'} b stored d p w =
    record {
      long = w.long ∙ p.long;
      are = λ j l. lifted j l ∙ ap (λ (v : ℤ). v +ℤ half) (p.are j l ∙ pairs-are stored d j l);
      size = λ j l. subst (λ (v : ℤ). nat_abs v ≤ reach 1) (sym (lifted j l ∙ ap (λ (v : ℤ). v +ℤ half) (p.are j l)))
          (omega (arith, abs-add (line_sum z 0 2 t (2 * n) pairs j) half, p.size j l));
    }
  where
    lifted : (j : ℕ) → j < n → at e' j ≡ at e j +ℤ half
    lifted j l = ap (at e') (sym (zero-add j)) ∙ w.done j l

-- both ends of 2 * h are all of it
both_ends : (h : ℕ) (P : ℕ → Type 0) → ((j : ℕ) → j < h → P j) → ((j : ℕ) → j < h → P (h + h - 1 - j)) → (k : ℕ) → k < h + h → P k
both_ends h P low high k l = by (ltb k h) refl
  where
    by : (b : Bool) → ltb k h ≡ b → P k
    by true t = low k (ltb-true k h t)
    by false t =
        let m : h ≤ k = ltb-false k h t in
        let s : h + h - 1 - (h + h - 1 - k) ≡ k = omega arith in
        subst P s (high (h + h - 1 - k) (omega arith))

-- one level up: q more inputs, at the odd places
pub up : {h pairs q k : ℕ} {half : ℤ} {x : ℕ → ℤ} {t z e o out : List ℤ} → Halves (h + h) h → q ≤ h → StoredWeights h pairs (odd (h + h)) t → Dealt q (2 * pairs) (λ i. x (2 * i + 1)) z
    → Sums h q half (evens x) k e → Made h h (line_sum z 0 2 t (2 * h) pairs) o
    → Ends 0 h h (λ j. at e j +ℤ at o j) (λ j. at e j -ℤ at o j) out (replicate (h + h) (pos 0)) → Sums (h + h) (q + q) half x (k + 1) out
unfolding odd_sum
up {h} {pairs} {q} {k} {half} {x} {t} {z} {e} {o} {out} halved few stored d p m w =
    record {
      long = w.long ∙ length-replicate (h + h) (pos 0);
      are = both_ends h (λ k. at out k ≡ inverse_sum 0 (h + h) (q + q) x k +ℤ half)
          (λ j l. w.low j (omega arith) l ∙ (λ s. p.are j l s +ℤ odds j l s)
          ∙ ring! (inverse_sum 0 h q (evens x) j ∷ half ∷ odd_sum (h + h) q x j ∷ []) (ν 0 ⊕ ν 1 ⊕ ν 2) (ν 0 ⊕ ν 2 ⊕ ν 1) tt
          ∙ ap (λ (v : ℤ). v +ℤ half) (sym (inverse-low halved x q few j l)))
          (λ j l. w.high j (omega arith) l ∙ (λ s. p.are j l s -ℤ odds j l s)
          ∙ ring! (inverse_sum 0 h q (evens x) j ∷ half ∷ odd_sum (h + h) q x j ∷ []) (ν 0 ⊕ ν 1 ⊖ ν 2) (ν 0 ⊖ ν 2 ⊕ ν 1) tt
          ∙ ap (λ (v : ℤ). v +ℤ half) (sym (inverse-high halved x q few j l)));
      size = both_ends h (λ i. nat_abs (at out i) ≤ reach (k + 1))
          (λ j l. subst (λ (v : ℤ). nat_abs v ≤ reach (k + 1)) (sym (w.low j (omega arith) l)) (omega (arith, abs-add (at e j) (at o j), p.size j l, odd_low j l)))
          (λ j l. subst (λ (v : ℤ). nat_abs v ≤ reach (k + 1)) (sym (w.high j (omega arith) l)) (omega (arith, abs-add (at e j) (neg_ℤ (at o j)), abs_neg (at o j), p.size j l, odd_low j l)));
    }
  where
    odds : (j : ℕ) → j < h → at o j ≡ sum q (λ i. odd (h + h) i j *ℤ x (2 * i + 1))
    odds j l = m.are j l ∙ pairs-are stored d j l

    odd_low : (j : ℕ) → j < h → nat_abs (at o j) ≤ sum_size
    odd_low j l = subst (λ (v : ℤ). nat_abs v ≤ sum_size) (sym (m.are j l)) (m.size j l)

-- one level up over one input: both halves are the line below
pub mirrored : {h k : ℕ} {half : ℤ} {x : ℕ → ℤ} {e out : List ℤ} → Halves (h + h) h → 1 ≤ h → Sums h 1 half (evens x) k e
    → Ends 0 h h (at e) (at e) out (replicate (h + h) (pos 0)) → Sums (h + h) 1 half x k out
unfolding inverse_sum sum
mirrored {h} {k} {half} {x} {e} {out} halved some p w =
    record {
      long = w.long ∙ length-replicate (h + h) (pos 0);
      are = both_ends h (λ i. at out i ≡ inverse_sum 0 (h + h) 1 x i +ℤ half)
          (λ j l. w.low j (omega arith) l ∙ p.are j l ∙ ap (λ (v : ℤ). pos 0 +ℤ v *ℤ x 0 +ℤ half) (sym (halved.even 0 j some l)))
          (λ j l. w.high j (omega arith) l ∙ p.are j l ∙ ap (λ (v : ℤ). pos 0 +ℤ v *ℤ x 0 +ℤ half) (sym (halved.even 0 j some l) ∙ sym (halved.mirrored 0 j some l)));
      size = both_ends h (λ i. nat_abs (at out i) ≤ reach k)
          (λ j l. subst (λ (v : ℤ). nat_abs v ≤ reach k) (sym (w.low j (omega arith) l)) (p.size j l))
          (λ j l. subst (λ (v : ℤ). nat_abs v ≤ reach k) (sym (w.high j (omega arith) l)) (p.size j l));
    }
