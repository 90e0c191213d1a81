-- What clipping added, the other way: how far "it added 0" says that no clip altered anything that the residual uses. Over any plan.
-- That no altered clip gives 0 is `clippings-none` of Parts. Assumes nothing.
--   one-altered:    where at most one column that the residual uses was altered, what clipping added is its weight times 128 times what
--                   the clip changed there
--   none-altered:   so where that is 0, the clip altered nothing there either
-- It is not so of more than one:
--   cancelled:      two clips altered a middle value each by the same, the residual weighs them by 74 and -74, and clipping added 0
-- and not of a column that the residual does not use:
--   not-used:       a clip altered a middle value, the residual weighs it by 0, and clipping added 0
use mathlib.Core.Path.{◌≡◌, refl, sym, ap, ◌∙◌}
use mathlib.Core.List.{List, [], ◌∷◌, ◌++◌}
use Prim.Native.Nat.{ℕ, zero, suc, ◌*◌, ◌<◌}
use native.Mathlib.Nat.{not-suc-le-zero, mul-pos}
use native.Mathlib.Decide.{ℕ_discrete}
use native.Mathlib.Omega.{arith}
use lib.IntN.{ℤ, pos, negsuc, nat_abs, ◌+ℤ◌, ◌-ℤ◌, ◌*ℤ◌, +ℤ_idl, +ℤ_idr}
use Rattle.algebra.specs.Sum.{sum}
use Rattle.algebra.proofs.Normal.{ν, ◌⊕◌, ◌⊖◌, ring! }
use Rattle.algebra.proofs.Order.{abs-mul, abs-zero}
use Rattle.algebra.proofs.Sum.{sum-cong, sum-none}
use Rattle.meaning.specs.Weights.{first, fold, S, weight}
use Rattle.meaning.specs.Line.{inverse_sum}
use Rattle.meaning.specs.Shape.{most_kept, shape_of}
use Rattle.meaning.specs.Plan.{Plan, short_range, plan_of}
use Rattle.meaning.specs.Inverse.{column_sum, rounded, middle_at}
use Rattle.meaning.specs.Exact.{carried, clippings}
use Rattle.meaning.proofs.Parts.{no-share, Uses}

-- a sum of which one number alone is not 0
sum-alone : (n : ℕ) (f : ℕ → ℤ) (k : ℕ) → k < n → ((i : ℕ) → i < n → (i ≡ k → ⊥) → f i ≡ pos 0) → sum n f ≡ f k
unfolding sum
sum-alone zero f k h none = absurd (not-suc-le-zero h)
sum-alone (suc n) f k h none = pick (ℕ_discrete n k) (λ l. sum-alone n f k l (λ i m. none i (omega arith)))
  where
    pick : Dec (n ≡ k) → (k < n → sum n f ≡ f k) → sum n f +ℤ f n ≡ f k
    pick (yes e) before =
        ap (λ (z : ℤ). z +ℤ f n) (sum-cong n f (λ i. pos 0) (λ i l. none i (omega arith) (λ q. omega arith)) ∙ sum-none n) ∙ +ℤ_idl (f n) ∙ ap f e
    pick (no d) before = ap (λ (z : ℤ). sum n f +ℤ z) (none n (omega arith) d) ∙ +ℤ_idr (sum n f) ∙ before (omega arith)

other : (a b : ℕ) → (a ≡ 0 → ⊥) → a * (128 * b) ≡ 0 → b ≡ 0
other zero b some e = absurd (some refl)
other (suc a) zero some e = refl
other (suc a) (suc b) some e =
    let l : 0 < suc a * (128 * suc b) = mul-pos (omega arith) (omega arith) in
    absurd (omega arith)

-- a product that is 0, by a weight that is not
by-weight : (w m r : ℤ) → (w ≡ pos 0 → ⊥) → w *ℤ (pos 128 *ℤ (m -ℤ r)) ≡ pos 0 → m ≡ r
by-weight w m r used e = ring! (m ∷ r ∷ []) (ν 0) (ν 0 ⊖ ν 1 ⊕ ν 1) tt ∙ ap (λ (z : ℤ). z +ℤ r) (abs-zero (m -ℤ r) size) ∙ +ℤ_idl r
  where
    size : nat_abs (m -ℤ r) ≡ 0
    size =
        let a : nat_abs w * (128 * nat_abs (m -ℤ r)) ≡ 0 = sym (abs-mul w (pos 128 *ℤ (m -ℤ r)) ∙ ap (λ (k : ℕ). nat_abs w * k) (abs-mul (pos 128) (m -ℤ r))) ∙ ap nat_abs e in
        other (nat_abs w) (nat_abs (m -ℤ r)) (λ q. used (abs-zero w q)) a

module _ (p : Plan) (c : List ℤ) (x y k : ℕ) (kept : k < p.columns)
    (others : (i : ℕ) → i < p.columns → (i ≡ k → ⊥) → Uses p x i → middle_at p c i y ≡ rounded (column_sum p c i y)) where
  pub one-altered : clippings p c x y ≡ weight p.horizontal p.width k x *ℤ (pos 128 *ℤ (middle_at p c k y -ℤ rounded (column_sum p c k y)))
  unfolding clippings carried
  one-altered =
      let w : ℕ → ℤ = λ i. weight p.horizontal p.width i x in
      let m : ℕ → ℤ = λ i. middle_at p c i y in
      let r : ℕ → ℤ = λ i. rounded (column_sum p c i y) in
      sum-alone p.columns (λ i. w i *ℤ (pos 128 *ℤ (m i -ℤ r i))) k kept (λ i h other. no-share (w i) (m i) (r i) (others i h other))

  pub none-altered : clippings p c x y ≡ pos 0 → Uses p x k → middle_at p c k y ≡ rounded (column_sum p c k y)
  none-altered e used =
      by-weight (weight p.horizontal p.width k x) (middle_at p c k y) (rounded (column_sum p c k y)) used (sym one-altered ∙ e)

-- ---- where it is not so: 4 by 4, DST-VII in both directions, depth 10. Four coefficients of 32767 in a column give it a middle value
-- of 61950 in row 0, which is clipped to 32767
abbrev plan : Plan
plan = plan_of (shape_of 4 4 1 1 10)

abbrev rows_of : List ℤ → List ℤ
rows_of row = row ++ (row ++ (row ++ row))

abbrev Altered : List ℤ → ℕ → Type 0
Altered c i = (rounded (column_sum plan c i 0) ≡ pos 61950) × (middle_at plan c i 0 ≡ pos 32767)

-- columns 0 and 2
abbrev two : List ℤ
two = rows_of (pos 32767 ∷ pos 0 ∷ pos 32767 ∷ pos 0 ∷ [])

pub cancelled : (Altered two 0 × Altered two 2) × (((weight 1 4 0 2 ≡ pos 74) × (weight 1 4 2 2 ≡ negsuc 73)) × (clippings plan two 2 0 ≡ pos 0))
unfolding sum first fold S weight inverse_sum most_kept short_range column_sum middle_at carried clippings
cancelled = (((refl, refl), (refl, refl)), ((refl, refl), refl))

-- column 1
abbrev single : List ℤ
single = rows_of (pos 0 ∷ pos 32767 ∷ pos 0 ∷ pos 0 ∷ [])

pub not-used : Altered single 1 × ((weight 1 4 1 2 ≡ pos 0) × (clippings plan single 2 0 ≡ pos 0))
unfolding sum first fold S weight inverse_sum most_kept short_range column_sum middle_at carried clippings
not-used = ((refl, refl), (refl, refl))
