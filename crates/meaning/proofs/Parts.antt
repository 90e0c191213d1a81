-- The four parts of a residual, over any plan: any range between the stages, any last shift s. Each is what it is called, and
-- nothing is left between them. Assumes nothing.
--   double-sum:     exact is the sum over the kept columns and rows of horizontal weight · vertical weight · coefficient
--   three-parts:    128 · row sum = exact + middle roundings + clippings, so the two middle ones are all that lies between the exact
--                   double sum and the sum that the last rounding meets
--   four-parts:     2^(7+s) · residual = exact + middle roundings + clippings + last rounding
--   middles-near:   |middle roundings| ≤ 64 · A: each is at most half a unit, carried by its weight
--   last-near:      |last rounding| ≤ 64 · 2^s, where 1 ≤ s: at most half a level
--   clippings-none: clippings = 0 where the clip altered no middle value that the residual uses: of the row's kept columns those
--                   whose weight is not 0 (the other way: Clipped)
--   two-parts:      2^(7+s) · residual − exact = middle roundings + last rounding, where the clip altered none of the row's kept
--                   columns
use mathlib.Core.Path.{◌≡◌, refl, sym, ap, ◌∙◌}
use mathlib.Core.List.{List, [], ◌∷◌}
use Prim.Native.Nat.{ℕ, zero, suc, ◌+◌, ◌*◌, ◌-◌, ◌^◌, ◌≤◌, ◌<◌}
use native.Mathlib.Omega.{arith}
use native.Mathlib.Nat.{mul_comm, pow-succ'}
use lib.Pow.{pow-add}
use lib.IntN.{ℤ, pos, nat_abs, ◌+ℤ◌, ◌-ℤ◌, ◌*ℤ◌, zero-*ℤ, ℤ_discrete}
use Rattle.algebra.specs.Sum.{sum, sumℕ}
use Rattle.algebra.specs.Shift.{nearest}
use Rattle.algebra.specs.Lists.{at}
use Rattle.algebra.proofs.Normal.{ν, κ, ◌⊕◌, ◌⊖◌, ◌⊗◌, ring! }
use Rattle.algebra.proofs.Order.{abs-mul}
use Rattle.algebra.proofs.Sum.{sum-cong, sum-add, sum-scale, sum-none, abs-dot}
use Rattle.algebra.proofs.Shift.{shift-near}
use Rattle.meaning.specs.Weights.{weight}
use Rattle.meaning.specs.Line.{inverse_sum}
use Rattle.meaning.specs.Plan.{Plan}
use Rattle.meaning.specs.Inverse.{column_sum, rounded, middle_at, row_sum, residual}
use Rattle.meaning.specs.Exact.{carried, exact, weight_sizes, middle_roundings, clippings, last_rounding}

-- ---- what is carried through the weights
module _ (p : Plan) (x : ℕ) where
  carried-cong : (f g : ℕ → ℤ) → ((i : ℕ) → i < p.columns → f i ≡ g i) → carried p x f ≡ carried p x g
  unfolding carried
  carried-cong f g e =
      let w : ℕ → ℤ = λ i. weight p.horizontal p.width i x in
      sum-cong p.columns (λ i. w i *ℤ f i) (λ i. w i *ℤ g i) (λ i h. ap (λ (z : ℤ). w i *ℤ z) (e i h))

  carried-add : (f g : ℕ → ℤ) → carried p x (λ i. f i +ℤ g i) ≡ carried p x f +ℤ carried p x g
  unfolding carried
  carried-add f g =
      let w : ℕ → ℤ = λ i. weight p.horizontal p.width i x in
      sum-cong p.columns (λ i. w i *ℤ (f i +ℤ g i)) (λ i. w i *ℤ f i +ℤ w i *ℤ g i)
      (λ i h. ring! (w i ∷ f i ∷ g i ∷ []) (ν 0 ⊗ (ν 1 ⊕ ν 2)) (ν 0 ⊗ ν 1 ⊕ ν 0 ⊗ ν 2) tt)
      ∙ sum-add p.columns (λ i. w i *ℤ f i) (λ i. w i *ℤ g i)

  carried-scale : (k : ℤ) (f : ℕ → ℤ) → carried p x (λ i. k *ℤ f i) ≡ k *ℤ carried p x f
  unfolding carried
  carried-scale k f =
      let w : ℕ → ℤ = λ i. weight p.horizontal p.width i x in
      sum-cong p.columns (λ i. w i *ℤ (k *ℤ f i)) (λ i. k *ℤ (w i *ℤ f i))
      (λ i h. ring! (w i ∷ f i ∷ k ∷ []) (ν 0 ⊗ (ν 2 ⊗ ν 1)) (ν 2 ⊗ (ν 0 ⊗ ν 1)) tt)
      ∙ sum-scale p.columns k (λ i. w i *ℤ f i)

  -- of numbers of size at most M
  carried-in : (f : ℕ → ℤ) (M : ℕ) → ((i : ℕ) → i < p.columns → nat_abs (f i) ≤ M) → nat_abs (carried p x f) ≤ M * weight_sizes p x
  unfolding carried weight_sizes
  carried-in f M h =
      let w : ℕ → ℤ = λ i. weight p.horizontal p.width i x in
      rw (mul_comm M (sumℕ p.columns (λ i. nat_abs (w i)))) (abs-dot p.columns w f M h)

-- what a clip changed has no share in a residual where the weight is 0, or where nothing was changed
pub no-share : (w m r : ℤ) → ((w ≡ pos 0 → ⊥) → m ≡ r) → w *ℤ (pos 128 *ℤ (m -ℤ r)) ≡ pos 0
no-share w m r same = pick (ℤ_discrete w (pos 0))
  where
    pick : Dec (w ≡ pos 0) → w *ℤ (pos 128 *ℤ (m -ℤ r)) ≡ pos 0
    pick (yes e) = ap (λ (v : ℤ). v *ℤ (pos 128 *ℤ (m -ℤ r))) e ∙ zero-*ℤ (pos 128 *ℤ (m -ℤ r))
    pick (no used) =
        ap (λ (z : ℤ). w *ℤ (pos 128 *ℤ (z -ℤ r))) (same used) ∙ ring! (w ∷ r ∷ []) (ν 0 ⊗ (κ (pos 128) ⊗ (ν 1 ⊖ ν 1))) (κ (pos 0)) tt

-- a residual in column x uses column i: its weight there is not 0
abbrev pub Uses : Plan → ℕ → ℕ → Type 0
Uses p x i = weight p.horizontal p.width i x ≡ pos 0 → ⊥

module _ (p : Plan) (c : List ℤ) (x y : ℕ) where
  pub double-sum : exact p c x y
      ≡ sum p.columns (λ i. weight p.horizontal p.width i x *ℤ sum p.rows (λ k. weight p.vertical p.height k y *ℤ at c (i + k * p.width)))
  unfolding exact carried column_sum inverse_sum
  double-sum = refl

  row_carried : row_sum p c x y ≡ carried p x (λ i. middle_at p c i y)
  unfolding row_sum inverse_sum carried
  row_carried = refl

  pub three-parts : pos 128 *ℤ row_sum p c x y ≡ exact p c x y +ℤ middle_roundings p c x y +ℤ clippings p c x y
  unfolding exact middle_roundings clippings
  three-parts =
      let e : ℕ → ℤ = λ i. column_sum p c i y in
      let r : ℕ → ℤ = λ i. rounded (column_sum p c i y) in
      let m : ℕ → ℤ = λ i. middle_at p c i y in
      let a : ℕ → ℤ = λ i. pos 128 *ℤ r i -ℤ e i in
      let b : ℕ → ℤ = λ i. pos 128 *ℤ (m i -ℤ r i) in
      ap (λ (z : ℤ). pos 128 *ℤ z) row_carried ∙ sym (carried-scale p x (pos 128) m)
      ∙ carried-cong p x (λ i. pos 128 *ℤ m i) (λ i. e i +ℤ a i +ℤ b i)
      (λ i h. ring! (e i ∷ r i ∷ m i ∷ []) (κ (pos 128) ⊗ ν 2) (ν 0 ⊕ (κ (pos 128) ⊗ ν 1 ⊖ ν 0) ⊕ κ (pos 128) ⊗ (ν 2 ⊖ ν 1)) tt)
      ∙ carried-add p x (λ i. e i +ℤ a i) b ∙ ap (λ (z : ℤ). z +ℤ carried p x b) (carried-add p x e a)

  pub four-parts : pos (2 ^ (7 + p.last)) *ℤ residual p c x y ≡ exact p c x y +ℤ middle_roundings p c x y +ℤ clippings p c x y +ℤ last_rounding p c x y
  unfolding last_rounding
  four-parts =
      let b = pos (2 ^ p.last) in
      let r = row_sum p c x y in
      let z = residual p c x y in
      ap (λ (n : ℕ). pos n *ℤ z) (pow-add 2 7 p.last)
      ∙ ring! (b ∷ r ∷ z ∷ []) (κ (pos 128) ⊗ ν 0 ⊗ ν 2) (κ (pos 128) ⊗ ν 1 ⊕ κ (pos 128) ⊗ (ν 0 ⊗ ν 2 ⊖ ν 1)) tt
      ∙ ap (λ (t : ℤ). t +ℤ pos 128 *ℤ (b *ℤ z -ℤ r)) three-parts

  pub middles-near : nat_abs (middle_roundings p c x y) ≤ 64 * weight_sizes p x
  unfolding middle_roundings
  middles-near =
      carried-in p x (λ i. pos 128 *ℤ rounded (column_sum p c i y) -ℤ column_sum p c i y) 64 (λ i h. shift-near (column_sum p c i y) 6)

  pub last-near : 1 ≤ p.last → nat_abs (last_rounding p c x y) ≤ 64 * 2 ^ p.last
  unfolding last_rounding residual
  last-near h = near p.last (row_sum p c x y) h
    where
      near : (s : ℕ) (r : ℤ) → 1 ≤ s → nat_abs (pos 128 *ℤ (pos (2 ^ s) *ℤ nearest s r -ℤ r)) ≤ 64 * 2 ^ s
      near zero r h = absurd (omega arith)
      near (suc k) r h =
          let e : suc k - 1 ≡ k = omega arith in
          let n : nat_abs (pos (2 ^ suc k) *ℤ nearest (suc k) r -ℤ r) ≤ 2 ^ k = rw e (shift-near r k) in
          rw (abs-mul (pos 128) (pos (2 ^ suc k) *ℤ nearest (suc k) r -ℤ r)) (omega (arith, pow-succ' 2 k))

  pub clippings-none : ((i : ℕ) → i < p.columns → Uses p x i → middle_at p c i y ≡ rounded (column_sum p c i y)) → clippings p c x y ≡ pos 0
  unfolding clippings carried
  clippings-none same =
      let w : ℕ → ℤ = λ i. weight p.horizontal p.width i x in
      let m : ℕ → ℤ = λ i. middle_at p c i y in
      let r : ℕ → ℤ = λ i. rounded (column_sum p c i y) in
      sum-cong p.columns (λ i. w i *ℤ (pos 128 *ℤ (m i -ℤ r i))) (λ i. pos 0) (λ i h. no-share (w i) (m i) (r i) (same i h)) ∙ sum-none p.columns

  pub two-parts : ((i : ℕ) → i < p.columns → middle_at p c i y ≡ rounded (column_sum p c i y))
      → pos (2 ^ (7 + p.last)) *ℤ residual p c x y -ℤ exact p c x y ≡ middle_roundings p c x y +ℤ last_rounding p c x y
  two-parts same =
      let e = exact p c x y in
      let m = middle_roundings p c x y in
      let l = last_rounding p c x y in
      ap (λ (z : ℤ). z -ℤ e) (four-parts ∙ ap (λ (z : ℤ). e +ℤ m +ℤ z +ℤ l) (clippings-none (λ i h used. same i h)))
      ∙ ring! (e ∷ m ∷ l ∷ []) (ν 0 ⊕ ν 1 ⊕ κ (pos 0) ⊕ ν 2 ⊖ ν 0) (ν 1 ⊕ ν 2) tt
