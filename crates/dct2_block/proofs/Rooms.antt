-- Middle values in a room of zeros: where they stand, and what the second stage reads. Assumes nothing.
use mathlib.Core.Path.{◌≡◌, refl, sym, ap, ◌∙◌, subst}
use mathlib.Core.Bool.{Bool, true, false}
use mathlib.Core.List.{List, ◌++◌}
use Prim.Native.Nat.{ℕ, ◌+◌, ◌*◌, ◌-◌, ◌/◌, ◌%◌, ◌≤◌, ◌<◌, min}
use native.Mathlib.Nat.{mul-le-mul_right}
use native.Mathlib.Omega.{arith}
use borrow.Author.Tests.{ltb-true, ltb-false}
use lib.Dec.{ltb}
use lib.ListN.{length, drop, get_or-append}
use lib.Seq.{get_or-drop, drop_at}
use lib.IntN.{ℤ, pos, ◌*ℤ◌, *ℤ-zero}
use Rattle.algebra.specs.Lists.{at}
use Rattle.algebra.proofs.Sum.{sum-cong, sum-rest}
use Rattle.meaning.specs.Weights.{weight}
use Rattle.meaning.specs.Line.{inverse_sum}
use Rattle.kernel_levels.specs.Kernels.{turned_place}
use Rattle.kernel_picks.specs.Picks.{is_kernel}
use Rattle.dct2_block.specs.Stages.{place_of, Tiles, Read}
use Rattle.kernel_picks.proofs.Cases.{few-live}
use Rattle.dct2_block.proofs.Kernel.{narrow-is, wide_is}
use Rattle.dct2_block.proofs.Strips.{in-strip, in-strip-4, strip-at}

module _ {w h stride rows columns high : ℕ} {c : List ℤ} (g : Read w h stride rows columns high c) where
  abbrev place : ℕ → ℕ → ℕ
  place x y = place_of (min h 8) (min w 8) (min w 8 * h) x y

  -- those of the first columns stand in front
  pub front : (x y : ℕ) → x < columns → y < h → place x y < columns * h
  front x y a b = by (ltb w 8) refl
    where
      by : (t : Bool) → ltb w 8 ≡ t → place x y < columns * h
      by true t =
          let n = narrow-is w columns g.width (ltb-true w 8 t) g.narrow g.strips g.some in
          let q : x / 8 ≡ 0 = omega (arith, n.1) in
          let r : x % 8 ≡ x = omega (arith, n.1) in
          let e : min w 8 ≡ 4 = ap (λ (k : ℕ). min k 8) n.0 in
          let p : turned_place (min h 8) 4 x y < 4 * h = in-strip-4 (min w 8) h high g.kernel x y (omega (arith, n.1)) b in
          let s : place x y ≡ 0 * (min w 8 * h) + turned_place (min h 8) 4 x y = λ i. q i * (min w 8 * h) + turned_place (min h 8) (e i) (r i) y in
          omega (arith, p, s, ap (λ (k : ℕ). k * h) n.1)
      by false t =
          let e : min w 8 ≡ 8 = (wide_is w g.width (ltb-false w 8 t)).0 in
          let m : columns % 8 ≡ 0 = subst (λ (k : ℕ). columns % k ≡ 0) e g.strips in
          let k : x / 8 + 1 ≤ columns / 8 = omega arith in
          let n : x % 8 < 8 = omega arith in
          let p : turned_place (min h 8) 8 (x % 8) y < 8 * h = in-strip (min w 8) h high g.kernel (x % 8) y n b in
          let s : place x y ≡ x / 8 * (8 * h) + turned_place (min h 8) 8 (x % 8) y = λ i. x / 8 * (e i * h) + turned_place (min h 8) (e i) (x % 8) y in
          omega (arith, p, s, mul-le-mul_right (8 * h) k, strip-at columns h m)

  -- those of later ones behind them
  pub behind : (wide : ℕ) → is_kernel (min h 8) w wide ≡ true → (x y : ℕ) → columns ≤ x → x < wide → columns * h ≤ place x y
  behind wide kernel x y a b = by (ltb w 8) refl
    where
      by : (t : Bool) → ltb w 8 ≡ t → columns * h ≤ place x y
      by true t = let n = narrow-is w columns g.width (ltb-true w 8 t) g.narrow g.strips g.some in absurd (omega (arith, n, few-live (min h 8) w wide kernel))
      by false t =
          let e : min w 8 ≡ 8 = (wide_is w g.width (ltb-false w 8 t)).0 in
          let m : columns % 8 ≡ 0 = subst (λ (k : ℕ). columns % k ≡ 0) e g.strips in
          let k : columns / 8 ≤ x / 8 = omega arith in
          let s : place x y ≡ x / 8 * (8 * h) + turned_place (min h 8) 8 (x % 8) y = λ i. x / 8 * (e i * h) + turned_place (min h 8) (e i) (x % 8) y in
          omega (arith, s, mul-le-mul_right (8 * h) k, strip-at columns h m)

  -- ---- the front came back as ys
  module _ (m : List ℤ) {ys : List ℤ} {f : ℕ → ℕ → ℤ} (zeros : (k : ℕ) → at m k ≡ pos 0) (long : length ys ≡ columns * h) (held : Tiles (min h 8) (min w 8) (min w 8 * h) columns h f ys) where
    abbrev all : List ℤ
    all = ys ++ drop (columns * h - 0) m

    in-front : (x y : ℕ) → x < columns → y < h → at all (place x y) ≡ f x y
    in-front x y a b = get_or-append ys (drop (columns * h - 0) m) (pos 0) (place x y) (omega (arith, long, front x y a b)) ∙ held.held x y a b

    zero-behind : (k : ℕ) → columns * h ≤ k → at all k ≡ pos 0
    zero-behind k l =
        let e : columns * h + (k - columns * h) ≡ k = omega arith in
        ap (at all) (sym e) ∙ sym (get_or-drop (columns * h) all (k - columns * h) (pos 0))
        ∙ ap (λ (l : List ℤ). at l (k - columns * h)) (drop_at ys (drop (columns * h - 0) m) (columns * h) long)
        ∙ get_or-drop (columns * h - 0) m (k - columns * h) (pos 0) ∙ zeros (columns * h - 0 + (k - columns * h))

    -- the sums of the second stage
    pub across-sum : (wide : ℕ) → is_kernel (min h 8) w wide ≡ true → (j y : ℕ) → y < h → inverse_sum 0 w wide (λ i. at all (place i y)) j ≡ inverse_sum 0 w (min wide columns) (λ i. f i y) j
    unfolding inverse_sum
    across-sum wide kernel j y b =
        sum-rest (min wide columns) wide (λ i. weight 0 w i j *ℤ at all (place i y)) (omega arith)
        (λ i l u. ap (λ (z : ℤ). weight 0 w i j *ℤ z) (zero-behind (place i y) (behind wide kernel i y (omega arith) u)) ∙ *ℤ-zero (weight 0 w i j))
        ∙ sum-cong (min wide columns) _ _ (λ i l. ap (λ (z : ℤ). weight 0 w i j *ℤ z) (in-front i y (omega arith) b))
