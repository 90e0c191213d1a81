-- From a strip to the sums of its columns, and columns put into tiles. Assumes nothing.
use mathlib.Core.Path.{◌≡◌, refl, sym, ap, ◌∙◌, subst}
use mathlib.Core.Bool.{Bool, true, false}
use mathlib.Core.List.{List}
use Prim.Native.Nat.{ℕ, ◌+◌, ◌*◌, ◌-◌, ◌/◌, ◌%◌, ◌≤◌, ◌<◌}
use native.Mathlib.Nat.{zero-add, mul_comm, mul-le-mul_right}
use native.Mathlib.Omega.{arith}
use native.Mathlib.Decide.{ℕ_discrete}
use borrow.Author.Tests.{ltb-true, ltb-false}
use lib.Dec.{ltb}
use lib.ListN.{length, replicate}
use lib.IntN.{ℤ, pos, ◌+ℤ◌, ◌*ℤ◌, *ℤ-zero}
use Rattle.algebra.specs.Clip.{clip}
use Rattle.meaning.specs.Plan.{short_range}
use Rattle.meaning.specs.Inverse.{middle}
use Rattle.algebra.specs.Lists.{at}
use Rattle.algebra.proofs.Sum.{sum-cong, sum-rest}
use Rattle.algebra.proofs.Lists.{zeros-at, place_in, row_of, column-of}
use Rattle.meaning.specs.Weights.{weight}
use Rattle.meaning.specs.Line.{inverse_sum}
use Rattle.kernel_steps.specs.Written.{floor, WroteFrom}
use Rattle.kernel_levels.specs.Kernels.{turned_place, strip_sum, Turned}
use Rattle.kernel_levels.proofs.Levels.{Dealt, Sums}

-- ---- a column of a strip of which the first rows are there, and zeros after them
column-sum : {live rows x wide : ℕ} {b a : List ℤ} (m w x0 : ℕ) (c : List ℤ) → rows ≤ live → x < wide → WroteFrom 0 (wide * rows) b (replicate m (pos 0)) (λ k. at c (k / wide * w + x0 + k % wide))
    → Dealt live live (λ i. at b (x + i * wide)) a → (n y : ℕ) → inverse_sum 0 n live (at a) y ≡ strip_sum n w x0 rows c x y
unfolding inverse_sum strip_sum
column-sum {live} {rows} {x} {wide} {b} {a} m w x0 c few l s d n y =
    sum-rest rows live (λ i. weight 0 n i y *ℤ at a i) few
    (λ i k g. ap (λ (v : ℤ). weight 0 n i y *ℤ v) (d.are i g ∙ s.after (x + i * wide) (omega (arith, mul-le-mul_right wide k, mul_comm wide rows)) ∙ zeros-at m (x + i * wide)) ∙ *ℤ-zero (weight 0 n i y))
    ∙ sum-cong rows (λ i. weight 0 n i y *ℤ at a i) (λ i. weight 0 n i y *ℤ at c (x0 + x + i * w)) (λ i k. ap (λ (v : ℤ). weight 0 n i y *ℤ v) (there i k))
  where
    there : (i : ℕ) → i < rows → at a i ≡ at c (x0 + x + i * w)
    there i k =
        let e : i * w + x0 + x ≡ x0 + x + i * w = omega arith in
        d.are i (omega arith) ∙ ap (at b) (sym (zero-add (x + i * wide))) ∙ s.done (x + i * wide) (omega (arith, place_in {x = x} {y = i} {w = wide} {h = rows} l k, mul_comm wide rows))
        ∙ (λ t. at c (row_of i l t * w + x0 + column-of i l t)) ∙ ap (at c) e

-- ---- tiles whose columns do not overlap, by one test of arithmetic for each size
pub record Places (tall wide : ℕ) : Type 0 where
  pub apart : (x y i l : ℕ) → x < wide → i < x → y % tall ≡ 0 → y / tall * (tall * wide) + tall * x ≤ turned_place tall wide i l → y / tall * (tall * wide) + tall * x + tall ≤ turned_place tall wide i l
  pub above : (x y l : ℕ) → y % tall ≡ 0 → l < y → turned_place tall wide x l < y / tall * (tall * wide) + tall * x
  pub inside : (x y l : ℕ) → y % tall ≡ 0 → y ≤ l → l < y + tall → turned_place tall wide x l ≡ y / tall * (tall * wide) + tall * x + (l - y)

pub places-8-8 : Places 8 8
places-8-8 = record { apart = λ x y i l p q r s. omega arith; above = λ x y l r s. omega arith; inside = λ x y l r s t. omega arith }

pub places-8-4 : Places 8 4
places-8-4 = record { apart = λ x y i l p q r s. omega arith; above = λ x y l r s. omega arith; inside = λ x y l r s t. omega arith }

pub places-4-8 : Places 4 8
places-4-8 = record { apart = λ x y i l p q r s. omega arith; above = λ x y l r s. omega arith; inside = λ x y l r s t. omega arith }

pub places-4-4 : Places 4 4
places-4-4 = record { apart = λ x y i l p q r s. omega arith; above = λ x y l r s. omega arith; inside = λ x y l r s t. omega arith }

-- ---- columns before x are done, and the first rows of column x
pub record Turning (tall wide n x y : ℕ) (f : ℕ → ℕ → ℤ) (m m₀ : List ℤ) : Type 0 where
  pub long : length m ≡ length m₀
  pub done : (i l : ℕ) → i < x → l < n → at m (turned_place tall wide i l) ≡ f i l
  pub part : (l : ℕ) → l < y → at m (turned_place tall wide x l) ≡ f x l

pub turn-none : (tall wide n : ℕ) (f : ℕ → ℕ → ℤ) (m : List ℤ) → Turning tall wide n 0 0 f m m
turn-none tall wide n f m = record { long = refl; done = λ i l p q. absurd (omega arith); part = λ l p. absurd (omega arith) }

-- one tile more, in places that no other column has
turn-next : {tall wide n x : ℕ} {f : ℕ → ℕ → ℤ} {g : ℕ → ℤ} {m m₁ m₀ : List ℤ} {o : ℕ} → Places tall wide → (y : ℕ) → y % tall ≡ 0 → o ≡ y / tall * (tall * wide) + tall * x → x < wide
    → Turning tall wide n x y f m₁ m₀ → WroteFrom o tall m m₁ g → ((j : ℕ) → j < tall → g j ≡ f x (y + j)) → Turning tall wide n x (y + tall) f m m₀
turn-next {tall} {wide} {n} {x} {f} {g} {m} {m₁} {m₀} {o} places y whole place few p w e =
    record {
      long = w.long ∙ p.long;
      done = λ i l s t. other i l s (ltb (turned_place tall wide i l) o) refl ∙ p.done i l s t;
      part = λ l s. part l s (ltb l y) refl;
    }
  where
    other : (i l : ℕ) → i < x → (b : Bool) → ltb (turned_place tall wide i l) o ≡ b → at m (turned_place tall wide i l) ≡ at m₁ (turned_place tall wide i l)
    other i l s true t = w.before (turned_place tall wide i l) (ltb-true (turned_place tall wide i l) o t)
    other i l s false t =
        let q : o ≤ turned_place tall wide i l = ltb-false (turned_place tall wide i l) o t in
        let q' = subst (λ (o : ℕ). o ≤ turned_place tall wide i l) place q in
        w.after (turned_place tall wide i l) (subst (λ (o : ℕ). o + tall ≤ turned_place tall wide i l) (sym place) (places.apart x y i l few s whole q'))

    part : (l : ℕ) → l < y + tall → (b : Bool) → ltb l y ≡ b → at m (turned_place tall wide x l) ≡ f x l
    part l s true t =
        let q : l < y = ltb-true l y t in
        w.before (turned_place tall wide x l) (subst (λ (o : ℕ). turned_place tall wide x l < o) (sym place) (places.above x y l whole q)) ∙ p.part l q
    part l s false t =
        let q : y ≤ l = ltb-false l y t in
        let back : y + (l - y) ≡ l = omega arith in
        ap (at m) (places.inside x y l whole q s ∙ ap (λ (o : ℕ). o + (l - y)) (sym place)) ∙ w.done (l - y) (omega arith) ∙ e (l - y) (omega arith) ∙ ap (f x) back

pub turn-column : {tall wide n x y : ℕ} {f : ℕ → ℕ → ℤ} {m m₀ : List ℤ} → n ≤ y → Turning tall wide n x y f m m₀ → Turning tall wide n (x + 1) 0 f m m₀
turn-column {tall} {wide} {n} {x} {y} {f} {m} full p = record { long = p.long; done = λ i l s t. done i l s t (ℕ_discrete i x); part = λ l s. absurd (omega arith) }
  where
    done : (i l : ℕ) → i < x + 1 → l < n → Dec (i ≡ x) → at m (turned_place tall wide i l) ≡ f i l
    done i l s t (yes q) = subst (λ (i : ℕ). at m (turned_place tall wide i l) ≡ f i l) (sym q) (p.part l (omega arith))
    done i l s t (no d) = p.done i l (omega arith) t

pub turn-all : {tall wide n x : ℕ} {f : ℕ → ℕ → ℤ} {m m₀ : List ℤ} → wide ≤ x → Turning tall wide n x 0 f m m₀ → Turned tall wide n f m
turn-all full p = record { done = λ i l s t. p.done i l (omega arith) t }

-- ---- one tile more of column x: its middle values, from the sums of the strip's column
pub put_next : {live rows x n k wide tall o : ℕ} {b a y m m₁ m₀ : List ℤ} (size w x0 : ℕ) (c : List ℤ) → Places tall wide → rows ≤ live → x < wide
    → WroteFrom 0 (wide * rows) b (replicate size (pos 0)) (λ k. at c (k / wide * w + x0 + k % wide)) → Dealt live live (λ i. at b (x + i * wide)) a → Sums n live (pos 64) (at a) k y
    → (from : ℕ) → from % tall ≡ 0 → from + tall ≤ n → o ≡ from / tall * (tall * wide) + tall * x
    → Turning tall wide n x from (λ x y. middle short_range (strip_sum n w x0 rows c x y)) m₁ m₀ → WroteFrom o tall m m₁ (λ j. clip short_range (floor 7 (at y (from + j))))
    → Turning tall wide n x (from + tall) (λ x y. middle short_range (strip_sum n w x0 rows c x y)) m m₀
put_next {n = n} {y = y} size w x0 c places few l s d p from whole room place turning wrote =
    turn-next places from whole place l turning wrote (λ j h.
    ap (λ (z : ℤ). clip short_range (floor 7 z)) (p.are (from + j) (omega arith) ∙ ap (λ (z : ℤ). z +ℤ pos 64) (column-sum size w x0 c few l s d n (from + j))))
