-- Group after group: the residuals of eight rows more. Assumes nothing.
use mathlib.Core.Path.{◌≡◌, refl, sym, ap, ◌∙◌}
use mathlib.Core.Bool.{Bool, true, false}
use mathlib.Core.List.{List}
use Prim.Native.Nat.{ℕ, ◌+◌, ◌*◌, ◌-◌, ◌/◌, ◌%◌, ◌≤◌, ◌<◌, min}
use native.Mathlib.Nat.{zero-mul, add-mul}
use native.Mathlib.Omega.{arith}
use borrow.Author.Tests.{ltb-true, ltb-false}
use lib.Dec.{ltb}
use lib.ListN.{length, take, drop, length-take, length-drop}
use lib.Seq.{get_or-take, get_or-drop}
use lib.IntN.{ℤ, pos, ◌*ℤ◌}
use Rattle.algebra.specs.Lists.{at, block}
use Rattle.algebra.proofs.Sum.{sum-cong}
use Rattle.algebra.proofs.Lists.{block_at, block-length, place_in}
use Rattle.meaning.specs.Weights.{weight}
use Rattle.meaning.specs.Line.{inverse_sum}
use Rattle.kernel_levels.specs.Kernels.{rows_sum}
use Rattle.dct2_block.specs.Stages.{place_of}
use Rattle.dct2_block.proofs.Splice.{spliced, before, inside}

-- a part of m from a on
pub part_at : (m : List ℤ) (a k : ℕ) → a + k < length m → at (take (length m - a) (drop a m)) k ≡ at m (a + k)
part_at m a k h = get_or-take (length m - a) (drop a m) k (pos 0) (omega arith) ∙ get_or-drop a m k (pos 0)

pub part-long : (m : List ℤ) (a : ℕ) → a ≤ length m → length (take (length m - a) (drop a m)) ≡ length m - a
part-long m a h = simp (length-take, length-drop) (omega arith)

-- the first y rows are done
pub record Grouped (w y : ℕ) (f : ℕ → ℕ → ℤ) (r : List ℤ) : Type 0 where
  pub held : (j l : ℕ) → j < w → l < y → at r (j + l * w) ≡ f j l

pub group-none : {w : ℕ} {f : ℕ → ℕ → ℤ} {r : List ℤ} → Grouped w 0 f r
group-none = record { held = λ j l a b. absurd (omega arith) }

module _ {w y : ℕ} {f : ℕ → ℕ → ℤ} {r ys : List ℤ} (start : y * w ≤ length r) (done : Grouped w y f r) (g : ℕ → ℕ → ℤ)
    (more : ys ≡ block w 8 g) (same : (j l : ℕ) → j < w → l < 8 → g j l ≡ f j (y + l)) (e : ℕ) where
  pub group-next : Grouped w (y + 8) f (spliced r ys (y * w) e start)
  group-next = record { held = λ j l a b. held j l a b (ltb l y) refl }
    where
      long : length ys ≡ 8 * w
      long = ap length more ∙ block-length w 8 g

      held : (j l : ℕ) → j < w → l < y + 8 → (b : Bool) → ltb l y ≡ b → at (spliced r ys (y * w) e start) (j + l * w) ≡ f j l
      held j l a b true t =
          let s : l < y = ltb-true l y t in
          before r ys (y * w) e start (j + l * w) (place_in {x = j} {y = l} {w = w} {h = y} a s) ∙ done.held j l a s
      held j l a b false t =
          let s : y ≤ l = ltb-false l y t in
          let n : l - y < 8 = omega arith in
          let back : y + (l - y) ≡ l = omega arith in
          let p : l * w ≡ y * w + (l - y) * w = ap (λ (k : ℕ). k * w) (sym back) ∙ add-mul y (l - y) w in
          let q : j + l * w ≡ y * w + (j + (l - y) * w) = omega (arith, p) in
          ap (at (spliced r ys (y * w) e start)) q
          ∙ inside r ys (y * w) e start (j + (l - y) * w) (omega (arith, long, place_in {x = j} {y = l - y} {w = w} {h = 8} a n))
          ∙ ap (λ (k : List ℤ). at k (j + (l - y) * w)) more ∙ block_at w 8 g j (l - y) a n ∙ same j (l - y) a n ∙ ap (f j) back

-- ---- what a group reads: m from a on, as rows of its own
abbrev pub group_place : ℕ → ℕ → ℕ → ℕ → ℕ
group_place step apart i y = y / 8 * step + (i / 8 * apart + i % 8 * 8 + y % 8)

pub group-sum : (m : List ℤ) (w wide step apart y a j l : ℕ) → y % 8 ≡ 0 → l < 8 → a ≡ y / 8 * step → ((i : ℕ) → i < wide → a + (i / 8 * apart + i % 8 * 8 + l) < length m)
    → rows_sum w wide 8 apart (take (length m - a) (drop a m)) j l ≡ inverse_sum 0 w wide (λ i. at m (group_place step apart i (y + l))) j
unfolding rows_sum inverse_sum
group-sum m w wide step apart y a j l e k q there =
    sum-cong wide _ _ (λ i h. ap (λ (z : ℤ). weight 0 w i j *ℤ z) (part_at m a (i / 8 * apart + i % 8 * 8 + l) (there i h) ∙ (λ t. at m (q t + (i / 8 * apart + i % 8 * 8 + l)))
    ∙ (λ t. at m (sym row t * step + (i / 8 * apart + i % 8 * 8 + sym column t)))))
  where
    row : (y + l) / 8 ≡ y / 8
    row = omega arith

    column : (y + l) % 8 ≡ l
    column = omega arith

-- ---- the places of `place_of`, as a group of 4 rows and groups of 8 read them
pub four-place : (wide strip h i y : ℕ) → h ≡ 4 → strip ≡ wide → y < 4 → place_of (min h 8) wide (wide * h) i y ≡ i / 8 * (strip * h) + i % 8 * 4 + y
four-place wide strip h i y e s l =
    let t : min h 8 ≡ 4 = ap (λ (k : ℕ). min k 8) e in
    let q : y / 4 ≡ 0 = omega arith in
    let r : y % 4 ≡ y = omega arith in
    (λ j. i / 8 * (sym s j * h) + (y / t j * (t j * wide) + t j * (i % 8) + y % t j)) ∙ (λ j. i / 8 * (strip * h) + (q j * (4 * wide) + 4 * (i % 8) + r j)) ∙ omega (arith, zero-mul (4 * wide))

pub eight-place : (wide strip h i y : ℕ) → min h 8 ≡ 8 → strip ≡ wide → place_of (min h 8) wide (wide * h) i y ≡ group_place (8 * strip) (strip * h) i y
eight-place wide strip h i y t s = (λ j. i / 8 * (sym s j * h) + (y / t j * (t j * sym s j) + t j * (i % 8) + y % t j)) ∙ omega arith
