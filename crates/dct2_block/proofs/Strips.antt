-- Strip after strip: the middle values of eight columns more. Assumes nothing.
use mathlib.Core.Path.{◌≡◌, refl, sym, ap, ◌∙◌}
use mathlib.Core.Bool.{Bool, true, false}
use mathlib.Core.List.{List}
use Prim.Native.Nat.{ℕ, ◌+◌, ◌*◌, ◌-◌, ◌/◌, ◌%◌, ◌≤◌, ◌<◌, min}
use native.Mathlib.Nat.{zero-add, mul_assoc, mul-le-mul_right}
use native.Mathlib.Omega.{arith}
use borrow.Author.Tests.{ltb-true, ltb-false}
use lib.Dec.{ltb}
use lib.ListN.{length}
use lib.IntN.{ℤ}
use Rattle.algebra.specs.Lists.{at}
use Rattle.meaning.specs.Line.{inverse_sum}
use Rattle.meaning.specs.Plan.{short_range}
use Rattle.meaning.specs.Inverse.{middle}
use Rattle.kernel_levels.specs.Kernels.{turned_place, strip_sum, Turned}
use Rattle.kernel_picks.specs.Picks.{is_kernel}
use Rattle.dct2_block.specs.Stages.{middle_of, place_of, Tiles}
use Rattle.dct2_block.proofs.Splice.{spliced, before, inside}
use Rattle.kernel_picks.proofs.Cases.{kernel-cases}

-- ---- a place of a strip lies in it
pub in-strip : (count h high : ℕ) → is_kernel count h high ≡ true → (x y : ℕ) → x < 8 → y < h → turned_place (min h 8) 8 x y < 8 * h
in-strip = kernel-cases (λ h _. (x y : ℕ) → x < 8 → y < h → turned_place (min h 8) 8 x y < 8 * h) (λ x y a b. omega arith) (λ x y a b. omega arith) (λ x y a b. omega arith) (λ x y a b. omega arith) (λ x y a b. omega arith) (λ x y a b. omega arith) (λ x y a b. omega arith)

pub in-strip-4 : (count h high : ℕ) → is_kernel count h high ≡ true → (x y : ℕ) → x < 4 → y < h → turned_place (min h 8) 4 x y < 4 * h
in-strip-4 = kernel-cases (λ h _. (x y : ℕ) → x < 4 → y < h → turned_place (min h 8) 4 x y < 4 * h) (λ x y a b. omega arith) (λ x y a b. omega arith) (λ x y a b. omega arith) (λ x y a b. omega arith) (λ x y a b. omega arith) (λ x y a b. omega arith) (λ x y a b. omega arith)

-- the strip of column x starts at x * h
pub strip-at : (x h : ℕ) → x % 8 ≡ 0 → x / 8 * (8 * h) ≡ x * h
strip-at x h e = let d : x / 8 * 8 ≡ x = omega arith in sym (mul_assoc (x / 8) 8 h) ∙ ap (λ (k : ℕ). k * h) d

module _ {h x : ℕ} (high : ℕ) {f : ℕ → ℕ → ℤ} {m ys : List ℤ} (kernel : is_kernel 8 h high ≡ true) (whole : x % 8 ≡ 0) (start : x * h ≤ length m) (long : length ys ≡ 8 * h)
    (done : Tiles (min h 8) 8 (8 * h) x h f m) (more : Turned (min h 8) 8 h (λ i y. f (x + i) y) ys) (e : ℕ) where
  pub strip-next : Tiles (min h 8) 8 (8 * h) (x + 8) h f (spliced m ys (x * h) e start)
  strip-next = record { held = λ i y a b. held i y a b (ltb i x) refl }
    where
      held : (i y : ℕ) → i < x + 8 → y < h → (b : Bool) → ltb i x ≡ b → at (spliced m ys (x * h) e start) (place_of (min h 8) 8 (8 * h) i y) ≡ f i y
      held i y a b true t =
          let l : i < x = ltb-true i x t in
          let k : i / 8 + 1 ≤ x / 8 = omega arith in
          let q : (i / 8 + 1) * (8 * h) ≤ x / 8 * (8 * h) = mul-le-mul_right (8 * h) k in
          let n : i % 8 < 8 = omega arith in
          before m ys (x * h) e start (place_of (min h 8) 8 (8 * h) i y) (omega (arith, q, strip-at x h whole, in-strip 8 h high kernel (i % 8) y n b)) ∙ done.held i y l b
      held i y a b false t =
          let g : x ≤ i = ltb-false i x t in
          let q : i / 8 ≡ x / 8 = omega arith in
          let r : i % 8 ≡ i - x = omega arith in
          let n : i - x < 8 = omega arith in
          let back : x + (i - x) ≡ i = omega arith in
          (λ t. at (spliced m ys (x * h) e start) (q t * (8 * h) + turned_place (min h 8) 8 (r t) y))
          ∙ ap (λ (k : ℕ). at (spliced m ys (x * h) e start) (k + turned_place (min h 8) 8 (i - x) y)) (strip-at x h whole)
          ∙ inside m ys (x * h) e start (turned_place (min h 8) 8 (i - x) y) (omega (arith, long, in-strip 8 h high kernel (i - x) y n b))
          ∙ more.done (i - x) y n b ∙ ap (λ (k : ℕ). f k y) back

pub strip-none : {tall wide apart h : ℕ} {f : ℕ → ℕ → ℤ} {m : List ℤ} → Tiles tall wide apart 0 h f m
strip-none = record { held = λ i y a b. absurd (omega arith) }

-- one strip of 4
pub strip-4 : {tall apart h : ℕ} {f : ℕ → ℕ → ℤ} {m : List ℤ} → Turned tall 4 h f m → Tiles tall 4 apart 4 h f m
strip-4 {tall} {apart} {h} {f} {m} p =
    record {
      held = λ x y a b. let q : x / 8 ≡ 0 = omega arith in let r : x % 8 ≡ x = omega arith in
          (λ t. at m (q t * apart + turned_place tall 4 (r t) y)) ∙ ap (at m) (let e : 0 * apart + turned_place tall 4 x y ≡ turned_place tall 4 x y = omega arith in e) ∙ p.done x y a b;
    }

-- the strip from column 0 on
pub first-strip : {tall wide h : ℕ} (stride rows : ℕ) (c m : List ℤ) → Turned tall wide h (λ i y. middle short_range (strip_sum h stride 0 rows c i y)) m → Turned tall wide h (middle_of h stride rows c) m
unfolding strip_sum
first-strip {tall} {wide} {h} stride rows c m p =
    record { done = λ x y a b. p.done x y a b ∙ (λ t. middle short_range (inverse_sum 0 h rows (λ i. at c (zero-add x t + i * stride)) y)) }
