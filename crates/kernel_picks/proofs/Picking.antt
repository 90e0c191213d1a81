-- What the tests of a ladder leave of the kernels, and what holds of a kernel's numbers. Assumes nothing.
use mathlib.Core.Path.{◌≡◌, refl, sym, ap, ◌∙◌, subst}
use mathlib.Core.Bool.{true}
use mathlib.Core.List.{List}
use Prim.Native.Nat.{ℕ, ◌+◌, ◌*◌, ◌≤◌, min}
use native.Mathlib.Omega.{arith}
use lib.IntN.{ℤ}
use Rattle.algebra.specs.Lists.{block}
use Rattle.meaning.specs.Plan.{short_range}
use Rattle.meaning.specs.Inverse.{middle}
use Rattle.product.specs.Product.{shifted}
use Rattle.kernel_levels.specs.Kernels.{Strip, strip_sum, Turned, Rowed, rows_sum}
use Rattle.kernel_picks.specs.Picks.{is_kernel}
use Rattle.kernel_picks.proofs.Cases.{kernel-cases, four-cases, few-points, few-live}

-- ---- which one is left: points and live inputs together tell it
pub few-picks : (count n l : ℕ) → is_kernel count n l ≡ true → n + l ≤ 64
few-picks count n l h = omega (arith, few-points count n l h, few-live count n l h)

pub pick-8 : (count n l : ℕ) → is_kernel count n l ≡ true → n + l ≡ 8 → (n ≡ 4) × (l ≡ 4)
pick-8 = kernel-cases (λ n l. n + l ≡ 8 → (n ≡ 4) × (l ≡ 4)) (λ e. (refl, refl)) (λ e. absurd (omega arith)) (λ e. absurd (omega arith)) (λ e. absurd (omega arith)) (λ e. absurd (omega arith)) (λ e. absurd (omega arith)) (λ e. absurd (omega arith))

pub pick-12 : (count n l : ℕ) → is_kernel count n l ≡ true → n + l ≡ 12 → (n ≡ 8) × (l ≡ 4)
pick-12 = kernel-cases (λ n l. n + l ≡ 12 → (n ≡ 8) × (l ≡ 4)) (λ e. absurd (omega arith)) (λ e. (refl, refl)) (λ e. absurd (omega arith)) (λ e. absurd (omega arith)) (λ e. absurd (omega arith)) (λ e. absurd (omega arith)) (λ e. absurd (omega arith))

pub pick-16 : (count n l : ℕ) → is_kernel count n l ≡ true → n + l ≡ 16 → (n ≡ 8) × (l ≡ 8)
pick-16 = kernel-cases (λ n l. n + l ≡ 16 → (n ≡ 8) × (l ≡ 8)) (λ e. absurd (omega arith)) (λ e. absurd (omega arith)) (λ e. (refl, refl)) (λ e. absurd (omega arith)) (λ e. absurd (omega arith)) (λ e. absurd (omega arith)) (λ e. absurd (omega arith))

pub pick-20 : (count n l : ℕ) → is_kernel count n l ≡ true → n + l ≡ 20 → (n ≡ 16) × (l ≡ 4)
pick-20 = kernel-cases (λ n l. n + l ≡ 20 → (n ≡ 16) × (l ≡ 4)) (λ e. absurd (omega arith)) (λ e. absurd (omega arith)) (λ e. absurd (omega arith)) (λ e. (refl, refl)) (λ e. absurd (omega arith)) (λ e. absurd (omega arith)) (λ e. absurd (omega arith))

pub pick-32 : (count n l : ℕ) → is_kernel count n l ≡ true → n + l ≡ 32 → (n ≡ 16) × (l ≡ 16)
pick-32 = kernel-cases (λ n l. n + l ≡ 32 → (n ≡ 16) × (l ≡ 16)) (λ e. absurd (omega arith)) (λ e. absurd (omega arith)) (λ e. absurd (omega arith)) (λ e. absurd (omega arith)) (λ e. (refl, refl)) (λ e. absurd (omega arith)) (λ e. absurd (omega arith))

pub pick-40 : (count n l : ℕ) → is_kernel count n l ≡ true → n + l ≡ 40 → (n ≡ 32) × (l ≡ 8)
pick-40 = kernel-cases (λ n l. n + l ≡ 40 → (n ≡ 32) × (l ≡ 8)) (λ e. absurd (omega arith)) (λ e. absurd (omega arith)) (λ e. absurd (omega arith)) (λ e. absurd (omega arith)) (λ e. absurd (omega arith)) (λ e. (refl, refl)) (λ e. absurd (omega arith))

pub pick-64 : (count n l : ℕ) → is_kernel count n l ≡ true → n + l ≡ 64 → (n ≡ 32) × (l ≡ 32)
pick-64 = kernel-cases (λ n l. n + l ≡ 64 → (n ≡ 32) × (l ≡ 32)) (λ e. absurd (omega arith)) (λ e. absurd (omega arith)) (λ e. absurd (omega arith)) (λ e. absurd (omega arith)) (λ e. absurd (omega arith)) (λ e. absurd (omega arith)) (λ e. (refl, refl))

pub last-8 : (n l : ℕ) → is_kernel 8 n l ≡ true → (n + l ≡ 8 → ⊥) → (n + l ≡ 12 → ⊥) → (n + l ≡ 16 → ⊥) → (n + l ≡ 20 → ⊥) → (n + l ≡ 32 → ⊥) → (n + l ≡ 40 → ⊥) → n + l ≡ 64
last-8 n l h = kernel-cases (λ n l. (n + l ≡ 8 → ⊥) → (n + l ≡ 12 → ⊥) → (n + l ≡ 16 → ⊥) → (n + l ≡ 20 → ⊥) → (n + l ≡ 32 → ⊥) → (n + l ≡ 40 → ⊥) → n + l ≡ 64) (λ h0 h1 h2 h3 h4 h5. absurd (h0 refl)) (λ h0 h1 h2 h3 h4 h5. absurd (h1 refl)) (λ h0 h1 h2 h3 h4 h5. absurd (h2 refl)) (λ h0 h1 h2 h3 h4 h5. absurd (h3 refl)) (λ h0 h1 h2 h3 h4 h5. absurd (h4 refl)) (λ h0 h1 h2 h3 h4 h5. absurd (h5 refl)) (λ h0 h1 h2 h3 h4 h5. refl) 8 n l h

pub last-4 : (n l : ℕ) → is_kernel 4 n l ≡ true → (n + l ≡ 16 → ⊥) → n + l ≡ 32
last-4 = four-cases (λ n l. (n + l ≡ 16 → ⊥) → n + l ≡ 32) (λ h0. absurd (h0 refl)) (λ h0. refl)

-- ---- what holds of n points and l live inputs, of the kernel's numbers
pub strip-so : {n l N L wide stride x rows k : ℕ} {c : List ℤ} → n ≡ N → l ≡ L → Strip l wide stride x rows c × (k ≡ wide * n) → Strip L wide stride x rows c × (k ≡ wide * N)
strip-so {n} {l} {N} {L} {wide} {stride} {x} {rows} {k} {c} e f g = (subst (λ (l : ℕ). Strip l wide stride x rows c) f g.0, g.1 ∙ ap (λ (n : ℕ). wide * n) e)

pub turned_so : {n N : ℕ} {m : List ℤ} (wide stride x rows : ℕ) (c : List ℤ) → n ≡ N → Turned (min N 8) wide N (λ i y. middle short_range (strip_sum N stride x rows c i y)) m
    → Turned (min n 8) wide n (λ i y. middle short_range (strip_sum n stride x rows c i y)) m
turned_so {n} {N} {m} wide stride x rows c e t = subst (λ (n : ℕ). Turned (min n 8) wide n (λ i y. middle short_range (strip_sum n stride x rows c i y)) m) (sym e) t

pub rows-so : {n l N L tall apart shift k : ℕ} {half half' : ℤ} {m : List ℤ} → n ≡ N → l ≡ L → half' ≡ half → Rowed l tall apart half shift m → k ≡ tall * n
    → Rowed L tall apart half' shift m × (k ≡ tall * N)
rows-so {n} {l} {N} {L} {tall} {apart} {shift} {k} {half} {half'} {m} e f q g p =
    (subst (λ (z : ℤ). Rowed L tall apart z shift m) (sym q) (subst (λ (l : ℕ). Rowed l tall apart half shift m) f g), p ∙ ap (λ (n : ℕ). tall * n) e)

pub rowed-so : {n l N L : ℕ} {half half' : ℤ} {k : List ℤ} (tall apart shift : ℕ) (m : List ℤ) → n ≡ N → l ≡ L → half' ≡ half → k ≡ block N tall (λ j i. shifted half' shift (rows_sum N L tall apart m j i))
    → k ≡ block n tall (λ j i. shifted half shift (rows_sum n l tall apart m j i))
rowed-so tall apart shift m e f q g = g ∙ (λ t. block (sym e t) tall (λ j i. shifted (q t) shift (rows_sum (sym e t) (sym f t) tall apart m j i)))
