-- Which lines there are, and their weights in a room. Assumes nothing.
use native.Mathlib.Omega.{arith}
use mathlib.Core.Path.{◌≡◌, refl, sym}
use mathlib.Core.Bool.{true, false}
use mathlib.Core.List.{List}
use Prim.Native.Nat.{ℕ, ◌+◌, ◌*◌, ◌/◌, ◌≤◌, min}
use native.Mathlib.Nat.{le_refl, mul-le-mul}
use lib.IntN.{ℤ}
use Rattle.meaning.specs.Shape.{is_size, has_line}
use Rattle.meaning.specs.Weights.{weight, dct2}
use Rattle.meaning.proofs.Cases.{size_in, has-cases}
use Rattle.meaning.proofs.ThreeKinds.{is-dct2}
use Rattle.product.specs.Product.{Laid}
use Rattle.product.proofs.Laid.{laid-less}
use Rattle.stage_weights.specs.Stage.{Front, Weights}
use Rattle.stage_weights.proofs.Rooms.{front}
use Rattle.transform_stages.specs.Work.{LineWeights}

-- a line is 2 or 64 points of kind 0, or of a size
pub size-left : (kind n : ℕ) → has_line kind n ≡ true → (n ≡ 64 → ⊥) → (n ≡ 2 → ⊥) → is_size n ≡ true
unfolding is_size
size-left =
    has-cases (λ kind n. (n ≡ 64 → ⊥) → (n ≡ 2 → ⊥) → is_size n ≡ true) (λ a b. refl) (λ a b. refl) (λ a b. refl) (λ a b. refl) (λ a b. refl) (λ a b. refl) (λ a b. refl) (λ a b. refl)
    (λ a b. absurd (b refl)) (λ a b. refl) (λ a b. refl) (λ a b. refl) (λ a b. refl) (λ a b. absurd (a refl))

pub kind-of-64 : (kind n : ℕ) → has_line kind n ≡ true → n ≡ 64 → kind ≡ 0
kind-of-64 =
    has-cases (λ kind n. n ≡ 64 → kind ≡ 0) (λ e. omega arith) (λ e. omega arith) (λ e. omega arith) (λ e. omega arith) (λ e. omega arith) (λ e. omega arith) (λ e. omega arith) (λ e. omega arith)
    (λ e. refl) (λ e. refl) (λ e. refl) (λ e. refl) (λ e. refl) (λ e. refl)

pub kind-of-2 : (kind n : ℕ) → has_line kind n ≡ true → n ≡ 2 → kind ≡ 0
kind-of-2 =
    has-cases (λ kind n. n ≡ 2 → kind ≡ 0) (λ e. omega arith) (λ e. omega arith) (λ e. omega arith) (λ e. omega arith) (λ e. omega arith) (λ e. omega arith) (λ e. omega arith) (λ e. omega arith)
    (λ e. refl) (λ e. refl) (λ e. refl) (λ e. refl) (λ e. refl) (λ e. refl)

-- every line has an even number of points
pub line-even : (kind n : ℕ) → has_line kind n ≡ true → 2 * (n / 2) ≡ n
line-even = has-cases (λ kind n. 2 * (n / 2) ≡ n) refl refl refl refl refl refl refl refl refl refl refl refl refl refl

-- so as many pairs as reach over k inputs are there
pub pairs-in : (kind n k : ℕ) → has_line kind n ≡ true → k ≤ min n 32 → 2 * ((k + 1) / 2) ≤ min n 32
pairs-in kind n k l h = omega (arith, line-even kind n l)

-- ---- weights
-- of kind 0, the first pairs of what is laid
pub of-dct2 : (kind : ℕ) → kind ≡ 0 → (n all : ℕ) {t : List ℤ} → Laid n all 2 (2 * n) (dct2 n) t → (pairs : ℕ) → pairs ≤ all → Laid n pairs 2 (2 * n) (λ i j. weight kind n i j) t
of-dct2 kind e n all z pairs l = laid-less (le_refl n) l (λ i j h g. sym (is-dct2 kind e n i j)) z

-- of a size, copied to a larger room
pub of_size : (kind n : ℕ) → is_size n ≡ true → {room : ℕ} {t r : List ℤ} → Weights 1024 n false kind n t → 1024 ≤ room → Front room r t → LineWeights kind n r
of_size kind n s w l f pairs h =
    let a : pairs ≤ 16 = omega arith in
    let b : 2 * n ≤ 64 = omega (arith, size_in n s) in
    let m : pairs * (2 * n) ≤ 16 * 64 = mul-le-mul a b in
    front (w pairs (omega arith) (omega arith)) f pairs (omega arith) (omega arith)
