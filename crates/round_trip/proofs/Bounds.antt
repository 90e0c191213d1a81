-- Sizes of the sums that `column_product` and `stray` make, and what `weight` hands out inside the matrix. Assumes nothing.
use mathlib.Core.Path.{◌≡◌, ap, ◌∙◌}
use mathlib.Core.Bool.{Bool, true, cond, ◌&&◌}
use Prim.Native.Nat.{ℕ, ◌+◌, ◌*◌, ◌≤◌, ◌<◌}
use native.Mathlib.Nat.{le_refl, le_trans, mul-le-mul}
use native.Mathlib.Omega.{arith}
use borrow.Author.Tests.{ltb-true, lt-ltb}
use lib.Dec.{eqb, ltb}
use lib.IntN.{ℤ, pos, nat_abs, neg_ℤ, ◌+ℤ◌, ◌*ℤ◌}
use mir.Syntax.{w32}
use mir.Val.{to_z, of_z}
use mir.ValLaws.{to_z-of_z}
use Rattle.algebra.specs.Sum.{sum, sumℕ}
use Rattle.algebra.proofs.Order.{abs-add, abs-mul, abs_neg}
use Rattle.algebra.proofs.Sum.{sum-in, sum-next, sumℕ-mono, sumℕ-const}
use Rattle.algebra.proofs.Word.{small}
use Rattle.meaning.specs.Weights.{weight}
use Rattle.meaning.specs.Shape.{is_size, is_kind}
use Rattle.meaning.proofs.Cases.{and_cases, size_in, pick}
use Rattle.meaning.proofs.Sizes.{weight_size, even-places}
use Rattle.line.specs.Line.{is_place, weight_or_zero}
use Rattle.round_trip.specs.RoundTrip.{G, less, is_column}

-- the first i products of columns j and k
abbrev pub products : ℕ → ℕ → ℕ → ℕ → ℕ → ℤ
products kind n j k i = sum i (λ i. weight kind n i j *ℤ weight kind n i k)

pub products-next : (kind n j k i : ℕ) → products kind n j k (i + 1) ≡ products kind n j k i +ℤ weight kind n i j *ℤ weight kind n i k
products-next kind n j k i = sum-next i (λ i. weight kind n i j *ℤ weight kind n i k)

module _ (kind n j k : ℕ) (size : is_size n ≡ true) where
  abbrev light : (i j : ℕ) → nat_abs (weight kind n i j) ≤ 90
  light = weight_size kind n (even-places n size)

  pub products-in : (i : ℕ) → nat_abs (products kind n j k i) ≤ i * 8100
  products-in i =
      sum-in i (λ i. weight kind n i j *ℤ weight kind n i k) 8100
      (λ i _. rw (abs-mul (weight kind n i j) (weight kind n i k)) (mul-le-mul (light i j) (light i k)))

  -- as bits
  pub reads : {bits i : ℕ} → bits ≡ of_z w32 (products kind n j k i) → i ≤ 32 → to_z w32 bits ≡ products kind n j k i
  reads {i = i} e l = ap (to_z w32) e ∙ to_z-of_z w32 (products kind n j k i) (small {B = 259200} (omega arith) (omega (arith, products-in i)))

  few : n ≤ 32
  few = size_in n size

  pub G-in : nat_abs (G kind n j k) ≤ 259200
  unfolding G
  G-in = omega (arith, few, products-in n)

  pub less-in : nat_abs (less kind n j k) ≤ 390272
  unfolding less
  less-in =
      let e = cond (eqb k j) (pos (4096 * n)) (pos 0) in
      let b : nat_abs e ≤ 131072 = pick (λ (z : ℤ). nat_abs z ≤ 131072) (eqb k j) (omega (arith, few)) (omega arith) in
      omega (arith, abs-add (G kind n j k) (neg_ℤ e), abs_neg e, G-in)

-- what a place and a column say
pub record Place (kind n j k : ℕ) : Type 0 where
  pub known : is_kind kind ≡ true
  pub size : is_size n ≡ true
  pub few : n ≤ 32
  pub row : j < n
  pub column : k < n

pub place : (kind n j k : ℕ) → is_place kind n j k ≡ true → Place kind n j k
place kind n j k e =
    let a = and_cases (is_kind kind) (is_size n && (ltb j n && ltb k n)) e in
    let b = and_cases (is_size n) (ltb j n && ltb k n) a.1 in
    let d = and_cases (ltb j n) (ltb k n) b.1 in
    record { known = a.0; size = b.0; few = size_in n b.0; row = ltb-true j n d.0; column = ltb-true k n d.1 }

-- a column that there is, with another
pub column-place : (kind n j k : ℕ) → is_column kind n j ≡ true → k < n → is_place kind n j k ≡ true
column-place kind n j k e h =
    let a = and_cases (is_kind kind) (is_size n && ltb j n) e in
    let b = and_cases (is_size n) (ltb j n) a.1 in
    rw (a.0, b.0, b.1, lt-ltb k n h)

pub column-size : (kind n j : ℕ) → is_column kind n j ≡ true → is_size n ≡ true
column-size kind n j e =
    let a = and_cases (is_kind kind) (is_size n && ltb j n) e in
    (and_cases (is_size n) (ltb j n) a.1).0

pub column-in : (kind n j : ℕ) → is_column kind n j ≡ true → j < n
column-in kind n j e =
    let a = and_cases (is_kind kind) (is_size n && ltb j n) e in
    ltb-true j n (and_cases (is_size n) (ltb j n) a.1).1

-- inside the matrix
pub inside : (kind n : ℕ) → is_kind kind ≡ true → is_size n ≡ true → (i j : ℕ) → i < n → j < n → is_place kind n i j ≡ true
inside kind n k s i j p q = rw (k, s, lt-ltb i n p, lt-ltb j n q)

pub weight-there : (kind n : ℕ) → is_kind kind ≡ true → is_size n ≡ true → (i j : ℕ) → i < n → j < n → weight_or_zero kind n i j ≡ weight kind n i j
weight-there kind n k s i j p q = ap (λ (b : Bool). cond b (weight kind n i j) (pos 0)) (inside kind n k s i j p q)

-- the first m sizes
pub sizes-in : (kind n j m : ℕ) → is_size n ≡ true → sumℕ m (λ k. nat_abs (less kind n j k)) ≤ m * 390272
sizes-in kind n j m s =
    le_trans (sumℕ-mono m (λ k. nat_abs (less kind n j k)) (λ k. 390272) (λ k _. less-in kind n j k s)) (rw (sumℕ-const m 390272) (le_refl (m * 390272)))
