-- How many pairs a line takes: enough for what is read, at most 16, and no more inputs than its side has. Assumes nothing.
use native.Mathlib.Omega.{arith}
use mathlib.Core.Path.{◌≡◌, refl}
use mathlib.Core.Bool.{Bool, true, ◌&&◌}
use Prim.Native.Nat.{ℕ, ◌+◌, ◌*◌, ◌/◌, ◌≤◌, ◌<◌, min}
use lib.Dec.{T, leb, leb→le}
use Rattle.algebra.proofs.Table.{all_to, all_to-at, and_left, and_right}
use Rattle.meaning.specs.Shape.{has_line}
use Rattle.meaning.proofs.Cases.{has-cases, pick}
use Rattle.inverse_stage.specs.Given.{Paired}
use Rattle.transform_pairs.specs.Pairs.{pairs_of}

abbrev is_enough : ℕ → Bool
is_enough k = leb k (2 * pairs_of k) && (leb 1 (pairs_of k) && leb (pairs_of k) 16)

enough : T (all_to 33 is_enough)
unfolding pairs_of
enough = tt

module _ (k : ℕ) (few : k ≤ 32) where
  one : T (is_enough k)
  one = all_to-at 33 is_enough enough k (omega arith)

  pub within : k ≤ 2 * pairs_of k
  within = leb→le k (2 * pairs_of k) (and_left (leb k (2 * pairs_of k)) (leb 1 (pairs_of k) && leb (pairs_of k) 16) one)

  rest : T (leb 1 (pairs_of k) && leb (pairs_of k) 16)
  rest = and_right (leb k (2 * pairs_of k)) (leb 1 (pairs_of k) && leb (pairs_of k) 16) one

  pub some_pairs : 1 ≤ pairs_of k
  some_pairs = leb→le 1 (pairs_of k) (and_left (leb 1 (pairs_of k)) (leb (pairs_of k) 16) rest)

  pub few-pairs : pairs_of k ≤ 16
  few-pairs = leb→le (pairs_of k) 16 (and_right (leb 1 (pairs_of k)) (leb (pairs_of k) 16) rest)

  pub paired : Paired (2 * pairs_of k)
  paired = record { some = omega (arith, some_pairs); few = omega (arith, few-pairs); even = omega arith }

abbrev is_inside : ℕ → ℕ → Bool
is_inside n k = leb (2 * pairs_of k) n

inside : (kind n : ℕ) → has_line kind n ≡ true → T (all_to (min n 32 + 1) (is_inside n))
unfolding pairs_of
inside = has-cases (λ kind n. T (all_to (min n 32 + 1) (is_inside n))) tt tt tt tt tt tt tt tt tt tt tt tt tt tt

-- a side has as many inputs
pub in-side : (kind n k : ℕ) → has_line kind n ≡ true → k ≤ n → k ≤ 32 → 2 * pairs_of k ≤ n
in-side kind n k l h few = leb→le (2 * pairs_of k) n (all_to-at (min n 32 + 1) (is_inside n) (inside kind n l) k (omega arith))

-- the last branch
pub sixteen-pairs : (k : ℕ) → (pairs_of k ≡ 1 → ⊥) → (pairs_of k ≡ 2 → ⊥) → (pairs_of k ≡ 4 → ⊥) → (pairs_of k ≡ 8 → ⊥) → pairs_of k ≡ 16
unfolding pairs_of
sixteen-pairs k =
    let Last : ℕ → Type 0 = λ n. (n ≡ 1 → ⊥) → (n ≡ 2 → ⊥) → (n ≡ 4 → ⊥) → (n ≡ 8 → ⊥) → n ≡ 16 in
    pick Last (leb k 2) (λ a b c d. absurd (a refl)) (pick Last (leb k 4) (λ a b c d. absurd (b refl)) (pick Last (leb k 8) (λ a b c d. absurd (c refl)) (pick Last (leb k 16) (λ a b c d. absurd (d refl)) (λ a b c d. refl))))

-- .. with at most 16 inputs
pub eight-pairs : (k : ℕ) → 2 * pairs_of k ≤ 16 → (pairs_of k ≡ 1 → ⊥) → (pairs_of k ≡ 2 → ⊥) → (pairs_of k ≡ 4 → ⊥) → pairs_of k ≡ 8
unfolding pairs_of
eight-pairs k =
    let Last : ℕ → Type 0 = λ n. 2 * n ≤ 16 → (n ≡ 1 → ⊥) → (n ≡ 2 → ⊥) → (n ≡ 4 → ⊥) → n ≡ 8 in
    pick Last (leb k 2) (λ l a b c. absurd (a refl)) (pick Last (leb k 4) (λ l a b c. absurd (b refl)) (pick Last (leb k 8) (λ l a b c. absurd (c refl)) (pick Last (leb k 16) (λ l a b c. refl) (λ l a b c. absurd (omega arith)))))
