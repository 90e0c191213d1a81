-- The weights of kind 0 obey the law of halves, by one computed test for each size. Assumes nothing.
use mathlib.Core.Path.{◌≡◌, refl}
use mathlib.Core.Bool.{Bool, true, ◌&&◌}
use Prim.Native.Nat.{ℕ, ◌+◌, ◌*◌, ◌-◌, ◌/◌, ◌<◌}
use lib.Dec.{T}
use lib.IntN.{neg_ℤ}
use Rattle.algebra.specs.Equal.{eq_z}
use Rattle.algebra.proofs.Table.{all_to, all_to-at, and_left, and_right, eq_z→eq}
use Rattle.meaning.specs.Weights.{cosines, turn, dct2, weight}
use Rattle.meaning.specs.Shape.{is_size}
use Rattle.meaning.proofs.Cases.{size-cases}
use Rattle.halves.specs.Halves.{Halves}

module _ (n h : ℕ) where
  abbrev even_at : ℕ → ℕ → Bool
  even_at i j = eq_z (weight 0 n (2 * i) j) (weight 0 h i j)

  abbrev mirrored_at : ℕ → ℕ → Bool
  mirrored_at i j = eq_z (weight 0 n (2 * i) (n - 1 - j)) (weight 0 n (2 * i) j)

  abbrev turned_at : ℕ → ℕ → Bool
  turned_at i j = eq_z (weight 0 n (2 * i + 1) (n - 1 - j)) (neg_ℤ (weight 0 n (2 * i + 1) j))

  abbrev halved : Bool
  halved = all_to h (λ i. all_to h (λ j. even_at i j && (mirrored_at i j && turned_at i j)))

  by-test : n ≡ h + h → T halved → Halves n h
  by-test e t =
      record {
        doubled = e;
        even = λ i j hi hj. eq_z→eq (weight 0 n (2 * i) j) (weight 0 h i j) (and_left (even_at i j) (mirrored_at i j && turned_at i j) (here i j hi hj));
        mirrored = λ i j hi hj. eq_z→eq (weight 0 n (2 * i) (n - 1 - j)) (weight 0 n (2 * i) j) (and_left (mirrored_at i j) (turned_at i j) (and_right (even_at i j) (mirrored_at i j && turned_at i j) (here i j hi hj)));
        turned = λ i j hi hj. eq_z→eq (weight 0 n (2 * i + 1) (n - 1 - j)) (neg_ℤ (weight 0 n (2 * i + 1) j)) (and_right (mirrored_at i j) (turned_at i j) (and_right (even_at i j) (mirrored_at i j && turned_at i j) (here i j hi hj)));
      }
    where
      here : (i j : ℕ) → i < h → j < h → T (even_at i j && (mirrored_at i j && turned_at i j))
      here i j hi hj =
          all_to-at h (λ j. even_at i j && (mirrored_at i j && turned_at i j))
          (all_to-at h (λ i. all_to h (λ j. even_at i j && (mirrored_at i j && turned_at i j))) t i hi) j hj

-- each size by half of it
pub halves-4 : Halves 4 2
unfolding weight dct2 turn cosines
halves-4 = by-test 4 2 refl tt

pub halves-8 : Halves 8 4
unfolding weight dct2 turn cosines
halves-8 = by-test 8 4 refl tt

pub halves-16 : Halves 16 8
unfolding weight dct2 turn cosines
halves-16 = by-test 16 8 refl tt

pub halves-32 : Halves 32 16
unfolding weight dct2 turn cosines
halves-32 = by-test 32 16 refl tt

pub halves-64 : Halves 64 32
unfolding weight dct2 turn cosines
halves-64 = by-test 64 32 refl tt

pub halves : (n : ℕ) → is_size n ≡ true → Halves n (n / 2)
halves = size-cases (λ n. Halves n (n / 2)) halves-4 halves-8 halves-16 halves-32
