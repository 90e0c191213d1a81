-- Made by crates/kernel_levels/make; do not edit. The stored weights, each with its rule by one computed test. Assumes nothing.
use mathlib.Core.Path.{refl}
use mathlib.Core.List.{List, [], ◌∷◌}
use lib.IntN.{ℤ, pos, negsuc}
use Rattle.meaning.specs.Weights.{cosines, turn, dct2, weight}
use Rattle.halves.specs.Halves.{odd}
use Rattle.kernel_levels.proofs.Levels.{StoredWeights, stored-first, stored-odd}

abbrev pub first-2-2 : List ℤ
first-2-2 = pos 64 ∷ pos 64 ∷ pos 64 ∷ negsuc 63 ∷ []

pub first-2-2-right : StoredWeights 2 1 (weight 0 2) first-2-2
unfolding cosines turn dct2 weight
first-2-2-right = stored-first 1 first-2-2 tt tt refl

abbrev pub odd-16-2 : List ℤ
odd-16-2 = pos 90 ∷ pos 87 ∷ pos 87 ∷ pos 57 ∷ pos 80 ∷ pos 9 ∷ pos 70 ∷ negsuc 42 ∷ pos 57 ∷ negsuc 79 ∷ pos 43 ∷ negsuc 89 ∷ pos 25 ∷ negsuc 69 ∷ pos 9 ∷ negsuc 24 ∷ []

pub odd-16-2-right : StoredWeights 8 1 (odd 16) odd-16-2
unfolding cosines turn dct2 weight
odd-16-2-right = stored-odd 16 8 1 odd-16-2 tt tt refl

abbrev pub odd-16-8 : List ℤ
odd-16-8 = pos 90 ∷ pos 87 ∷ pos 87 ∷ pos 57 ∷ pos 80 ∷ pos 9 ∷ pos 70 ∷ negsuc 42 ∷ pos 57 ∷ negsuc 79 ∷ pos 43 ∷ negsuc 89 ∷ pos 25 ∷ negsuc 69 ∷ pos 9 ∷ negsuc 24 ∷ pos 80 ∷ pos 70 ∷ pos 9 ∷ negsuc 42 ∷ negsuc 69 ∷ negsuc 86 ∷ negsuc 86 ∷ pos 9 ∷ negsuc 24 ∷ pos 90 ∷ pos 57 ∷ pos 25 ∷ pos 90 ∷ negsuc 79 ∷ pos 43 ∷ negsuc 56 ∷ pos 57 ∷ pos 43 ∷ negsuc 79 ∷ negsuc 89 ∷ negsuc 24 ∷ pos 57 ∷ pos 90 ∷ pos 25 ∷ negsuc 8 ∷ negsuc 86 ∷ negsuc 86 ∷ pos 70 ∷ pos 43 ∷ pos 9 ∷ pos 70 ∷ negsuc 79 ∷ pos 25 ∷ pos 9 ∷ negsuc 69 ∷ negsuc 24 ∷ pos 90 ∷ pos 43 ∷ negsuc 79 ∷ negsuc 56 ∷ pos 43 ∷ pos 70 ∷ pos 9 ∷ negsuc 79 ∷ negsuc 56 ∷ pos 87 ∷ pos 87 ∷ negsuc 89 ∷ []

pub odd-16-8-right : StoredWeights 8 4 (odd 16) odd-16-8
unfolding cosines turn dct2 weight
odd-16-8-right = stored-odd 16 8 4 odd-16-8 tt tt refl

abbrev pub odd-32-16 : List ℤ
odd-32-16 = pos 90 ∷ pos 90 ∷ pos 90 ∷ pos 82 ∷ pos 88 ∷ pos 67 ∷ pos 85 ∷ pos 46 ∷ pos 82 ∷ pos 22 ∷ pos 78 ∷ negsuc 3 ∷ pos 73 ∷ negsuc 30 ∷ pos 67 ∷ negsuc 53 ∷ pos 61 ∷ negsuc 72 ∷ pos 54 ∷ negsuc 84 ∷ pos 46 ∷ negsuc 89 ∷ pos 38 ∷ negsuc 87 ∷ pos 31 ∷ negsuc 77 ∷ pos 22 ∷ negsuc 60 ∷ pos 13 ∷ negsuc 37 ∷ pos 4 ∷ negsuc 12 ∷ pos 88 ∷ pos 85 ∷ pos 67 ∷ pos 46 ∷ pos 31 ∷ negsuc 12 ∷ negsuc 12 ∷ negsuc 66 ∷ negsuc 53 ∷ negsuc 89 ∷ negsuc 81 ∷ negsuc 72 ∷ negsuc 89 ∷ negsuc 21 ∷ negsuc 77 ∷ pos 38 ∷ negsuc 45 ∷ pos 82 ∷ negsuc 3 ∷ pos 88 ∷ pos 38 ∷ pos 54 ∷ pos 73 ∷ negsuc 3 ∷ pos 90 ∷ negsuc 60 ∷ pos 85 ∷ negsuc 89 ∷ pos 61 ∷ negsuc 77 ∷ pos 22 ∷ negsuc 30 ∷ pos 82 ∷ pos 78 ∷ pos 22 ∷ negsuc 3 ∷ negsuc 53 ∷ negsuc 81 ∷ negsuc 89 ∷ negsuc 72 ∷ negsuc 60 ∷ pos 13 ∷ pos 13 ∷ pos 85 ∷ pos 78 ∷ pos 67 ∷ pos 85 ∷ negsuc 21 ∷ pos 31 ∷ negsuc 87 ∷ negsuc 45 ∷ negsuc 60 ∷ negsuc 89 ∷ pos 31 ∷ negsuc 66 ∷ pos 90 ∷ pos 4 ∷ pos 54 ∷ pos 73 ∷ negsuc 37 ∷ pos 88 ∷ negsuc 89 ∷ pos 38 ∷ negsuc 45 ∷ pos 73 ∷ pos 67 ∷ negsuc 30 ∷ negsuc 53 ∷ negsuc 89 ∷ negsuc 77 ∷ negsuc 21 ∷ pos 38 ∷ pos 78 ∷ pos 85 ∷ pos 67 ∷ negsuc 21 ∷ negsuc 37 ∷ negsuc 89 ∷ negsuc 89 ∷ pos 4 ∷ negsuc 12 ∷ pos 90 ∷ pos 82 ∷ pos 13 ∷ pos 61 ∷ negsuc 87 ∷ negsuc 45 ∷ negsuc 30 ∷ negsuc 87 ∷ pos 82 ∷ negsuc 3 ∷ pos 46 ∷ pos 85 ∷ negsuc 72 ∷ pos 54 ∷ negsuc 60 ∷ pos 61 ∷ pos 54 ∷ negsuc 72 ∷ negsuc 84 ∷ negsuc 45 ∷ negsuc 3 ∷ pos 82 ∷ pos 88 ∷ pos 31 ∷ negsuc 45 ∷ negsuc 87 ∷ negsuc 60 ∷ negsuc 12 ∷ pos 82 ∷ pos 90 ∷ pos 13 ∷ negsuc 3 ∷ negsuc 89 ∷ negsuc 89 ∷ pos 38 ∷ pos 22 ∷ pos 67 ∷ pos 85 ∷ negsuc 77 ∷ negsuc 37 ∷ negsuc 21 ∷ negsuc 77 ∷ pos 90 ∷ pos 54 ∷ negsuc 30 ∷ pos 67 ∷ negsuc 72 ∷ pos 46 ∷ pos 38 ∷ negsuc 89 ∷ negsuc 87 ∷ pos 38 ∷ pos 73 ∷ pos 54 ∷ negsuc 3 ∷ negsuc 89 ∷ negsuc 66 ∷ pos 31 ∷ pos 90 ∷ pos 61 ∷ negsuc 45 ∷ negsuc 87 ∷ negsuc 30 ∷ pos 22 ∷ pos 85 ∷ pos 67 ∷ negsuc 77 ∷ negsuc 84 ∷ pos 13 ∷ pos 13 ∷ pos 61 ∷ pos 73 ∷ negsuc 89 ∷ negsuc 81 ∷ pos 54 ∷ pos 4 ∷ pos 22 ∷ pos 78 ∷ negsuc 81 ∷ pos 31 ∷ pos 22 ∷ negsuc 77 ∷ negsuc 60 ∷ pos 90 ∷ pos 85 ∷ negsuc 60 ∷ negsuc 89 ∷ pos 4 ∷ pos 73 ∷ pos 54 ∷ negsuc 37 ∷ negsuc 87 ∷ negsuc 3 ∷ pos 82 ∷ pos 46 ∷ negsuc 37 ∷ negsuc 77 ∷ negsuc 21 ∷ pos 90 ∷ pos 73 ∷ negsuc 81 ∷ negsuc 89 ∷ pos 54 ∷ pos 67 ∷ negsuc 12 ∷ negsuc 12 ∷ negsuc 30 ∷ negsuc 45 ∷ pos 67 ∷ pos 85 ∷ negsuc 87 ∷ pos 13 ∷ pos 4 ∷ negsuc 37 ∷ negsuc 12 ∷ pos 61 ∷ pos 22 ∷ negsuc 77 ∷ negsuc 30 ∷ pos 88 ∷ pos 38 ∷ negsuc 89 ∷ negsuc 45 ∷ pos 85 ∷ pos 54 ∷ negsuc 72 ∷ negsuc 60 ∷ pos 54 ∷ pos 67 ∷ negsuc 30 ∷ negsuc 72 ∷ pos 4 ∷ pos 78 ∷ pos 22 ∷ negsuc 81 ∷ negsuc 45 ∷ pos 85 ∷ pos 67 ∷ negsuc 87 ∷ negsuc 81 ∷ pos 90 ∷ pos 90 ∷ negsuc 89 ∷ []

pub odd-32-16-right : StoredWeights 16 8 (odd 32) odd-32-16
unfolding cosines turn dct2 weight
odd-32-16-right = stored-odd 32 16 8 odd-32-16 tt tt refl

abbrev pub odd-32-4 : List ℤ
odd-32-4 = pos 90 ∷ pos 90 ∷ pos 90 ∷ pos 82 ∷ pos 88 ∷ pos 67 ∷ pos 85 ∷ pos 46 ∷ pos 82 ∷ pos 22 ∷ pos 78 ∷ negsuc 3 ∷ pos 73 ∷ negsuc 30 ∷ pos 67 ∷ negsuc 53 ∷ pos 61 ∷ negsuc 72 ∷ pos 54 ∷ negsuc 84 ∷ pos 46 ∷ negsuc 89 ∷ pos 38 ∷ negsuc 87 ∷ pos 31 ∷ negsuc 77 ∷ pos 22 ∷ negsuc 60 ∷ pos 13 ∷ negsuc 37 ∷ pos 4 ∷ negsuc 12 ∷ pos 88 ∷ pos 85 ∷ pos 67 ∷ pos 46 ∷ pos 31 ∷ negsuc 12 ∷ negsuc 12 ∷ negsuc 66 ∷ negsuc 53 ∷ negsuc 89 ∷ negsuc 81 ∷ negsuc 72 ∷ negsuc 89 ∷ negsuc 21 ∷ negsuc 77 ∷ pos 38 ∷ negsuc 45 ∷ pos 82 ∷ negsuc 3 ∷ pos 88 ∷ pos 38 ∷ pos 54 ∷ pos 73 ∷ negsuc 3 ∷ pos 90 ∷ negsuc 60 ∷ pos 85 ∷ negsuc 89 ∷ pos 61 ∷ negsuc 77 ∷ pos 22 ∷ negsuc 30 ∷ []

pub odd-32-4-right : StoredWeights 16 2 (odd 32) odd-32-4
unfolding cosines turn dct2 weight
odd-32-4-right = stored-odd 32 16 2 odd-32-4 tt tt refl

abbrev pub odd-4-2 : List ℤ
odd-4-2 = pos 83 ∷ pos 36 ∷ pos 36 ∷ negsuc 82 ∷ []

pub odd-4-2-right : StoredWeights 2 1 (odd 4) odd-4-2
unfolding cosines turn dct2 weight
odd-4-2-right = stored-odd 4 2 1 odd-4-2 tt tt refl

abbrev pub odd-8-2 : List ℤ
odd-8-2 = pos 89 ∷ pos 75 ∷ pos 75 ∷ negsuc 17 ∷ pos 50 ∷ negsuc 88 ∷ pos 18 ∷ negsuc 49 ∷ []

pub odd-8-2-right : StoredWeights 4 1 (odd 8) odd-8-2
unfolding cosines turn dct2 weight
odd-8-2-right = stored-odd 8 4 1 odd-8-2 tt tt refl

abbrev pub odd-8-4 : List ℤ
odd-8-4 = pos 89 ∷ pos 75 ∷ pos 75 ∷ negsuc 17 ∷ pos 50 ∷ negsuc 88 ∷ pos 18 ∷ negsuc 49 ∷ pos 50 ∷ pos 18 ∷ negsuc 88 ∷ negsuc 49 ∷ pos 18 ∷ pos 75 ∷ pos 75 ∷ negsuc 88 ∷ []

pub odd-8-4-right : StoredWeights 4 2 (odd 8) odd-8-4
unfolding cosines turn dct2 weight
odd-8-4-right = stored-odd 8 4 2 odd-8-4 tt tt refl
