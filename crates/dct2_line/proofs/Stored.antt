-- The stored weights as the checker reads them, and each table's rule by one computed test. Assumes nothing.
use mathlib.Core.Path.{refl}
use mathlib.Core.List.{List, [], ◌∷◌}
use lib.IntN.{ℤ, pos, negsuc}
use Rattle.meaning.specs.Weights.{cosines, turn, dct2, weight}
use Rattle.halves.specs.Halves.{odd}
use Rattle.halves.proofs.Tables.{odd-size}
use Rattle.dct2_line.specs.Lines.{Half}
use Rattle.dct2_line.proofs.HalfRows.{half-by}

abbrev odd8 : List ℤ
odd8 =
    pos 89 ∷ pos 75 ∷ pos 75 ∷ negsuc 17 ∷ pos 50 ∷ negsuc 88 ∷ pos 18 ∷ negsuc 49 ∷
    pos 50 ∷ pos 18 ∷ negsuc 88 ∷ negsuc 49 ∷ pos 18 ∷ pos 75 ∷ pos 75 ∷ negsuc 88 ∷ []

pub table-odd8 : Half (odd 8) 4 odd8
unfolding cosines turn dct2 weight
table-odd8 = half-by (odd 8) (odd-size 8 refl) 4 2 odd8 refl tt tt refl

abbrev odd16 : List ℤ
odd16 =
    pos 90 ∷ pos 87 ∷ pos 87 ∷ pos 57 ∷ pos 80 ∷ pos 9 ∷ pos 70 ∷ negsuc 42 ∷ pos 57 ∷ negsuc 79 ∷ pos 43 ∷ negsuc 89 ∷ pos 25 ∷ negsuc 69 ∷ pos 9 ∷ negsuc 24 ∷
    pos 80 ∷ pos 70 ∷ pos 9 ∷ negsuc 42 ∷ negsuc 69 ∷ negsuc 86 ∷ negsuc 86 ∷ pos 9 ∷ negsuc 24 ∷ pos 90 ∷ pos 57 ∷ pos 25 ∷ pos 90 ∷ negsuc 79 ∷ pos 43 ∷ negsuc 56 ∷
    pos 57 ∷ pos 43 ∷ negsuc 79 ∷ negsuc 89 ∷ negsuc 24 ∷ pos 57 ∷ pos 90 ∷ pos 25 ∷ negsuc 8 ∷ negsuc 86 ∷ negsuc 86 ∷ pos 70 ∷ pos 43 ∷ pos 9 ∷ pos 70 ∷ negsuc 79 ∷
    pos 25 ∷ pos 9 ∷ negsuc 69 ∷ negsuc 24 ∷ pos 90 ∷ pos 43 ∷ negsuc 79 ∷ negsuc 56 ∷ pos 43 ∷ pos 70 ∷ pos 9 ∷ negsuc 79 ∷ negsuc 56 ∷ pos 87 ∷ pos 87 ∷ negsuc 89 ∷ []

pub table-odd16 : Half (odd 16) 8 odd16
unfolding cosines turn dct2 weight
table-odd16 = half-by (odd 16) (odd-size 16 refl) 8 4 odd16 refl tt tt refl

abbrev odd32 : List ℤ
odd32 =
    pos 90 ∷ pos 90 ∷ pos 90 ∷ pos 82 ∷ pos 88 ∷ pos 67 ∷ pos 85 ∷ pos 46 ∷ pos 82 ∷ pos 22 ∷ pos 78 ∷ negsuc 3 ∷ pos 73 ∷ negsuc 30 ∷ pos 67 ∷ negsuc 53 ∷ pos 61 ∷ negsuc 72 ∷ pos 54 ∷ negsuc 84 ∷ pos 46 ∷ negsuc 89 ∷ pos 38 ∷ negsuc 87 ∷ pos 31 ∷ negsuc 77 ∷ pos 22 ∷ negsuc 60 ∷ pos 13 ∷ negsuc 37 ∷ pos 4 ∷ negsuc 12 ∷
    pos 88 ∷ pos 85 ∷ pos 67 ∷ pos 46 ∷ pos 31 ∷ negsuc 12 ∷ negsuc 12 ∷ negsuc 66 ∷ negsuc 53 ∷ negsuc 89 ∷ negsuc 81 ∷ negsuc 72 ∷ negsuc 89 ∷ negsuc 21 ∷ negsuc 77 ∷ pos 38 ∷ negsuc 45 ∷ pos 82 ∷ negsuc 3 ∷ pos 88 ∷ pos 38 ∷ pos 54 ∷ pos 73 ∷ negsuc 3 ∷ pos 90 ∷ negsuc 60 ∷ pos 85 ∷ negsuc 89 ∷ pos 61 ∷ negsuc 77 ∷ pos 22 ∷ negsuc 30 ∷
    pos 82 ∷ pos 78 ∷ pos 22 ∷ negsuc 3 ∷ negsuc 53 ∷ negsuc 81 ∷ negsuc 89 ∷ negsuc 72 ∷ negsuc 60 ∷ pos 13 ∷ pos 13 ∷ pos 85 ∷ pos 78 ∷ pos 67 ∷ pos 85 ∷ negsuc 21 ∷ pos 31 ∷ negsuc 87 ∷ negsuc 45 ∷ negsuc 60 ∷ negsuc 89 ∷ pos 31 ∷ negsuc 66 ∷ pos 90 ∷ pos 4 ∷ pos 54 ∷ pos 73 ∷ negsuc 37 ∷ pos 88 ∷ negsuc 89 ∷ pos 38 ∷ negsuc 45 ∷
    pos 73 ∷ pos 67 ∷ negsuc 30 ∷ negsuc 53 ∷ negsuc 89 ∷ negsuc 77 ∷ negsuc 21 ∷ pos 38 ∷ pos 78 ∷ pos 85 ∷ pos 67 ∷ negsuc 21 ∷ negsuc 37 ∷ negsuc 89 ∷ negsuc 89 ∷ pos 4 ∷ negsuc 12 ∷ pos 90 ∷ pos 82 ∷ pos 13 ∷ pos 61 ∷ negsuc 87 ∷ negsuc 45 ∷ negsuc 30 ∷ negsuc 87 ∷ pos 82 ∷ negsuc 3 ∷ pos 46 ∷ pos 85 ∷ negsuc 72 ∷ pos 54 ∷ negsuc 60 ∷
    pos 61 ∷ pos 54 ∷ negsuc 72 ∷ negsuc 84 ∷ negsuc 45 ∷ negsuc 3 ∷ pos 82 ∷ pos 88 ∷ pos 31 ∷ negsuc 45 ∷ negsuc 87 ∷ negsuc 60 ∷ negsuc 12 ∷ pos 82 ∷ pos 90 ∷ pos 13 ∷ negsuc 3 ∷ negsuc 89 ∷ negsuc 89 ∷ pos 38 ∷ pos 22 ∷ pos 67 ∷ pos 85 ∷ negsuc 77 ∷ negsuc 37 ∷ negsuc 21 ∷ negsuc 77 ∷ pos 90 ∷ pos 54 ∷ negsuc 30 ∷ pos 67 ∷ negsuc 72 ∷
    pos 46 ∷ pos 38 ∷ negsuc 89 ∷ negsuc 87 ∷ pos 38 ∷ pos 73 ∷ pos 54 ∷ negsuc 3 ∷ negsuc 89 ∷ negsuc 66 ∷ pos 31 ∷ pos 90 ∷ pos 61 ∷ negsuc 45 ∷ negsuc 87 ∷ negsuc 30 ∷ pos 22 ∷ pos 85 ∷ pos 67 ∷ negsuc 77 ∷ negsuc 84 ∷ pos 13 ∷ pos 13 ∷ pos 61 ∷ pos 73 ∷ negsuc 89 ∷ negsuc 81 ∷ pos 54 ∷ pos 4 ∷ pos 22 ∷ pos 78 ∷ negsuc 81 ∷
    pos 31 ∷ pos 22 ∷ negsuc 77 ∷ negsuc 60 ∷ pos 90 ∷ pos 85 ∷ negsuc 60 ∷ negsuc 89 ∷ pos 4 ∷ pos 73 ∷ pos 54 ∷ negsuc 37 ∷ negsuc 87 ∷ negsuc 3 ∷ pos 82 ∷ pos 46 ∷ negsuc 37 ∷ negsuc 77 ∷ negsuc 21 ∷ pos 90 ∷ pos 73 ∷ negsuc 81 ∷ negsuc 89 ∷ pos 54 ∷ pos 67 ∷ negsuc 12 ∷ negsuc 12 ∷ negsuc 30 ∷ negsuc 45 ∷ pos 67 ∷ pos 85 ∷ negsuc 87 ∷
    pos 13 ∷ pos 4 ∷ negsuc 37 ∷ negsuc 12 ∷ pos 61 ∷ pos 22 ∷ negsuc 77 ∷ negsuc 30 ∷ pos 88 ∷ pos 38 ∷ negsuc 89 ∷ negsuc 45 ∷ pos 85 ∷ pos 54 ∷ negsuc 72 ∷ negsuc 60 ∷ pos 54 ∷ pos 67 ∷ negsuc 30 ∷ negsuc 72 ∷ pos 4 ∷ pos 78 ∷ pos 22 ∷ negsuc 81 ∷ negsuc 45 ∷ pos 85 ∷ pos 67 ∷ negsuc 87 ∷ negsuc 81 ∷ pos 90 ∷ pos 90 ∷ negsuc 89 ∷ []

pub table-odd32 : Half (odd 32) 16 odd32
unfolding cosines turn dct2 weight
table-odd32 = half-by (odd 32) (odd-size 32 refl) 16 8 odd32 refl tt tt refl
