-- "Sharing between weights": one equation at 4 points, five at 16 and six at 32, of the first rows; and the table of
-- DCT-VIII's weights at 4 points (item 3 of the numbers).
use mathlib.Core.Path.{◌≡◌, refl}
use mathlib.Core.List.{List, [], ◌∷◌}
use Prim.Native.Nat.{ℕ, ◌+◌, ◌*◌, ◌-◌, ◌<◌}
use lib.Dec.{T, eqb, eqb→eq}
use lib.IntN.{ℤ, pos, negsuc}
use lib.ListN.{get_or}
use Rattle.algebra.specs.Lists.{at}
use Rattle.algebra.proofs.Table.{all_to, all_to-at, table_at}
use Rattle.meaning.specs.Weights.{first, fold, S, C}

-- s k of the first row at n points
abbrev pub s : ℕ → ℕ → ℕ
s n k = get_or (first n) k 0

-- "N=4: s1+s2=s4"
pub sharing4 : s 4 1 + s 4 2 ≡ s 4 4
unfolding first
sharing4 = refl

-- an equation at each j below n, from one test of them all; at j = 0 the ones below say nothing, since s 0 is 0
each : (n : ℕ) (f g : ℕ → ℕ) → T (all_to n (λ j. eqb (f j) (g j))) → (j : ℕ) → j < n → f j ≡ g j
each n f g t j h = eqb→eq (f j) (g j) (all_to-at n (λ j. eqb (f j) (g j)) t j h)

-- "N=16: s1+s10=s12, s2+s9=s13, s3+s8=s14, s4+s7=s15, s5+s6=s16"
pub sharing16 : (j : ℕ) → j < 6 → s 16 j + s 16 (11 - j) ≡ s 16 (j + 11)
unfolding first
sharing16 = each 6 (λ j. s 16 j + s 16 (11 - j)) (λ j. s 16 (j + 11)) tt

-- "N=32: for j = 1..6, s(j) + s(j+26) + s(13-j) = s(j+13) + s(26-j)"
pub sharing32 : (j : ℕ) → j < 7 → s 32 j + s 32 (j + 26) + s 32 (13 - j) ≡ s 32 (j + 13) + s 32 (26 - j)
unfolding first
sharing32 = each 7 (λ j. s 32 j + s 32 (j + 26) + s 32 (13 - j)) (λ j. s 32 (j + 13) + s 32 (26 - j)) tt

-- "C for N=4: 84 74 55 29 / 74 0 -74 -74 / 55 -74 -29 84 / 29 -74 84 -55"
abbrev pub published4 : List ℤ
published4 =
    pos 84 ∷ pos 74 ∷ pos 55 ∷ pos 29 ∷
    pos 74 ∷ pos 0 ∷ negsuc 73 ∷ negsuc 73 ∷
    pos 55 ∷ negsuc 73 ∷ negsuc 28 ∷ pos 84 ∷
    pos 29 ∷ negsuc 73 ∷ pos 84 ∷ negsuc 54 ∷ []

pub C4 : (i j : ℕ) → i < 4 → j < 4 → at published4 (i * 4 + j) ≡ C 4 i j
unfolding C S fold first
C4 = table_at 4 (C 4) published4 tt refl

-- H.266's DCT-II at 4 points: "64 64 64 64 / 83 36 -36 -83 / 64 -64 -64 64 / 36 -83 83 -36"
abbrev pub cosines4 : List ℤ
cosines4 =
    pos 64 ∷ pos 64 ∷ pos 64 ∷ pos 64 ∷
    pos 83 ∷ pos 36 ∷ negsuc 35 ∷ negsuc 82 ∷
    pos 64 ∷ negsuc 63 ∷ negsuc 63 ∷ pos 64 ∷
    pos 36 ∷ negsuc 82 ∷ pos 83 ∷ negsuc 35 ∷ []
