-- Document 01, "The weights": the first rows, the fold rule, and the kinds 1 and 2. Document 02, Wish 1: kind 0, "H.266's weights".
use Rattle.std.specs.Prelude.{Bool, true, false, cond, List, [], ◌∷◌, ℕ, ◌+◌, ◌*◌, ◌-◌, ◌/◌, ◌%◌, min, ltb, eqb, ℤ, pos, neg_ℤ, get_or}

-- "First rows s1..sN of DST-VII": s n stands at place n, and 0 at place 0. At 32 points s11 and s28 are H.266's, 46 and 87, where
-- document 01 has 45 and 88: "Where a paper's weight differs from H.266, H.266 stands" (docs/DECISIONS.md)
unfoldable pub first : ℕ → List ℕ
first n =
    cond (eqb n 4) (0 ∷ 29 ∷ 55 ∷ 74 ∷ 84 ∷ [])
    (cond (eqb n 8) (0 ∷ 17 ∷ 32 ∷ 46 ∷ 60 ∷ 71 ∷ 78 ∷ 85 ∷ 86 ∷ [])
    (cond (eqb n 16) (0 ∷ 8 ∷ 17 ∷ 25 ∷ 33 ∷ 40 ∷ 48 ∷ 55 ∷ 62 ∷ 68 ∷ 73 ∷ 77 ∷ 81 ∷ 85 ∷ 87 ∷ 88 ∷ 88 ∷ [])
    (cond (eqb n 32)
    (0 ∷ 4 ∷ 9 ∷ 13 ∷ 17 ∷ 21 ∷ 26 ∷ 30 ∷ 34 ∷ 38 ∷ 42 ∷ 46 ∷ 50 ∷ 53 ∷ 56 ∷ 60 ∷ 63 ∷ 66 ∷ 68 ∷ 72 ∷ 74 ∷ 77 ∷ 78 ∷ 80 ∷ 82 ∷ 84 ∷ 85 ∷ 86 ∷ 87 ∷ 88 ∷ 89 ∷ 90 ∷ 90 ∷ [])
    [])))

-- "The sign is minus where": the test, and the number
abbrev pub signed : Bool → ℤ → ℤ
signed true z = neg_ℤ z
signed false z = z

-- "Fold rule": minus where m > L; m modulo L; the smaller of m and L-m; the signed s of that index
unfoldable pub fold : ℕ → List ℕ → ℕ → ℤ
fold l s m = signed (ltb l m) (pos (get_or s (min (m % l) (l - m % l)) 0))

-- "Let L = 2N+1 and m = (2i+1)*(j+1) modulo 2L, with i and j from 0"
unfoldable pub S : ℕ → ℕ → ℕ → ℤ
S n i j = let l = 2 * n + 1 in fold l (first n) (((2 * i + 1) * (j + 1)) % (2 * l))

-- "DCT-VIII: C[i][j] = (-1)^i * S[i][N-1-j]"
unfoldable pub C : ℕ → ℕ → ℕ → ℤ
C n i j = signed (eqb (i % 2) 1) (S n i (n - 1 - j))

-- H.266's DCT-II of 64 points as one list: c m stands at place m, m = 0 .. 64, a quarter of a turn; the even places are those of 32
unfoldable pub cosines : List ℕ
cosines =
    64 ∷ 91 ∷ 90 ∷ 90 ∷ 90 ∷ 90 ∷ 90 ∷ 90 ∷ 89 ∷ 88 ∷ 88 ∷ 87 ∷ 87 ∷ 86 ∷ 85 ∷ 84 ∷ 83 ∷ 83 ∷ 82 ∷ 81 ∷ 80 ∷ 79 ∷ 78 ∷ 77 ∷ 75 ∷ 73 ∷ 73 ∷ 71 ∷ 70 ∷ 69 ∷ 67 ∷ 65 ∷
    64 ∷ 62 ∷ 61 ∷ 59 ∷ 57 ∷ 56 ∷ 54 ∷ 52 ∷ 50 ∷ 48 ∷ 46 ∷ 44 ∷ 43 ∷ 41 ∷ 38 ∷ 37 ∷ 36 ∷ 33 ∷ 31 ∷ 28 ∷ 25 ∷ 24 ∷ 22 ∷ 20 ∷ 18 ∷ 15 ∷ 13 ∷ 11 ∷ 9 ∷ 7 ∷ 4 ∷ 2 ∷ 0 ∷ []

-- the rest of the turn: m above 128 counts as 256-m; then above 64 minus, and the index 128-m
unfoldable pub turn : ℕ → ℤ
turn m = let k = min m (256 - m) in signed (ltb 64 k) (pos (get_or cosines (min k (128 - k)) 0))

-- DCT-II of n points: m = i*(2j+1)*(64/n) modulo 256, so that row 0 is c 0 at every place
unfoldable pub dct2 : ℕ → ℕ → ℕ → ℤ
dct2 n i j = turn ((i * (2 * j + 1) * (64 / n)) % 256)

-- "1 (DST-VII) or 2 (DCT-VIII)", and 0 (DCT-II)
unfoldable pub weight : ℕ → ℕ → ℕ → ℕ → ℤ
weight kind n i j = cond (eqb kind 1) (S n i j) (cond (eqb kind 2) (C n i j) (cond (eqb kind 0) (dct2 n i j) (pos 0)))
