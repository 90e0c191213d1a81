-- Made by crates/lfnst_tables/make; do not edit. The eight matrices of LFNST of 16 rows and 48 columns (matrices.txt), at 2 * set + index - 1.
use Rattle.std.specs.Prelude.{List, [], ◌∷◌, ℕ, ℤ, pos, neg_ℤ}

abbrev p : ℕ → ℤ
p n = pos n

abbrev m : ℕ → ℤ
m n = neg_ℤ (pos n)

-- set 0, index 1
unfoldable pub of-0 : List (List ℤ)
of-0 =
    (m 117 ∷ p 28 ∷ p 18 ∷ p 2 ∷ p 4 ∷ p 1 ∷ p 2 ∷ p 1 ∷ p 32 ∷ m 18 ∷ m 2 ∷ p 0 ∷ m 1 ∷ p 0 ∷ p 0 ∷ p 0 ∷ p 14 ∷ m 1 ∷ m 3 ∷ p 0 ∷ m 1 ∷ p 0 ∷ p 0 ∷ p 0 ∷ p 2 ∷ p 0 ∷ p 0 ∷ p 0 ∷ p 0 ∷ p 0 ∷ p 0 ∷ p 0 ∷ p 3 ∷ p 0 ∷ m 1 ∷ p 0 ∷ p 1 ∷ p 0 ∷ p 0 ∷ p 0 ∷ p 1 ∷ p 0 ∷ p 0 ∷ p 0 ∷ p 1 ∷ p 0 ∷ p 0 ∷ p 0 ∷ []) ∷
    (m 29 ∷ m 91 ∷ p 47 ∷ p 1 ∷ p 9 ∷ p 0 ∷ p 3 ∷ p 0 ∷ m 54 ∷ p 26 ∷ m 8 ∷ p 3 ∷ p 0 ∷ p 1 ∷ p 0 ∷ p 0 ∷ p 33 ∷ p 5 ∷ m 9 ∷ m 1 ∷ m 2 ∷ p 0 ∷ m 1 ∷ p 0 ∷ m 3 ∷ p 3 ∷ p 0 ∷ p 0 ∷ p 0 ∷ p 0 ∷ p 0 ∷ p 0 ∷ p 7 ∷ p 2 ∷ m 2 ∷ p 0 ∷ m 1 ∷ p 1 ∷ p 0 ∷ p 0 ∷ p 2 ∷ p 1 ∷ m 1 ∷ p 0 ∷ p 0 ∷ p 0 ∷ p 0 ∷ p 0 ∷ []) ∷
    (m 10 ∷ p 62 ∷ m 11 ∷ m 8 ∷ m 2 ∷ m 2 ∷ m 1 ∷ m 1 ∷ m 95 ∷ p 3 ∷ p 32 ∷ p 0 ∷ p 4 ∷ p 0 ∷ p 2 ∷ p 0 ∷ p 32 ∷ m 30 ∷ m 4 ∷ p 4 ∷ m 1 ∷ p 1 ∷ p 0 ∷ p 0 ∷ p 6 ∷ p 2 ∷ m 5 ∷ p 0 ∷ p 0 ∷ p 0 ∷ p 0 ∷ p 0 ∷ p 6 ∷ m 3 ∷ p 0 ∷ p 0 ∷ p 2 ∷ p 0 ∷ m 1 ∷ p 0 ∷ p 2 ∷ m 1 ∷ p 0 ∷ p 0 ∷ p 1 ∷ p 0 ∷ p 0 ∷ p 0 ∷ []) ∷
    (m 15 ∷ p 15 ∷ m 10 ∷ m 2 ∷ p 1 ∷ p 0 ∷ p 1 ∷ p 0 ∷ p 10 ∷ p 112 ∷ m 20 ∷ m 17 ∷ m 4 ∷ m 4 ∷ m 1 ∷ m 2 ∷ m 20 ∷ m 26 ∷ p 31 ∷ p 1 ∷ p 0 ∷ p 0 ∷ p 0 ∷ p 0 ∷ p 2 ∷ m 16 ∷ m 1 ∷ p 6 ∷ p 0 ∷ p 1 ∷ p 0 ∷ p 0 ∷ p 1 ∷ m 4 ∷ p 0 ∷ p 0 ∷ p 0 ∷ m 3 ∷ p 0 ∷ p 1 ∷ p 0 ∷ m 1 ∷ p 0 ∷ p 0 ∷ p 0 ∷ m 2 ∷ p 0 ∷ p 0 ∷ []) ∷
    (p 32 ∷ p 39 ∷ p 92 ∷ m 44 ∷ p 4 ∷ m 10 ∷ p 1 ∷ m 4 ∷ p 26 ∷ p 12 ∷ m 15 ∷ p 13 ∷ m 5 ∷ p 2 ∷ m 2 ∷ p 0 ∷ p 29 ∷ m 16 ∷ m 22 ∷ p 8 ∷ p 0 ∷ p 1 ∷ p 0 ∷ p 1 ∷ m 20 ∷ p 6 ∷ p 4 ∷ m 3 ∷ p 1 ∷ p 0 ∷ p 0 ∷ p 0 ∷ p 1 ∷ m 4 ∷ m 3 ∷ p 2 ∷ m 4 ∷ p 1 ∷ p 0 ∷ p 0 ∷ p 1 ∷ m 1 ∷ m 2 ∷ p 1 ∷ m 2 ∷ p 0 ∷ p 0 ∷ p 0 ∷ []) ∷
    (m 10 ∷ p 1 ∷ p 50 ∷ m 15 ∷ p 2 ∷ m 3 ∷ p 1 ∷ m 1 ∷ m 28 ∷ m 15 ∷ p 14 ∷ p 6 ∷ p 1 ∷ p 1 ∷ p 1 ∷ p 0 ∷ m 99 ∷ m 4 ∷ p 9 ∷ p 5 ∷ p 5 ∷ p 2 ∷ p 2 ∷ p 1 ∷ p 44 ∷ m 10 ∷ m 11 ∷ p 1 ∷ m 2 ∷ p 0 ∷ m 1 ∷ p 0 ∷ m 5 ∷ p 4 ∷ m 3 ∷ p 0 ∷ p 8 ∷ m 1 ∷ m 2 ∷ p 0 ∷ m 2 ∷ p 1 ∷ m 1 ∷ p 0 ∷ p 4 ∷ p 0 ∷ m 1 ∷ p 0 ∷ []) ∷
    (p 1 ∷ m 33 ∷ m 11 ∷ m 14 ∷ p 7 ∷ m 2 ∷ p 2 ∷ p 0 ∷ p 29 ∷ m 12 ∷ p 37 ∷ m 7 ∷ m 4 ∷ p 0 ∷ m 1 ∷ p 0 ∷ p 6 ∷ m 99 ∷ p 3 ∷ p 26 ∷ m 1 ∷ p 5 ∷ p 0 ∷ p 2 ∷ p 14 ∷ p 30 ∷ m 27 ∷ m 2 ∷ p 1 ∷ m 1 ∷ p 0 ∷ m 1 ∷ m 6 ∷ p 6 ∷ p 6 ∷ m 3 ∷ p 1 ∷ p 3 ∷ m 3 ∷ p 0 ∷ m 1 ∷ p 1 ∷ p 1 ∷ p 0 ∷ p 0 ∷ p 1 ∷ m 1 ∷ p 0 ∷ []) ∷
    (p 0 ∷ p 6 ∷ m 6 ∷ p 21 ∷ m 4 ∷ p 2 ∷ p 0 ∷ p 0 ∷ m 20 ∷ m 24 ∷ m 104 ∷ p 30 ∷ p 5 ∷ p 5 ∷ p 1 ∷ p 2 ∷ m 7 ∷ m 46 ∷ p 10 ∷ m 14 ∷ p 7 ∷ p 0 ∷ p 1 ∷ p 0 ∷ p 9 ∷ p 21 ∷ p 7 ∷ m 6 ∷ m 2 ∷ m 1 ∷ p 0 ∷ m 1 ∷ p 2 ∷ p 2 ∷ p 5 ∷ m 2 ∷ p 0 ∷ p 3 ∷ p 4 ∷ m 1 ∷ p 0 ∷ p 0 ∷ p 1 ∷ p 0 ∷ p 0 ∷ p 1 ∷ p 2 ∷ m 1 ∷ []) ∷
    (m 13 ∷ m 13 ∷ m 37 ∷ m 101 ∷ p 29 ∷ m 11 ∷ p 8 ∷ m 3 ∷ m 12 ∷ m 15 ∷ m 20 ∷ p 2 ∷ m 11 ∷ p 5 ∷ m 2 ∷ p 1 ∷ m 12 ∷ p 10 ∷ p 26 ∷ p 12 ∷ m 6 ∷ p 0 ∷ m 1 ∷ p 0 ∷ m 32 ∷ m 2 ∷ p 11 ∷ p 3 ∷ p 3 ∷ m 1 ∷ p 1 ∷ p 0 ∷ p 11 ∷ m 5 ∷ m 1 ∷ p 6 ∷ m 4 ∷ p 2 ∷ p 1 ∷ p 0 ∷ p 3 ∷ m 1 ∷ p 1 ∷ p 2 ∷ m 1 ∷ p 0 ∷ p 0 ∷ p 0 ∷ []) ∷
    (p 6 ∷ p 1 ∷ m 14 ∷ m 36 ∷ p 9 ∷ m 3 ∷ p 2 ∷ p 0 ∷ p 10 ∷ p 9 ∷ m 18 ∷ m 1 ∷ m 3 ∷ p 1 ∷ p 0 ∷ p 0 ∷ p 38 ∷ p 26 ∷ m 13 ∷ m 1 ∷ m 5 ∷ m 1 ∷ m 1 ∷ p 0 ∷ p 102 ∷ p 3 ∷ m 14 ∷ m 1 ∷ m 5 ∷ m 1 ∷ m 2 ∷ p 0 ∷ m 29 ∷ p 10 ∷ p 10 ∷ p 0 ∷ p 10 ∷ m 4 ∷ m 1 ∷ p 1 ∷ m 7 ∷ p 1 ∷ p 2 ∷ p 1 ∷ p 2 ∷ m 1 ∷ p 0 ∷ p 0 ∷ []) ∷
    (m 12 ∷ m 2 ∷ m 26 ∷ m 12 ∷ m 9 ∷ p 2 ∷ m 1 ∷ p 1 ∷ m 3 ∷ p 30 ∷ p 4 ∷ p 34 ∷ m 4 ∷ p 0 ∷ m 1 ∷ p 0 ∷ m 30 ∷ p 3 ∷ m 92 ∷ p 14 ∷ p 19 ∷ p 0 ∷ p 3 ∷ p 0 ∷ m 11 ∷ p 34 ∷ p 21 ∷ m 33 ∷ p 1 ∷ m 2 ∷ p 0 ∷ m 1 ∷ m 9 ∷ m 4 ∷ p 18 ∷ p 3 ∷ p 2 ∷ p 0 ∷ p 0 ∷ m 2 ∷ m 1 ∷ m 1 ∷ p 3 ∷ p 0 ∷ p 0 ∷ p 0 ∷ p 0 ∷ m 1 ∷ []) ∷
    (p 0 ∷ m 3 ∷ p 0 ∷ m 4 ∷ m 15 ∷ p 6 ∷ m 3 ∷ p 1 ∷ m 7 ∷ m 15 ∷ m 28 ∷ m 86 ∷ p 19 ∷ m 5 ∷ p 4 ∷ m 1 ∷ m 5 ∷ m 17 ∷ m 41 ∷ p 42 ∷ m 6 ∷ p 2 ∷ m 1 ∷ p 1 ∷ m 1 ∷ m 40 ∷ p 37 ∷ p 13 ∷ m 4 ∷ p 2 ∷ m 1 ∷ p 1 ∷ m 10 ∷ p 13 ∷ m 1 ∷ m 4 ∷ p 4 ∷ m 4 ∷ p 3 ∷ p 4 ∷ m 2 ∷ p 2 ∷ m 1 ∷ m 1 ∷ p 1 ∷ m 1 ∷ p 1 ∷ p 2 ∷ []) ∷
    (m 1 ∷ p 9 ∷ p 13 ∷ p 5 ∷ p 14 ∷ m 2 ∷ p 2 ∷ m 1 ∷ m 8 ∷ p 3 ∷ m 4 ∷ m 62 ∷ p 4 ∷ p 1 ∷ p 1 ∷ p 0 ∷ m 12 ∷ p 23 ∷ p 16 ∷ m 11 ∷ m 17 ∷ p 0 ∷ m 1 ∷ p 0 ∷ m 11 ∷ p 97 ∷ m 3 ∷ m 3 ∷ p 0 ∷ m 6 ∷ p 0 ∷ m 2 ∷ m 21 ∷ m 5 ∷ p 23 ∷ p 0 ∷ p 2 ∷ m 2 ∷ m 1 ∷ p 6 ∷ m 3 ∷ m 3 ∷ p 1 ∷ p 0 ∷ p 0 ∷ p 0 ∷ p 0 ∷ p 2 ∷ []) ∷
    (p 6 ∷ p 2 ∷ m 3 ∷ p 2 ∷ p 10 ∷ m 1 ∷ p 2 ∷ p 0 ∷ p 8 ∷ p 3 ∷ m 1 ∷ m 20 ∷ p 0 ∷ p 1 ∷ p 0 ∷ p 0 ∷ m 4 ∷ p 4 ∷ m 16 ∷ p 0 ∷ m 2 ∷ p 0 ∷ p 1 ∷ p 0 ∷ p 34 ∷ p 23 ∷ p 6 ∷ m 7 ∷ m 4 ∷ m 2 ∷ m 1 ∷ p 0 ∷ p 108 ∷ m 5 ∷ m 30 ∷ p 6 ∷ m 27 ∷ p 10 ∷ p 7 ∷ m 2 ∷ p 11 ∷ m 3 ∷ m 1 ∷ p 1 ∷ m 4 ∷ p 1 ∷ p 0 ∷ p 1 ∷ []) ∷
    (p 6 ∷ p 9 ∷ m 2 ∷ p 35 ∷ p 110 ∷ m 22 ∷ p 11 ∷ m 4 ∷ m 2 ∷ p 0 ∷ m 3 ∷ p 1 ∷ m 18 ∷ p 12 ∷ m 3 ∷ p 2 ∷ m 5 ∷ m 4 ∷ m 22 ∷ p 8 ∷ m 25 ∷ p 3 ∷ p 0 ∷ p 0 ∷ m 3 ∷ m 21 ∷ p 2 ∷ m 3 ∷ p 9 ∷ m 2 ∷ p 1 ∷ p 0 ∷ m 7 ∷ p 1 ∷ p 3 ∷ m 5 ∷ p 3 ∷ p 0 ∷ m 1 ∷ p 0 ∷ p 0 ∷ p 1 ∷ p 0 ∷ m 1 ∷ p 1 ∷ p 0 ∷ p 0 ∷ p 0 ∷ []) ∷
    (m 1 ∷ p 7 ∷ m 2 ∷ p 9 ∷ m 11 ∷ p 5 ∷ m 1 ∷ p 1 ∷ m 7 ∷ p 2 ∷ m 22 ∷ p 4 ∷ m 13 ∷ p 0 ∷ m 1 ∷ p 0 ∷ p 0 ∷ p 28 ∷ p 0 ∷ p 76 ∷ p 4 ∷ m 6 ∷ p 0 ∷ m 2 ∷ m 13 ∷ p 5 ∷ m 76 ∷ m 4 ∷ p 33 ∷ m 1 ∷ p 3 ∷ p 0 ∷ p 9 ∷ p 18 ∷ m 3 ∷ m 35 ∷ m 4 ∷ m 1 ∷ p 6 ∷ p 1 ∷ p 1 ∷ p 2 ∷ p 0 ∷ m 3 ∷ m 1 ∷ p 0 ∷ p 2 ∷ p 0 ∷ []) ∷
    []

-- set 0, index 2
unfoldable pub of-1 : List (List ℤ)
of-1 =
    (m 108 ∷ p 48 ∷ p 9 ∷ p 1 ∷ p 1 ∷ p 1 ∷ p 0 ∷ p 0 ∷ p 44 ∷ m 6 ∷ m 9 ∷ m 1 ∷ m 1 ∷ p 0 ∷ m 1 ∷ p 0 ∷ p 9 ∷ m 9 ∷ m 1 ∷ p 1 ∷ p 0 ∷ p 0 ∷ p 0 ∷ p 0 ∷ p 3 ∷ m 1 ∷ p 1 ∷ p 0 ∷ p 0 ∷ p 0 ∷ p 0 ∷ p 0 ∷ p 1 ∷ m 1 ∷ p 0 ∷ p 0 ∷ p 1 ∷ p 0 ∷ p 0 ∷ p 0 ∷ p 0 ∷ m 1 ∷ p 0 ∷ p 0 ∷ p 0 ∷ p 0 ∷ p 0 ∷ p 0 ∷ []) ∷
    (p 55 ∷ p 66 ∷ m 37 ∷ m 5 ∷ m 6 ∷ m 1 ∷ m 2 ∷ p 0 ∷ p 67 ∷ m 30 ∷ m 20 ∷ p 4 ∷ m 2 ∷ p 0 ∷ m 1 ∷ p 0 ∷ m 31 ∷ m 19 ∷ p 14 ∷ p 4 ∷ p 1 ∷ p 1 ∷ p 1 ∷ p 0 ∷ m 6 ∷ p 3 ∷ p 5 ∷ m 2 ∷ p 0 ∷ p 0 ∷ p 0 ∷ p 0 ∷ m 7 ∷ m 1 ∷ p 1 ∷ p 0 ∷ m 1 ∷ p 1 ∷ p 1 ∷ p 0 ∷ m 2 ∷ m 1 ∷ p 1 ∷ p 0 ∷ p 0 ∷ p 0 ∷ p 0 ∷ p 0 ∷ []) ∷
    (p 2 ∷ p 86 ∷ m 21 ∷ m 13 ∷ m 4 ∷ m 2 ∷ m 1 ∷ m 1 ∷ m 88 ∷ p 5 ∷ p 6 ∷ p 4 ∷ p 5 ∷ p 1 ∷ p 1 ∷ p 0 ∷ p 14 ∷ m 5 ∷ p 0 ∷ p 3 ∷ p 0 ∷ p 0 ∷ p 0 ∷ p 0 ∷ p 10 ∷ m 5 ∷ m 2 ∷ p 0 ∷ m 1 ∷ p 0 ∷ p 0 ∷ p 0 ∷ p 6 ∷ m 5 ∷ p 0 ∷ p 1 ∷ p 2 ∷ m 1 ∷ p 0 ∷ p 0 ∷ p 1 ∷ m 1 ∷ p 0 ∷ p 0 ∷ p 1 ∷ p 0 ∷ p 0 ∷ p 0 ∷ []) ∷
    (m 24 ∷ m 21 ∷ m 38 ∷ p 19 ∷ p 0 ∷ p 4 ∷ m 1 ∷ p 2 ∷ m 23 ∷ m 89 ∷ p 31 ∷ p 20 ∷ p 2 ∷ p 3 ∷ p 1 ∷ p 1 ∷ m 30 ∷ p 26 ∷ p 36 ∷ m 8 ∷ m 2 ∷ m 2 ∷ p 0 ∷ m 1 ∷ p 14 ∷ p 18 ∷ m 7 ∷ m 9 ∷ m 1 ∷ m 1 ∷ p 0 ∷ p 0 ∷ p 1 ∷ p 3 ∷ m 2 ∷ m 1 ∷ p 3 ∷ p 2 ∷ m 2 ∷ m 1 ∷ p 0 ∷ p 1 ∷ p 0 ∷ p 0 ∷ p 1 ∷ p 1 ∷ m 1 ∷ p 0 ∷ []) ∷
    (p 9 ∷ p 20 ∷ p 98 ∷ m 26 ∷ m 3 ∷ m 5 ∷ p 0 ∷ m 2 ∷ m 9 ∷ m 26 ∷ p 15 ∷ m 16 ∷ p 2 ∷ p 0 ∷ p 1 ∷ p 0 ∷ m 61 ∷ m 3 ∷ m 2 ∷ p 3 ∷ p 7 ∷ p 1 ∷ p 1 ∷ p 0 ∷ p 12 ∷ p 16 ∷ m 6 ∷ m 1 ∷ p 0 ∷ m 1 ∷ p 0 ∷ p 0 ∷ p 2 ∷ p 0 ∷ m 8 ∷ p 1 ∷ p 3 ∷ p 1 ∷ m 1 ∷ p 1 ∷ p 0 ∷ m 1 ∷ m 2 ∷ p 0 ∷ p 1 ∷ p 0 ∷ m 1 ∷ p 0 ∷ []) ∷
    (m 21 ∷ m 7 ∷ m 37 ∷ p 10 ∷ p 2 ∷ p 2 ∷ m 1 ∷ p 1 ∷ m 10 ∷ p 69 ∷ m 5 ∷ m 7 ∷ m 2 ∷ m 2 ∷ p 0 ∷ m 1 ∷ m 93 ∷ p 2 ∷ p 19 ∷ p 0 ∷ p 3 ∷ p 0 ∷ p 2 ∷ p 0 ∷ p 17 ∷ p 4 ∷ p 0 ∷ p 0 ∷ m 1 ∷ p 0 ∷ p 0 ∷ p 0 ∷ p 5 ∷ m 4 ∷ m 2 ∷ p 0 ∷ p 4 ∷ m 2 ∷ p 0 ∷ p 1 ∷ p 0 ∷ p 0 ∷ p 0 ∷ p 0 ∷ p 2 ∷ m 1 ∷ p 0 ∷ p 0 ∷ []) ∷
    (m 10 ∷ m 25 ∷ p 4 ∷ m 17 ∷ p 8 ∷ m 2 ∷ p 2 ∷ m 1 ∷ m 27 ∷ m 17 ∷ m 71 ∷ p 25 ∷ p 8 ∷ p 2 ∷ p 1 ∷ p 1 ∷ m 4 ∷ m 66 ∷ p 28 ∷ p 36 ∷ m 5 ∷ p 3 ∷ p 0 ∷ p 1 ∷ m 10 ∷ p 20 ∷ p 33 ∷ m 13 ∷ m 8 ∷ p 0 ∷ p 0 ∷ m 1 ∷ p 3 ∷ p 6 ∷ m 3 ∷ m 7 ∷ m 1 ∷ p 3 ∷ p 3 ∷ m 1 ∷ p 1 ∷ p 0 ∷ m 1 ∷ p 0 ∷ p 0 ∷ p 1 ∷ p 1 ∷ m 1 ∷ []) ∷
    (p 2 ∷ p 5 ∷ p 10 ∷ p 64 ∷ m 9 ∷ p 4 ∷ m 3 ∷ p 1 ∷ m 4 ∷ p 8 ∷ p 62 ∷ p 3 ∷ m 17 ∷ p 1 ∷ m 2 ∷ p 0 ∷ m 3 ∷ m 75 ∷ p 5 ∷ m 14 ∷ p 1 ∷ p 4 ∷ p 0 ∷ p 1 ∷ m 36 ∷ p 3 ∷ p 18 ∷ m 4 ∷ p 4 ∷ p 0 ∷ p 1 ∷ p 0 ∷ p 1 ∷ p 14 ∷ m 2 ∷ m 8 ∷ m 2 ∷ p 1 ∷ m 3 ∷ p 0 ∷ p 2 ∷ p 2 ∷ m 1 ∷ m 2 ∷ p 0 ∷ p 1 ∷ m 1 ∷ p 0 ∷ []) ∷
    (m 11 ∷ m 15 ∷ m 28 ∷ m 97 ∷ p 6 ∷ m 1 ∷ p 4 ∷ m 1 ∷ p 7 ∷ p 3 ∷ p 57 ∷ m 15 ∷ p 10 ∷ m 2 ∷ p 0 ∷ m 1 ∷ m 1 ∷ m 27 ∷ p 13 ∷ p 6 ∷ p 1 ∷ m 1 ∷ p 0 ∷ p 0 ∷ m 34 ∷ m 6 ∷ p 0 ∷ p 3 ∷ p 4 ∷ p 1 ∷ p 2 ∷ p 0 ∷ m 2 ∷ p 8 ∷ p 1 ∷ p 5 ∷ m 2 ∷ p 0 ∷ m 3 ∷ p 1 ∷ p 1 ∷ p 1 ∷ p 0 ∷ p 2 ∷ m 1 ∷ p 0 ∷ m 1 ∷ p 0 ∷ []) ∷
    (p 9 ∷ p 13 ∷ p 24 ∷ m 6 ∷ p 7 ∷ m 2 ∷ p 1 ∷ m 1 ∷ p 16 ∷ p 39 ∷ p 20 ∷ p 47 ∷ m 2 ∷ m 2 ∷ m 2 ∷ p 0 ∷ p 28 ∷ p 23 ∷ p 76 ∷ m 5 ∷ m 25 ∷ m 3 ∷ m 3 ∷ m 1 ∷ p 6 ∷ p 36 ∷ m 7 ∷ m 39 ∷ m 4 ∷ m 1 ∷ p 0 ∷ m 1 ∷ p 2 ∷ m 4 ∷ m 18 ∷ m 3 ∷ m 1 ∷ m 1 ∷ m 2 ∷ m 2 ∷ p 1 ∷ m 2 ∷ m 2 ∷ p 0 ∷ p 0 ∷ p 0 ∷ m 1 ∷ m 1 ∷ []) ∷
    (m 7 ∷ p 11 ∷ p 12 ∷ p 7 ∷ p 2 ∷ m 1 ∷ p 0 ∷ m 1 ∷ m 14 ∷ m 1 ∷ m 24 ∷ p 11 ∷ p 2 ∷ p 0 ∷ p 0 ∷ p 0 ∷ m 20 ∷ p 48 ∷ p 11 ∷ m 13 ∷ m 5 ∷ m 2 ∷ p 0 ∷ m 1 ∷ m 105 ∷ m 19 ∷ p 17 ∷ p 0 ∷ p 6 ∷ p 2 ∷ p 3 ∷ p 0 ∷ m 14 ∷ p 8 ∷ p 8 ∷ p 2 ∷ p 1 ∷ p 2 ∷ m 1 ∷ m 2 ∷ p 3 ∷ p 0 ∷ m 1 ∷ p 0 ∷ p 0 ∷ p 0 ∷ p 0 ∷ p 0 ∷ []) ∷
    (p 0 ∷ p 0 ∷ p 7 ∷ m 6 ∷ p 23 ∷ m 3 ∷ p 3 ∷ m 1 ∷ p 5 ∷ p 1 ∷ p 18 ∷ p 96 ∷ p 13 ∷ m 9 ∷ m 1 ∷ m 1 ∷ m 21 ∷ m 7 ∷ m 42 ∷ p 14 ∷ m 24 ∷ m 3 ∷ p 0 ∷ p 0 ∷ p 11 ∷ m 47 ∷ m 7 ∷ p 3 ∷ m 5 ∷ p 9 ∷ p 1 ∷ p 2 ∷ p 0 ∷ m 1 ∷ p 19 ∷ m 1 ∷ p 1 ∷ p 0 ∷ m 1 ∷ m 6 ∷ m 1 ∷ p 1 ∷ p 2 ∷ p 0 ∷ p 1 ∷ p 0 ∷ p 0 ∷ m 2 ∷ []) ∷
    (m 2 ∷ m 6 ∷ m 1 ∷ m 10 ∷ p 0 ∷ p 1 ∷ p 1 ∷ p 0 ∷ m 7 ∷ m 2 ∷ m 28 ∷ p 20 ∷ m 15 ∷ p 4 ∷ m 3 ∷ p 1 ∷ m 2 ∷ m 32 ∷ m 2 ∷ m 66 ∷ p 3 ∷ p 7 ∷ p 1 ∷ p 2 ∷ m 11 ∷ p 13 ∷ m 70 ∷ p 5 ∷ p 43 ∷ m 2 ∷ p 3 ∷ p 0 ∷ p 8 ∷ m 14 ∷ m 3 ∷ p 43 ∷ m 1 ∷ p 2 ∷ p 7 ∷ m 1 ∷ p 1 ∷ m 2 ∷ p 1 ∷ p 3 ∷ m 1 ∷ p 1 ∷ p 1 ∷ p 0 ∷ []) ∷
    (m 1 ∷ p 6 ∷ m 16 ∷ p 0 ∷ p 24 ∷ m 3 ∷ p 1 ∷ m 1 ∷ p 2 ∷ p 6 ∷ p 6 ∷ p 16 ∷ p 18 ∷ m 7 ∷ p 1 ∷ m 1 ∷ m 3 ∷ p 11 ∷ m 63 ∷ p 9 ∷ p 4 ∷ m 5 ∷ p 2 ∷ m 1 ∷ m 22 ∷ p 94 ∷ m 4 ∷ m 6 ∷ m 4 ∷ m 4 ∷ p 1 ∷ m 2 ∷ p 10 ∷ p 23 ∷ m 19 ∷ m 5 ∷ p 0 ∷ m 6 ∷ m 4 ∷ p 6 ∷ p 3 ∷ m 2 ∷ p 1 ∷ p 1 ∷ p 0 ∷ m 1 ∷ p 0 ∷ p 0 ∷ []) ∷
    (m 5 ∷ m 6 ∷ m 3 ∷ m 19 ∷ m 104 ∷ p 18 ∷ m 4 ∷ p 3 ∷ p 0 ∷ p 6 ∷ p 0 ∷ p 35 ∷ m 41 ∷ p 20 ∷ m 2 ∷ p 2 ∷ m 2 ∷ p 10 ∷ m 18 ∷ p 16 ∷ p 21 ∷ p 3 ∷ m 2 ∷ p 0 ∷ m 2 ∷ p 11 ∷ p 6 ∷ m 10 ∷ p 6 ∷ m 3 ∷ m 1 ∷ p 0 ∷ m 1 ∷ p 5 ∷ m 1 ∷ m 6 ∷ m 1 ∷ m 1 ∷ m 1 ∷ m 1 ∷ m 1 ∷ p 0 ∷ p 0 ∷ p 0 ∷ p 0 ∷ p 0 ∷ p 0 ∷ m 1 ∷ []) ∷
    (m 1 ∷ m 2 ∷ p 0 ∷ p 23 ∷ m 9 ∷ p 0 ∷ m 2 ∷ p 0 ∷ p 1 ∷ p 1 ∷ p 8 ∷ m 1 ∷ p 29 ∷ p 1 ∷ p 1 ∷ p 0 ∷ p 3 ∷ m 6 ∷ p 13 ∷ p 76 ∷ p 30 ∷ m 11 ∷ m 1 ∷ m 2 ∷ m 26 ∷ m 8 ∷ m 69 ∷ p 7 ∷ m 9 ∷ m 7 ∷ p 3 ∷ m 1 ∷ m 10 ∷ m 34 ∷ m 25 ∷ p 13 ∷ m 1 ∷ p 0 ∷ p 11 ∷ p 5 ∷ p 1 ∷ m 1 ∷ p 1 ∷ m 2 ∷ p 0 ∷ p 0 ∷ p 2 ∷ p 0 ∷ []) ∷
    []

-- set 1, index 1
unfoldable pub of-2 : List (List ℤ)
of-2 =
    (p 110 ∷ m 49 ∷ m 3 ∷ m 4 ∷ m 1 ∷ m 1 ∷ p 0 ∷ m 1 ∷ m 38 ∷ m 1 ∷ p 10 ∷ p 0 ∷ p 2 ∷ p 0 ∷ p 1 ∷ p 0 ∷ m 9 ∷ p 13 ∷ p 1 ∷ m 2 ∷ p 0 ∷ p 0 ∷ p 0 ∷ p 0 ∷ m 4 ∷ p 2 ∷ m 3 ∷ p 0 ∷ p 0 ∷ p 0 ∷ p 0 ∷ p 0 ∷ m 2 ∷ p 2 ∷ p 0 ∷ p 1 ∷ m 1 ∷ p 1 ∷ p 0 ∷ p 0 ∷ m 1 ∷ p 1 ∷ p 0 ∷ p 0 ∷ m 1 ∷ p 0 ∷ p 0 ∷ p 0 ∷ []) ∷
    (m 43 ∷ m 19 ∷ p 17 ∷ m 1 ∷ p 3 ∷ p 0 ∷ p 1 ∷ p 0 ∷ m 98 ∷ p 46 ∷ p 14 ∷ m 1 ∷ p 2 ∷ p 0 ∷ p 1 ∷ p 0 ∷ p 26 ∷ p 26 ∷ m 15 ∷ m 3 ∷ m 2 ∷ m 1 ∷ m 1 ∷ p 0 ∷ p 11 ∷ m 7 ∷ m 9 ∷ p 2 ∷ p 0 ∷ p 0 ∷ p 0 ∷ p 0 ∷ p 9 ∷ m 3 ∷ m 1 ∷ p 2 ∷ p 3 ∷ m 3 ∷ p 0 ∷ p 0 ∷ p 4 ∷ m 1 ∷ p 0 ∷ p 0 ∷ p 2 ∷ m 1 ∷ p 0 ∷ p 0 ∷ []) ∷
    (m 19 ∷ p 17 ∷ m 7 ∷ p 3 ∷ m 2 ∷ p 1 ∷ m 1 ∷ p 0 ∷ m 32 ∷ m 59 ∷ p 29 ∷ p 3 ∷ p 4 ∷ p 0 ∷ p 2 ∷ p 0 ∷ m 72 ∷ p 43 ∷ p 34 ∷ m 9 ∷ p 3 ∷ m 2 ∷ p 1 ∷ m 1 ∷ p 13 ∷ p 36 ∷ m 18 ∷ m 10 ∷ p 0 ∷ m 2 ∷ p 0 ∷ m 1 ∷ p 3 ∷ p 0 ∷ m 12 ∷ p 3 ∷ p 6 ∷ p 1 ∷ m 3 ∷ p 2 ∷ p 1 ∷ m 1 ∷ m 2 ∷ p 0 ∷ p 3 ∷ p 1 ∷ m 1 ∷ p 1 ∷ []) ∷
    (m 35 ∷ m 103 ∷ p 39 ∷ p 1 ∷ p 7 ∷ p 0 ∷ p 2 ∷ p 0 ∷ p 38 ∷ m 13 ∷ p 25 ∷ m 6 ∷ p 1 ∷ m 1 ∷ p 0 ∷ p 0 ∷ m 1 ∷ p 7 ∷ p 6 ∷ m 7 ∷ p 1 ∷ m 1 ∷ p 0 ∷ p 0 ∷ m 13 ∷ p 14 ∷ p 2 ∷ m 4 ∷ p 2 ∷ m 1 ∷ p 0 ∷ p 0 ∷ m 2 ∷ p 11 ∷ m 6 ∷ m 2 ∷ m 2 ∷ p 4 ∷ m 3 ∷ p 0 ∷ p 0 ∷ p 3 ∷ m 2 ∷ p 0 ∷ m 1 ∷ p 1 ∷ m 1 ∷ p 0 ∷ []) ∷
    (p 9 ∷ p 5 ∷ m 6 ∷ m 1 ∷ m 1 ∷ p 0 ∷ m 1 ∷ p 0 ∷ p 42 ∷ p 4 ∷ p 21 ∷ m 11 ∷ p 1 ∷ m 3 ∷ p 1 ∷ m 1 ∷ p 21 ∷ p 70 ∷ m 32 ∷ m 21 ∷ p 0 ∷ m 4 ∷ m 1 ∷ m 1 ∷ p 34 ∷ m 26 ∷ m 57 ∷ p 11 ∷ p 4 ∷ p 2 ∷ p 0 ∷ p 1 ∷ m 4 ∷ m 32 ∷ p 5 ∷ p 24 ∷ p 1 ∷ m 6 ∷ p 12 ∷ p 4 ∷ m 3 ∷ m 2 ∷ p 4 ∷ m 2 ∷ p 0 ∷ m 1 ∷ p 0 ∷ p 0 ∷ []) ∷
    (m 5 ∷ m 5 ∷ m 28 ∷ p 9 ∷ m 3 ∷ p 2 ∷ m 1 ∷ p 1 ∷ m 20 ∷ m 78 ∷ p 22 ∷ p 16 ∷ p 1 ∷ p 3 ∷ p 0 ∷ p 1 ∷ p 80 ∷ m 6 ∷ p 25 ∷ m 5 ∷ m 4 ∷ m 1 ∷ m 1 ∷ p 0 ∷ p 6 ∷ m 24 ∷ p 7 ∷ m 9 ∷ p 0 ∷ p 0 ∷ p 0 ∷ p 0 ∷ m 7 ∷ p 3 ∷ p 13 ∷ m 4 ∷ m 3 ∷ p 5 ∷ p 1 ∷ m 5 ∷ m 2 ∷ p 3 ∷ p 1 ∷ m 2 ∷ m 1 ∷ p 2 ∷ m 1 ∷ m 2 ∷ []) ∷
    (p 14 ∷ p 17 ∷ p 27 ∷ m 12 ∷ p 1 ∷ m 3 ∷ p 1 ∷ m 1 ∷ p 8 ∷ p 19 ∷ m 13 ∷ p 4 ∷ m 2 ∷ p 1 ∷ m 1 ∷ p 0 ∷ p 48 ∷ m 1 ∷ p 48 ∷ m 15 ∷ m 4 ∷ m 2 ∷ m 1 ∷ m 1 ∷ p 1 ∷ p 60 ∷ m 28 ∷ m 42 ∷ p 5 ∷ m 6 ∷ p 1 ∷ m 2 ∷ p 11 ∷ m 11 ∷ m 51 ∷ p 11 ∷ m 2 ∷ m 10 ∷ m 2 ∷ p 13 ∷ p 2 ∷ m 6 ∷ m 4 ∷ p 4 ∷ m 2 ∷ m 3 ∷ p 2 ∷ p 2 ∷ []) ∷
    (p 7 ∷ p 35 ∷ p 17 ∷ m 4 ∷ m 1 ∷ p 0 ∷ p 0 ∷ p 0 ∷ p 3 ∷ p 8 ∷ p 54 ∷ m 17 ∷ p 1 ∷ m 2 ∷ p 1 ∷ m 1 ∷ p 10 ∷ p 14 ∷ m 11 ∷ m 34 ∷ p 4 ∷ m 4 ∷ p 1 ∷ m 1 ∷ m 80 ∷ m 7 ∷ m 6 ∷ p 2 ∷ p 15 ∷ p 0 ∷ p 3 ∷ p 0 ∷ m 16 ∷ p 46 ∷ p 1 ∷ p 3 ∷ p 2 ∷ p 7 ∷ m 24 ∷ p 0 ∷ p 2 ∷ m 2 ∷ m 5 ∷ p 8 ∷ p 1 ∷ m 1 ∷ m 2 ∷ p 2 ∷ []) ∷
    (m 13 ∷ m 27 ∷ m 101 ∷ p 24 ∷ m 8 ∷ p 6 ∷ m 3 ∷ p 2 ∷ p 11 ∷ p 43 ∷ p 6 ∷ p 28 ∷ m 6 ∷ p 3 ∷ m 1 ∷ p 1 ∷ m 3 ∷ p 14 ∷ p 21 ∷ m 12 ∷ m 7 ∷ m 2 ∷ m 1 ∷ m 1 ∷ m 23 ∷ p 10 ∷ m 4 ∷ m 12 ∷ p 3 ∷ p 0 ∷ p 1 ∷ p 0 ∷ p 2 ∷ p 9 ∷ m 10 ∷ p 0 ∷ p 1 ∷ m 5 ∷ m 4 ∷ p 4 ∷ p 2 ∷ m 2 ∷ p 2 ∷ p 2 ∷ p 0 ∷ m 2 ∷ p 1 ∷ p 0 ∷ []) ∷
    (m 11 ∷ m 13 ∷ m 3 ∷ m 10 ∷ p 3 ∷ m 1 ∷ p 1 ∷ p 0 ∷ m 19 ∷ m 19 ∷ m 37 ∷ p 8 ∷ p 4 ∷ p 2 ∷ p 0 ∷ p 1 ∷ m 12 ∷ m 30 ∷ p 3 ∷ m 9 ∷ p 5 ∷ p 0 ∷ p 1 ∷ p 0 ∷ m 56 ∷ m 9 ∷ m 47 ∷ p 8 ∷ p 21 ∷ p 1 ∷ p 4 ∷ p 1 ∷ m 11 ∷ m 30 ∷ p 10 ∷ p 59 ∷ m 2 ∷ p 8 ∷ p 41 ∷ p 8 ∷ p 2 ∷ p 5 ∷ p 6 ∷ m 7 ∷ m 1 ∷ p 3 ∷ p 5 ∷ m 2 ∷ []) ∷
    (m 4 ∷ m 10 ∷ m 24 ∷ m 11 ∷ p 3 ∷ m 2 ∷ p 0 ∷ m 1 ∷ m 6 ∷ m 37 ∷ m 45 ∷ m 17 ∷ p 8 ∷ m 2 ∷ p 2 ∷ m 1 ∷ p 17 ∷ p 14 ∷ m 58 ∷ p 14 ∷ p 15 ∷ p 0 ∷ p 2 ∷ p 0 ∷ m 10 ∷ p 34 ∷ m 7 ∷ p 28 ∷ p 4 ∷ m 1 ∷ p 1 ∷ p 0 ∷ p 23 ∷ p 34 ∷ m 31 ∷ p 4 ∷ p 10 ∷ m 22 ∷ m 30 ∷ p 22 ∷ p 4 ∷ m 15 ∷ p 9 ∷ p 20 ∷ p 2 ∷ m 5 ∷ p 9 ∷ p 4 ∷ []) ∷
    (m 2 ∷ p 1 ∷ p 13 ∷ m 17 ∷ p 3 ∷ m 5 ∷ p 1 ∷ m 2 ∷ p 3 ∷ p 0 ∷ m 55 ∷ p 22 ∷ p 6 ∷ p 1 ∷ p 1 ∷ p 0 ∷ p 8 ∷ p 74 ∷ p 21 ∷ p 40 ∷ m 14 ∷ p 0 ∷ m 2 ∷ p 0 ∷ m 36 ∷ m 8 ∷ p 11 ∷ m 13 ∷ m 23 ∷ p 1 ∷ m 3 ∷ p 0 ∷ m 36 ∷ p 6 ∷ p 16 ∷ m 14 ∷ p 2 ∷ p 19 ∷ m 4 ∷ m 12 ∷ m 1 ∷ p 0 ∷ m 7 ∷ m 3 ∷ p 0 ∷ p 2 ∷ m 2 ∷ m 1 ∷ []) ∷
    (p 3 ∷ p 1 ∷ p 5 ∷ m 15 ∷ p 1 ∷ m 2 ∷ p 1 ∷ m 1 ∷ p 7 ∷ p 4 ∷ m 7 ∷ p 29 ∷ m 1 ∷ p 2 ∷ m 1 ∷ p 1 ∷ p 8 ∷ p 3 ∷ p 12 ∷ m 14 ∷ m 9 ∷ m 1 ∷ m 1 ∷ p 0 ∷ p 4 ∷ p 29 ∷ m 15 ∷ p 31 ∷ p 10 ∷ p 4 ∷ p 1 ∷ p 1 ∷ p 61 ∷ p 22 ∷ p 55 ∷ p 14 ∷ p 13 ∷ p 3 ∷ m 9 ∷ m 65 ∷ p 1 ∷ m 11 ∷ m 21 ∷ m 7 ∷ p 0 ∷ p 0 ∷ m 1 ∷ p 3 ∷ []) ∷
    (m 4 ∷ m 8 ∷ m 1 ∷ m 50 ∷ p 6 ∷ m 4 ∷ p 2 ∷ m 2 ∷ m 1 ∷ p 5 ∷ m 22 ∷ p 20 ∷ p 6 ∷ p 1 ∷ p 0 ∷ p 0 ∷ m 16 ∷ m 15 ∷ p 18 ∷ m 29 ∷ m 11 ∷ p 2 ∷ m 2 ∷ p 1 ∷ p 40 ∷ m 45 ∷ m 19 ∷ m 22 ∷ p 31 ∷ p 2 ∷ p 4 ∷ p 1 ∷ m 25 ∷ p 41 ∷ p 0 ∷ p 12 ∷ p 9 ∷ p 7 ∷ m 42 ∷ p 12 ∷ m 3 ∷ m 14 ∷ p 2 ∷ p 28 ∷ p 5 ∷ p 1 ∷ p 6 ∷ p 2 ∷ []) ∷
    (p 5 ∷ m 1 ∷ p 26 ∷ p 102 ∷ m 13 ∷ p 12 ∷ m 4 ∷ p 4 ∷ m 4 ∷ m 2 ∷ m 40 ∷ m 7 ∷ m 23 ∷ p 3 ∷ m 5 ∷ p 1 ∷ m 1 ∷ p 5 ∷ p 8 ∷ m 23 ∷ p 7 ∷ p 2 ∷ p 1 ∷ p 1 ∷ p 10 ∷ m 11 ∷ m 13 ∷ m 3 ∷ p 12 ∷ m 3 ∷ p 2 ∷ p 0 ∷ m 9 ∷ p 23 ∷ p 4 ∷ p 9 ∷ p 14 ∷ p 9 ∷ m 14 ∷ m 4 ∷ p 0 ∷ m 12 ∷ m 7 ∷ p 6 ∷ p 3 ∷ p 0 ∷ p 6 ∷ p 3 ∷ []) ∷
    (m 5 ∷ m 6 ∷ m 27 ∷ m 22 ∷ m 12 ∷ p 0 ∷ m 3 ∷ p 0 ∷ m 5 ∷ p 8 ∷ m 20 ∷ m 83 ∷ p 0 ∷ p 0 ∷ p 0 ∷ p 0 ∷ p 9 ∷ p 7 ∷ p 24 ∷ m 20 ∷ p 41 ∷ p 3 ∷ p 6 ∷ p 1 ∷ p 15 ∷ p 20 ∷ p 12 ∷ p 11 ∷ p 17 ∷ m 9 ∷ p 1 ∷ m 2 ∷ m 26 ∷ m 1 ∷ p 18 ∷ m 1 ∷ m 12 ∷ p 32 ∷ p 3 ∷ m 18 ∷ m 5 ∷ p 10 ∷ m 25 ∷ m 5 ∷ m 2 ∷ p 1 ∷ m 8 ∷ p 10 ∷ []) ∷
    []

-- set 1, index 2
unfoldable pub of-3 : List (List ℤ)
of-3 =
    (p 80 ∷ m 49 ∷ p 6 ∷ m 4 ∷ p 1 ∷ m 1 ∷ p 1 ∷ m 1 ∷ m 72 ∷ p 36 ∷ p 4 ∷ p 0 ∷ p 1 ∷ p 0 ∷ p 0 ∷ p 0 ∷ p 26 ∷ p 0 ∷ m 12 ∷ p 2 ∷ m 2 ∷ p 1 ∷ m 1 ∷ p 0 ∷ m 7 ∷ m 9 ∷ p 6 ∷ p 1 ∷ p 0 ∷ p 0 ∷ p 0 ∷ p 0 ∷ p 3 ∷ p 5 ∷ m 1 ∷ m 2 ∷ m 2 ∷ m 2 ∷ m 1 ∷ p 1 ∷ p 1 ∷ p 1 ∷ p 0 ∷ p 0 ∷ m 1 ∷ m 1 ∷ p 0 ∷ p 0 ∷ []) ∷
    (m 72 ∷ m 6 ∷ p 17 ∷ p 0 ∷ p 3 ∷ p 0 ∷ p 1 ∷ p 0 ∷ m 23 ∷ p 58 ∷ m 21 ∷ p 2 ∷ m 3 ∷ p 1 ∷ m 1 ∷ p 0 ∷ p 55 ∷ m 46 ∷ m 1 ∷ p 6 ∷ m 2 ∷ p 1 ∷ m 1 ∷ p 0 ∷ m 22 ∷ p 7 ∷ p 17 ∷ m 7 ∷ p 2 ∷ m 1 ∷ p 1 ∷ p 0 ∷ p 9 ∷ p 5 ∷ m 12 ∷ p 1 ∷ m 3 ∷ m 4 ∷ p 4 ∷ p 2 ∷ p 4 ∷ p 1 ∷ m 2 ∷ m 1 ∷ m 1 ∷ m 1 ∷ p 1 ∷ p 0 ∷ []) ∷
    (m 50 ∷ p 19 ∷ m 15 ∷ p 4 ∷ m 1 ∷ p 1 ∷ m 1 ∷ p 1 ∷ m 58 ∷ m 2 ∷ p 30 ∷ m 3 ∷ p 4 ∷ m 1 ∷ p 2 ∷ p 0 ∷ p 6 ∷ p 57 ∷ m 34 ∷ p 0 ∷ m 2 ∷ p 0 ∷ m 1 ∷ p 0 ∷ p 34 ∷ m 48 ∷ m 2 ∷ p 14 ∷ m 4 ∷ p 3 ∷ m 1 ∷ p 1 ∷ m 10 ∷ p 7 ∷ p 21 ∷ m 10 ∷ p 6 ∷ p 1 ∷ m 11 ∷ p 0 ∷ m 1 ∷ m 1 ∷ p 4 ∷ p 2 ∷ p 3 ∷ p 0 ∷ m 2 ∷ m 1 ∷ []) ∷
    (m 33 ∷ m 43 ∷ p 28 ∷ m 7 ∷ p 4 ∷ m 2 ∷ p 2 ∷ m 1 ∷ m 38 ∷ p 11 ∷ m 8 ∷ p 4 ∷ p 1 ∷ p 1 ∷ p 0 ∷ p 0 ∷ m 55 ∷ p 24 ∷ p 26 ∷ m 5 ∷ p 2 ∷ m 1 ∷ p 1 ∷ p 0 ∷ p 15 ∷ p 46 ∷ m 40 ∷ m 1 ∷ m 1 ∷ p 0 ∷ m 1 ∷ p 0 ∷ p 17 ∷ m 38 ∷ p 1 ∷ p 17 ∷ m 3 ∷ p 11 ∷ p 15 ∷ m 11 ∷ p 3 ∷ m 1 ∷ m 10 ∷ p 1 ∷ p 0 ∷ p 1 ∷ p 3 ∷ p 2 ∷ []) ∷
    (p 10 ∷ p 66 ∷ m 21 ∷ m 3 ∷ m 3 ∷ p 0 ∷ m 1 ∷ p 0 ∷ m 53 ∷ m 41 ∷ m 2 ∷ p 16 ∷ m 1 ∷ p 4 ∷ m 1 ∷ p 1 ∷ p 36 ∷ m 5 ∷ p 41 ∷ m 20 ∷ p 3 ∷ m 3 ∷ p 1 ∷ m 1 ∷ m 30 ∷ p 26 ∷ m 32 ∷ m 3 ∷ p 7 ∷ m 2 ∷ p 2 ∷ m 1 ∷ p 15 ∷ m 8 ∷ p 1 ∷ p 17 ∷ m 1 ∷ m 2 ∷ p 4 ∷ m 8 ∷ p 2 ∷ p 0 ∷ m 1 ∷ p 3 ∷ p 0 ∷ p 0 ∷ p 0 ∷ m 1 ∷ []) ∷
    (p 18 ∷ p 14 ∷ p 13 ∷ m 9 ∷ p 2 ∷ m 2 ∷ p 1 ∷ m 1 ∷ p 34 ∷ p 32 ∷ m 31 ∷ p 12 ∷ m 5 ∷ p 2 ∷ m 2 ∷ p 1 ∷ p 40 ∷ p 4 ∷ m 4 ∷ m 9 ∷ m 3 ∷ m 2 ∷ m 1 ∷ m 1 ∷ p 27 ∷ m 31 ∷ m 43 ∷ p 19 ∷ m 2 ∷ p 3 ∷ m 1 ∷ p 1 ∷ p 7 ∷ m 49 ∷ p 52 ∷ p 10 ∷ m 11 ∷ p 22 ∷ p 7 ∷ m 26 ∷ m 1 ∷ m 6 ∷ m 9 ∷ p 6 ∷ m 2 ∷ p 2 ∷ p 4 ∷ m 2 ∷ []) ∷
    (p 21 ∷ p 66 ∷ m 1 ∷ p 9 ∷ m 4 ∷ p 2 ∷ m 1 ∷ p 1 ∷ m 21 ∷ p 41 ∷ m 30 ∷ m 10 ∷ p 0 ∷ m 2 ∷ p 0 ∷ m 1 ∷ m 35 ∷ m 17 ∷ m 3 ∷ p 26 ∷ m 6 ∷ p 5 ∷ m 2 ∷ p 2 ∷ p 56 ∷ p 3 ∷ p 18 ∷ m 25 ∷ m 1 ∷ m 2 ∷ m 1 ∷ m 1 ∷ m 15 ∷ m 13 ∷ m 27 ∷ p 9 ∷ p 9 ∷ m 6 ∷ p 20 ∷ p 5 ∷ m 3 ∷ p 2 ∷ m 6 ∷ m 9 ∷ p 3 ∷ m 3 ∷ p 1 ∷ p 5 ∷ []) ∷
    (p 1 ∷ m 6 ∷ m 24 ∷ p 17 ∷ m 5 ∷ p 3 ∷ m 2 ∷ p 1 ∷ p 24 ∷ p 10 ∷ p 39 ∷ m 21 ∷ p 5 ∷ m 4 ∷ p 2 ∷ m 1 ∷ p 33 ∷ p 32 ∷ m 30 ∷ p 4 ∷ m 3 ∷ m 1 ∷ m 1 ∷ p 0 ∷ m 4 ∷ p 13 ∷ m 16 ∷ m 10 ∷ p 0 ∷ m 1 ∷ p 0 ∷ p 0 ∷ p 24 ∷ m 26 ∷ m 37 ∷ p 33 ∷ p 5 ∷ m 32 ∷ p 55 ∷ m 5 ∷ m 7 ∷ p 22 ∷ m 14 ∷ m 22 ∷ p 1 ∷ m 9 ∷ m 3 ∷ p 13 ∷ []) ∷
    (p 9 ∷ p 33 ∷ m 24 ∷ p 1 ∷ p 4 ∷ p 0 ∷ p 1 ∷ p 0 ∷ p 6 ∷ p 50 ∷ p 26 ∷ p 1 ∷ m 10 ∷ p 0 ∷ m 2 ∷ p 0 ∷ m 27 ∷ p 1 ∷ m 28 ∷ m 21 ∷ p 16 ∷ m 5 ∷ p 3 ∷ m 2 ∷ m 23 ∷ p 36 ∷ m 2 ∷ p 40 ∷ m 17 ∷ p 4 ∷ m 3 ∷ p 1 ∷ p 43 ∷ m 13 ∷ p 4 ∷ m 41 ∷ m 19 ∷ m 2 ∷ m 24 ∷ p 17 ∷ p 11 ∷ m 4 ∷ p 8 ∷ p 4 ∷ m 3 ∷ m 3 ∷ m 3 ∷ m 3 ∷ []) ∷
    (m 7 ∷ m 9 ∷ m 32 ∷ p 14 ∷ m 3 ∷ p 3 ∷ m 1 ∷ p 1 ∷ m 23 ∷ m 28 ∷ p 0 ∷ m 5 ∷ m 1 ∷ p 0 ∷ p 0 ∷ p 0 ∷ m 36 ∷ m 59 ∷ m 24 ∷ p 14 ∷ p 4 ∷ p 2 ∷ p 1 ∷ p 1 ∷ m 23 ∷ m 26 ∷ p 23 ∷ p 26 ∷ m 3 ∷ p 5 ∷ p 0 ∷ p 2 ∷ p 10 ∷ m 26 ∷ p 38 ∷ p 7 ∷ m 12 ∷ p 11 ∷ p 42 ∷ m 22 ∷ m 5 ∷ p 20 ∷ m 14 ∷ m 15 ∷ m 1 ∷ m 2 ∷ p 1 ∷ p 6 ∷ []) ∷
    (p 6 ∷ p 30 ∷ p 69 ∷ m 18 ∷ p 5 ∷ m 4 ∷ p 3 ∷ m 1 ∷ m 3 ∷ m 11 ∷ m 34 ∷ m 16 ∷ p 9 ∷ m 4 ∷ p 2 ∷ m 1 ∷ m 16 ∷ p 35 ∷ m 35 ∷ p 30 ∷ m 9 ∷ p 3 ∷ m 2 ∷ p 1 ∷ m 57 ∷ m 13 ∷ p 6 ∷ p 4 ∷ m 5 ∷ p 5 ∷ m 1 ∷ p 1 ∷ p 28 ∷ p 10 ∷ p 4 ∷ p 7 ∷ p 0 ∷ m 15 ∷ p 7 ∷ m 10 ∷ m 1 ∷ p 7 ∷ m 2 ∷ p 2 ∷ p 1 ∷ m 3 ∷ p 0 ∷ p 0 ∷ []) ∷
    (p 1 ∷ m 8 ∷ p 24 ∷ m 3 ∷ p 7 ∷ m 2 ∷ p 2 ∷ m 1 ∷ m 6 ∷ m 51 ∷ m 6 ∷ m 4 ∷ m 5 ∷ p 0 ∷ m 1 ∷ p 0 ∷ p 38 ∷ m 1 ∷ p 0 ∷ p 25 ∷ p 6 ∷ p 2 ∷ p 1 ∷ p 1 ∷ p 47 ∷ p 20 ∷ p 35 ∷ p 1 ∷ m 27 ∷ p 1 ∷ m 5 ∷ p 0 ∷ p 37 ∷ m 37 ∷ m 9 ∷ m 47 ∷ m 28 ∷ p 5 ∷ p 0 ∷ p 18 ∷ p 8 ∷ p 6 ∷ p 0 ∷ m 8 ∷ m 4 ∷ m 3 ∷ m 3 ∷ p 1 ∷ []) ∷
    (p 4 ∷ p 10 ∷ p 4 ∷ p 17 ∷ m 9 ∷ p 4 ∷ m 2 ∷ p 1 ∷ p 5 ∷ p 14 ∷ p 32 ∷ m 15 ∷ p 9 ∷ m 3 ∷ p 2 ∷ m 1 ∷ p 7 ∷ p 13 ∷ p 19 ∷ p 15 ∷ m 8 ∷ p 1 ∷ m 1 ∷ p 0 ∷ p 3 ∷ p 25 ∷ p 30 ∷ m 18 ∷ p 1 ∷ m 2 ∷ p 0 ∷ m 1 ∷ p 11 ∷ p 24 ∷ p 22 ∷ m 11 ∷ m 3 ∷ p 37 ∷ m 13 ∷ m 58 ∷ m 5 ∷ p 12 ∷ m 63 ∷ p 26 ∷ p 9 ∷ m 15 ∷ p 11 ∷ p 8 ∷ []) ∷
    (m 3 ∷ m 9 ∷ m 23 ∷ p 10 ∷ m 10 ∷ p 3 ∷ m 3 ∷ p 1 ∷ m 5 ∷ m 14 ∷ m 16 ∷ m 27 ∷ p 13 ∷ m 5 ∷ p 2 ∷ m 1 ∷ m 1 ∷ m 13 ∷ m 30 ∷ p 11 ∷ m 5 ∷ p 2 ∷ m 1 ∷ p 0 ∷ m 5 ∷ m 8 ∷ m 22 ∷ m 16 ∷ p 10 ∷ p 0 ∷ p 1 ∷ p 0 ∷ p 0 ∷ m 29 ∷ m 27 ∷ p 6 ∷ m 27 ∷ m 10 ∷ m 30 ∷ p 9 ∷ m 3 ∷ m 10 ∷ m 7 ∷ p 77 ∷ p 9 ∷ m 13 ∷ p 45 ∷ m 8 ∷ []) ∷
    (p 2 ∷ p 11 ∷ p 22 ∷ p 2 ∷ p 9 ∷ m 2 ∷ p 2 ∷ p 0 ∷ m 6 ∷ m 7 ∷ p 20 ∷ m 32 ∷ m 3 ∷ m 4 ∷ p 0 ∷ m 1 ∷ p 13 ∷ m 5 ∷ m 28 ∷ p 6 ∷ p 18 ∷ m 4 ∷ p 3 ∷ m 1 ∷ m 26 ∷ p 27 ∷ m 14 ∷ p 6 ∷ m 20 ∷ p 0 ∷ m 2 ∷ p 0 ∷ m 76 ∷ m 26 ∷ m 4 ∷ m 7 ∷ p 12 ∷ p 51 ∷ p 5 ∷ p 24 ∷ p 7 ∷ m 17 ∷ m 16 ∷ m 12 ∷ m 5 ∷ p 4 ∷ p 2 ∷ p 13 ∷ []) ∷
    (p 2 ∷ m 3 ∷ p 8 ∷ p 14 ∷ m 5 ∷ p 3 ∷ m 1 ∷ p 1 ∷ m 2 ∷ m 11 ∷ p 5 ∷ m 18 ∷ p 8 ∷ m 3 ∷ p 2 ∷ m 1 ∷ p 12 ∷ m 23 ∷ m 19 ∷ p 22 ∷ p 2 ∷ p 0 ∷ p 1 ∷ p 0 ∷ p 23 ∷ p 41 ∷ m 7 ∷ p 35 ∷ m 10 ∷ p 4 ∷ m 1 ∷ p 1 ∷ p 5 ∷ p 7 ∷ p 23 ∷ p 5 ∷ p 69 ∷ m 38 ∷ m 8 ∷ m 32 ∷ m 15 ∷ m 31 ∷ p 24 ∷ p 11 ∷ p 2 ∷ p 18 ∷ p 11 ∷ m 15 ∷ []) ∷
    []

-- set 2, index 1
unfoldable pub of-4 : List (List ℤ)
of-4 =
    (m 121 ∷ p 33 ∷ p 4 ∷ p 4 ∷ p 1 ∷ p 2 ∷ p 0 ∷ p 1 ∷ m 1 ∷ m 1 ∷ p 1 ∷ p 0 ∷ p 0 ∷ p 0 ∷ p 0 ∷ p 0 ∷ p 24 ∷ m 5 ∷ m 1 ∷ m 1 ∷ p 0 ∷ p 0 ∷ p 0 ∷ p 0 ∷ p 5 ∷ m 1 ∷ p 0 ∷ p 0 ∷ p 0 ∷ p 0 ∷ p 0 ∷ p 0 ∷ p 3 ∷ m 1 ∷ p 0 ∷ p 0 ∷ p 2 ∷ m 1 ∷ p 0 ∷ p 0 ∷ p 2 ∷ m 1 ∷ p 0 ∷ p 0 ∷ p 1 ∷ p 0 ∷ p 0 ∷ p 0 ∷ []) ∷
    (p 0 ∷ m 2 ∷ p 0 ∷ p 0 ∷ p 0 ∷ p 0 ∷ p 0 ∷ p 0 ∷ p 121 ∷ m 23 ∷ m 7 ∷ m 3 ∷ m 2 ∷ m 1 ∷ m 1 ∷ p 0 ∷ p 17 ∷ p 1 ∷ m 2 ∷ p 0 ∷ p 0 ∷ p 0 ∷ p 0 ∷ p 0 ∷ m 27 ∷ p 4 ∷ p 2 ∷ p 0 ∷ p 0 ∷ p 0 ∷ p 0 ∷ p 0 ∷ m 12 ∷ p 2 ∷ p 1 ∷ p 0 ∷ m 5 ∷ p 1 ∷ p 0 ∷ p 0 ∷ m 1 ∷ p 0 ∷ p 0 ∷ p 0 ∷ m 2 ∷ p 0 ∷ p 0 ∷ p 0 ∷ []) ∷
    (m 20 ∷ p 19 ∷ m 5 ∷ p 2 ∷ m 1 ∷ p 1 ∷ p 0 ∷ p 0 ∷ p 16 ∷ p 3 ∷ m 2 ∷ p 0 ∷ p 0 ∷ p 0 ∷ p 0 ∷ p 0 ∷ m 120 ∷ p 14 ∷ p 8 ∷ p 1 ∷ p 3 ∷ p 1 ∷ p 1 ∷ p 0 ∷ m 18 ∷ m 2 ∷ p 3 ∷ p 0 ∷ p 1 ∷ p 0 ∷ p 0 ∷ p 0 ∷ p 17 ∷ m 3 ∷ m 1 ∷ p 0 ∷ p 6 ∷ m 1 ∷ m 1 ∷ p 0 ∷ p 2 ∷ p 0 ∷ p 0 ∷ p 0 ∷ p 2 ∷ p 0 ∷ p 0 ∷ p 0 ∷ []) ∷
    (p 32 ∷ p 108 ∷ m 43 ∷ p 10 ∷ m 9 ∷ p 3 ∷ m 3 ∷ p 1 ∷ p 4 ∷ p 19 ∷ m 7 ∷ p 1 ∷ m 1 ∷ p 0 ∷ p 0 ∷ p 0 ∷ p 11 ∷ m 30 ∷ p 9 ∷ m 2 ∷ p 1 ∷ m 1 ∷ p 0 ∷ p 0 ∷ p 0 ∷ m 8 ∷ p 2 ∷ p 0 ∷ p 0 ∷ p 0 ∷ p 0 ∷ p 0 ∷ m 7 ∷ m 1 ∷ p 2 ∷ p 0 ∷ m 3 ∷ m 1 ∷ p 1 ∷ p 0 ∷ m 2 ∷ m 2 ∷ p 1 ∷ p 0 ∷ p 0 ∷ p 0 ∷ p 0 ∷ p 0 ∷ []) ∷
    (m 3 ∷ p 0 ∷ m 1 ∷ p 0 ∷ p 0 ∷ p 0 ∷ p 0 ∷ p 0 ∷ m 29 ∷ p 11 ∷ m 2 ∷ p 1 ∷ p 0 ∷ p 0 ∷ p 0 ∷ p 0 ∷ p 12 ∷ p 7 ∷ m 1 ∷ p 0 ∷ p 0 ∷ p 0 ∷ p 0 ∷ p 0 ∷ m 117 ∷ p 12 ∷ p 9 ∷ p 1 ∷ p 3 ∷ p 0 ∷ p 1 ∷ p 0 ∷ m 32 ∷ m 3 ∷ p 3 ∷ p 0 ∷ p 12 ∷ m 2 ∷ m 1 ∷ p 0 ∷ p 7 ∷ p 0 ∷ p 0 ∷ p 0 ∷ p 1 ∷ p 0 ∷ p 0 ∷ p 0 ∷ []) ∷
    (m 4 ∷ m 12 ∷ m 3 ∷ p 1 ∷ m 1 ∷ p 0 ∷ p 0 ∷ p 0 ∷ p 19 ∷ p 105 ∷ m 31 ∷ p 7 ∷ m 6 ∷ p 1 ∷ m 2 ∷ p 0 ∷ p 9 ∷ p 46 ∷ m 6 ∷ p 0 ∷ p 0 ∷ p 0 ∷ p 0 ∷ p 0 ∷ p 8 ∷ m 29 ∷ p 9 ∷ m 3 ∷ p 1 ∷ p 0 ∷ p 0 ∷ p 0 ∷ m 3 ∷ m 19 ∷ p 3 ∷ p 0 ∷ m 4 ∷ m 6 ∷ p 1 ∷ p 0 ∷ p 0 ∷ p 0 ∷ p 0 ∷ p 0 ∷ p 0 ∷ m 1 ∷ p 0 ∷ p 0 ∷ []) ∷
    (p 7 ∷ p 1 ∷ p 2 ∷ p 0 ∷ p 0 ∷ p 0 ∷ p 0 ∷ p 0 ∷ p 4 ∷ p 3 ∷ m 2 ∷ p 0 ∷ p 0 ∷ p 0 ∷ p 0 ∷ p 0 ∷ p 22 ∷ m 8 ∷ p 1 ∷ m 1 ∷ p 0 ∷ p 0 ∷ p 0 ∷ p 0 ∷ m 28 ∷ m 9 ∷ p 4 ∷ p 0 ∷ p 1 ∷ p 0 ∷ p 0 ∷ p 0 ∷ p 117 ∷ m 10 ∷ m 8 ∷ p 0 ∷ p 32 ∷ p 1 ∷ m 4 ∷ p 0 ∷ p 3 ∷ p 1 ∷ m 1 ∷ p 0 ∷ m 3 ∷ p 1 ∷ p 0 ∷ p 0 ∷ []) ∷
    (m 8 ∷ m 31 ∷ p 14 ∷ m 4 ∷ p 3 ∷ m 1 ∷ p 1 ∷ p 0 ∷ p 9 ∷ p 43 ∷ p 0 ∷ p 1 ∷ m 1 ∷ p 0 ∷ p 0 ∷ p 0 ∷ m 13 ∷ m 105 ∷ p 17 ∷ m 2 ∷ p 2 ∷ p 0 ∷ p 0 ∷ p 0 ∷ m 8 ∷ m 25 ∷ m 3 ∷ p 0 ∷ p 0 ∷ p 0 ∷ p 0 ∷ p 0 ∷ m 7 ∷ p 32 ∷ m 5 ∷ p 1 ∷ m 1 ∷ p 4 ∷ p 0 ∷ p 0 ∷ p 2 ∷ m 1 ∷ p 0 ∷ p 0 ∷ p 1 ∷ p 0 ∷ m 1 ∷ p 0 ∷ []) ∷
    (m 15 ∷ m 43 ∷ m 100 ∷ p 23 ∷ m 12 ∷ p 6 ∷ m 4 ∷ p 2 ∷ m 6 ∷ m 17 ∷ m 48 ∷ p 10 ∷ m 5 ∷ p 2 ∷ m 1 ∷ p 1 ∷ p 1 ∷ m 5 ∷ p 19 ∷ m 6 ∷ p 3 ∷ m 1 ∷ p 1 ∷ p 0 ∷ p 2 ∷ p 7 ∷ p 15 ∷ m 3 ∷ p 1 ∷ m 1 ∷ p 0 ∷ p 0 ∷ p 4 ∷ p 10 ∷ p 5 ∷ m 1 ∷ p 0 ∷ p 3 ∷ p 1 ∷ p 0 ∷ m 2 ∷ p 1 ∷ p 2 ∷ p 0 ∷ m 1 ∷ p 1 ∷ p 1 ∷ p 0 ∷ []) ∷
    (m 3 ∷ p 1 ∷ p 2 ∷ p 0 ∷ p 0 ∷ p 0 ∷ p 0 ∷ p 0 ∷ m 6 ∷ p 3 ∷ p 1 ∷ p 0 ∷ p 0 ∷ p 0 ∷ p 0 ∷ p 0 ∷ p 0 ∷ p 3 ∷ m 2 ∷ p 0 ∷ p 0 ∷ p 0 ∷ p 0 ∷ p 0 ∷ m 20 ∷ p 8 ∷ m 2 ∷ p 0 ∷ p 0 ∷ p 0 ∷ p 0 ∷ p 0 ∷ p 30 ∷ p 13 ∷ m 3 ∷ p 0 ∷ m 116 ∷ p 6 ∷ p 10 ∷ p 0 ∷ m 35 ∷ m 5 ∷ p 4 ∷ p 0 ∷ m 3 ∷ m 1 ∷ p 0 ∷ p 0 ∷ []) ∷
    (m 1 ∷ m 6 ∷ m 3 ∷ p 2 ∷ m 1 ∷ p 0 ∷ p 0 ∷ p 0 ∷ m 6 ∷ m 35 ∷ p 9 ∷ p 0 ∷ p 2 ∷ p 0 ∷ p 0 ∷ p 0 ∷ p 1 ∷ m 6 ∷ p 11 ∷ m 2 ∷ p 2 ∷ p 0 ∷ p 1 ∷ p 0 ∷ m 9 ∷ m 100 ∷ p 17 ∷ m 1 ∷ p 1 ∷ p 0 ∷ p 0 ∷ p 0 ∷ m 10 ∷ m 63 ∷ p 1 ∷ p 2 ∷ m 17 ∷ p 3 ∷ m 4 ∷ p 0 ∷ m 1 ∷ p 9 ∷ m 1 ∷ p 0 ∷ p 3 ∷ p 4 ∷ m 1 ∷ p 0 ∷ []) ∷
    (m 5 ∷ m 14 ∷ m 48 ∷ p 2 ∷ m 5 ∷ p 1 ∷ m 2 ∷ p 0 ∷ p 10 ∷ p 24 ∷ p 99 ∷ m 17 ∷ p 10 ∷ m 4 ∷ p 3 ∷ m 1 ∷ p 4 ∷ p 14 ∷ p 32 ∷ p 0 ∷ p 2 ∷ p 0 ∷ p 1 ∷ p 0 ∷ m 4 ∷ p 0 ∷ m 39 ∷ p 6 ∷ m 4 ∷ p 1 ∷ m 1 ∷ p 0 ∷ p 2 ∷ m 3 ∷ m 4 ∷ p 0 ∷ p 2 ∷ m 2 ∷ m 2 ∷ p 0 ∷ p 0 ∷ p 0 ∷ m 1 ∷ p 0 ∷ p 0 ∷ m 1 ∷ m 1 ∷ p 0 ∷ []) ∷
    (m 2 ∷ p 0 ∷ p 2 ∷ p 0 ∷ p 0 ∷ p 0 ∷ p 0 ∷ p 0 ∷ m 2 ∷ p 0 ∷ p 1 ∷ p 0 ∷ p 0 ∷ p 0 ∷ p 0 ∷ p 0 ∷ m 1 ∷ m 1 ∷ p 1 ∷ m 1 ∷ p 0 ∷ p 0 ∷ p 0 ∷ p 0 ∷ m 1 ∷ m 4 ∷ p 2 ∷ p 0 ∷ p 0 ∷ p 0 ∷ p 0 ∷ p 0 ∷ m 8 ∷ m 2 ∷ m 1 ∷ p 1 ∷ p 30 ∷ p 4 ∷ m 4 ∷ p 1 ∷ m 102 ∷ p 4 ∷ p 8 ∷ m 1 ∷ m 69 ∷ m 2 ∷ p 6 ∷ m 1 ∷ []) ∷
    (m 2 ∷ m 10 ∷ m 4 ∷ p 0 ∷ p 0 ∷ p 0 ∷ p 0 ∷ p 0 ∷ p 3 ∷ p 11 ∷ m 1 ∷ m 1 ∷ p 0 ∷ p 0 ∷ p 0 ∷ p 0 ∷ m 6 ∷ m 40 ∷ m 15 ∷ p 6 ∷ m 2 ∷ p 1 ∷ p 0 ∷ p 0 ∷ p 5 ∷ p 57 ∷ m 6 ∷ p 2 ∷ p 0 ∷ p 0 ∷ p 0 ∷ p 0 ∷ p 1 ∷ m 95 ∷ p 18 ∷ m 6 ∷ m 10 ∷ m 34 ∷ m 2 ∷ p 0 ∷ m 4 ∷ p 17 ∷ m 2 ∷ p 0 ∷ p 0 ∷ p 2 ∷ p 1 ∷ p 0 ∷ []) ∷
    (m 2 ∷ m 3 ∷ m 25 ∷ m 2 ∷ m 3 ∷ p 0 ∷ m 1 ∷ p 0 ∷ m 1 ∷ m 3 ∷ m 1 ∷ p 4 ∷ m 2 ∷ p 2 ∷ p 0 ∷ p 1 ∷ m 7 ∷ m 8 ∷ m 97 ∷ p 17 ∷ m 9 ∷ p 3 ∷ m 3 ∷ p 1 ∷ m 8 ∷ m 26 ∷ m 61 ∷ m 1 ∷ m 3 ∷ m 1 ∷ m 1 ∷ m 1 ∷ p 2 ∷ p 10 ∷ p 24 ∷ m 7 ∷ p 5 ∷ p 9 ∷ p 19 ∷ m 1 ∷ p 0 ∷ p 1 ∷ p 4 ∷ p 0 ∷ m 2 ∷ p 0 ∷ p 1 ∷ p 0 ∷ []) ∷
    (p 4 ∷ m 4 ∷ p 28 ∷ p 103 ∷ m 42 ∷ p 24 ∷ m 9 ∷ p 7 ∷ p 1 ∷ p 2 ∷ p 4 ∷ p 0 ∷ p 3 ∷ m 1 ∷ p 0 ∷ p 0 ∷ m 1 ∷ p 0 ∷ m 9 ∷ m 42 ∷ p 17 ∷ m 9 ∷ p 3 ∷ m 2 ∷ m 1 ∷ p 1 ∷ m 14 ∷ p 6 ∷ m 4 ∷ p 2 ∷ m 1 ∷ p 0 ∷ m 1 ∷ m 2 ∷ m 4 ∷ p 4 ∷ p 0 ∷ p 3 ∷ p 1 ∷ m 1 ∷ p 0 ∷ p 2 ∷ p 0 ∷ m 2 ∷ p 2 ∷ p 0 ∷ p 0 ∷ p 0 ∷ []) ∷
    []

-- set 2, index 2
unfoldable pub of-5 : List (List ℤ)
of-5 =
    (p 87 ∷ m 41 ∷ p 3 ∷ m 4 ∷ p 1 ∷ m 1 ∷ p 0 ∷ m 1 ∷ m 73 ∷ p 28 ∷ p 2 ∷ p 1 ∷ p 1 ∷ p 1 ∷ p 0 ∷ p 0 ∷ p 30 ∷ m 5 ∷ m 6 ∷ p 1 ∷ m 1 ∷ p 0 ∷ p 0 ∷ p 0 ∷ m 8 ∷ m 3 ∷ p 3 ∷ p 0 ∷ p 0 ∷ p 0 ∷ p 0 ∷ p 0 ∷ p 3 ∷ p 2 ∷ m 1 ∷ p 0 ∷ m 2 ∷ m 1 ∷ p 0 ∷ p 0 ∷ p 1 ∷ p 1 ∷ p 0 ∷ p 0 ∷ m 1 ∷ p 0 ∷ p 0 ∷ p 0 ∷ []) ∷
    (m 75 ∷ p 4 ∷ p 7 ∷ p 0 ∷ p 2 ∷ p 0 ∷ p 1 ∷ p 0 ∷ m 41 ∷ p 36 ∷ m 7 ∷ p 3 ∷ m 1 ∷ p 1 ∷ p 0 ∷ p 0 ∷ p 72 ∷ m 29 ∷ m 2 ∷ p 0 ∷ m 1 ∷ p 0 ∷ m 1 ∷ p 0 ∷ m 37 ∷ p 6 ∷ p 7 ∷ m 2 ∷ p 1 ∷ p 0 ∷ p 0 ∷ p 0 ∷ p 12 ∷ p 3 ∷ m 4 ∷ p 0 ∷ m 3 ∷ m 2 ∷ p 1 ∷ p 0 ∷ p 4 ∷ p 0 ∷ p 0 ∷ p 0 ∷ m 1 ∷ p 0 ∷ p 0 ∷ p 0 ∷ []) ∷
    (p 26 ∷ m 44 ∷ p 22 ∷ m 6 ∷ p 4 ∷ m 2 ∷ p 1 ∷ m 1 ∷ p 77 ∷ p 24 ∷ m 22 ∷ p 2 ∷ m 4 ∷ p 0 ∷ m 1 ∷ p 0 ∷ p 7 ∷ m 38 ∷ p 10 ∷ p 0 ∷ p 1 ∷ p 0 ∷ p 0 ∷ p 0 ∷ m 51 ∷ p 27 ∷ p 4 ∷ m 3 ∷ p 2 ∷ m 1 ∷ p 1 ∷ p 0 ∷ p 31 ∷ m 5 ∷ m 8 ∷ p 3 ∷ m 14 ∷ p 0 ∷ p 5 ∷ m 1 ∷ p 6 ∷ p 1 ∷ m 3 ∷ p 0 ∷ m 4 ∷ m 1 ∷ p 1 ∷ p 0 ∷ []) ∷
    (m 39 ∷ m 68 ∷ p 37 ∷ m 7 ∷ p 6 ∷ m 2 ∷ p 2 ∷ p 0 ∷ m 9 ∷ p 56 ∷ m 21 ∷ p 1 ∷ m 2 ∷ p 0 ∷ m 1 ∷ p 0 ∷ m 45 ∷ p 4 ∷ m 3 ∷ p 6 ∷ m 1 ∷ p 2 ∷ p 0 ∷ p 1 ∷ p 49 ∷ m 13 ∷ p 3 ∷ m 3 ∷ m 1 ∷ p 0 ∷ p 0 ∷ p 0 ∷ m 19 ∷ p 2 ∷ p 0 ∷ p 0 ∷ p 5 ∷ p 1 ∷ p 1 ∷ p 0 ∷ m 2 ∷ p 0 ∷ m 1 ∷ p 0 ∷ p 1 ∷ p 0 ∷ p 0 ∷ p 0 ∷ []) ∷
    (p 10 ∷ m 20 ∷ p 2 ∷ p 0 ∷ p 1 ∷ p 0 ∷ p 0 ∷ p 0 ∷ p 50 ∷ m 1 ∷ p 8 ∷ m 5 ∷ p 1 ∷ m 1 ∷ p 0 ∷ p 0 ∷ p 66 ∷ p 17 ∷ m 24 ∷ p 4 ∷ m 3 ∷ p 1 ∷ m 1 ∷ p 0 ∷ p 13 ∷ m 49 ∷ p 15 ∷ p 1 ∷ p 0 ∷ p 0 ∷ p 0 ∷ p 0 ∷ m 53 ∷ p 34 ∷ p 6 ∷ m 5 ∷ p 30 ∷ m 7 ∷ m 11 ∷ p 3 ∷ m 11 ∷ m 2 ∷ p 5 ∷ p 1 ∷ p 4 ∷ p 2 ∷ m 1 ∷ m 1 ∷ []) ∷
    (m 21 ∷ m 45 ∷ p 8 ∷ m 2 ∷ p 3 ∷ m 1 ∷ p 1 ∷ p 0 ∷ m 7 ∷ m 30 ∷ p 26 ∷ m 8 ∷ p 3 ∷ m 1 ∷ p 1 ∷ m 1 ∷ m 9 ∷ p 69 ∷ m 33 ∷ p 5 ∷ m 2 ∷ p 0 ∷ m 1 ∷ p 0 ∷ m 44 ∷ m 31 ∷ p 10 ∷ p 7 ∷ m 2 ∷ p 2 ∷ p 0 ∷ p 1 ∷ p 49 ∷ p 7 ∷ p 2 ∷ m 6 ∷ m 23 ∷ m 3 ∷ m 2 ∷ p 2 ∷ p 9 ∷ p 4 ∷ p 0 ∷ p 0 ∷ m 2 ∷ m 1 ∷ m 1 ∷ p 0 ∷ []) ∷
    (m 4 ∷ m 2 ∷ m 55 ∷ p 28 ∷ m 8 ∷ p 5 ∷ m 3 ∷ p 2 ∷ m 2 ∷ p 37 ∷ p 43 ∷ m 19 ∷ p 1 ∷ m 2 ∷ p 1 ∷ m 1 ∷ m 47 ∷ m 34 ∷ m 27 ∷ p 5 ∷ p 4 ∷ m 1 ∷ p 1 ∷ p 0 ∷ m 39 ∷ m 2 ∷ p 27 ∷ p 4 ∷ m 2 ∷ p 1 ∷ p 0 ∷ p 0 ∷ m 11 ∷ p 32 ∷ m 8 ∷ m 7 ∷ p 27 ∷ m 12 ∷ m 6 ∷ p 6 ∷ m 13 ∷ p 0 ∷ p 4 ∷ m 3 ∷ p 3 ∷ m 1 ∷ m 2 ∷ p 1 ∷ []) ∷
    (p 2 ∷ p 19 ∷ p 47 ∷ m 23 ∷ p 6 ∷ m 4 ∷ p 2 ∷ m 1 ∷ m 23 ∷ m 22 ∷ m 44 ∷ p 17 ∷ m 2 ∷ p 2 ∷ m 1 ∷ p 0 ∷ m 33 ∷ p 3 ∷ p 22 ∷ m 2 ∷ m 4 ∷ p 1 ∷ m 1 ∷ p 0 ∷ m 58 ∷ m 17 ∷ p 6 ∷ m 6 ∷ p 7 ∷ m 1 ∷ p 1 ∷ p 0 ∷ m 23 ∷ p 40 ∷ m 2 ∷ p 5 ∷ p 43 ∷ m 11 ∷ m 8 ∷ m 1 ∷ m 18 ∷ m 4 ∷ p 5 ∷ p 2 ∷ p 4 ∷ p 3 ∷ p 0 ∷ m 1 ∷ []) ∷
    (m 19 ∷ m 62 ∷ m 9 ∷ p 3 ∷ p 0 ∷ p 0 ∷ p 0 ∷ p 0 ∷ m 12 ∷ m 56 ∷ p 27 ∷ m 7 ∷ p 3 ∷ m 1 ∷ p 1 ∷ p 0 ∷ p 7 ∷ m 8 ∷ p 16 ∷ m 6 ∷ p 4 ∷ m 2 ∷ p 1 ∷ m 1 ∷ m 15 ∷ p 54 ∷ m 23 ∷ p 2 ∷ m 1 ∷ p 0 ∷ p 0 ∷ p 0 ∷ m 42 ∷ m 25 ∷ p 4 ∷ p 6 ∷ p 34 ∷ p 8 ∷ p 2 ∷ m 2 ∷ m 15 ∷ m 1 ∷ p 0 ∷ m 1 ∷ p 3 ∷ p 2 ∷ p 0 ∷ p 1 ∷ []) ∷
    (p 1 ∷ p 9 ∷ m 5 ∷ p 0 ∷ m 1 ∷ p 0 ∷ p 0 ∷ p 0 ∷ p 0 ∷ p 22 ∷ m 1 ∷ p 2 ∷ p 0 ∷ p 1 ∷ p 0 ∷ p 0 ∷ m 13 ∷ p 17 ∷ p 0 ∷ m 2 ∷ p 0 ∷ m 1 ∷ p 0 ∷ p 0 ∷ m 46 ∷ m 10 ∷ m 10 ∷ p 4 ∷ m 1 ∷ p 1 ∷ p 0 ∷ p 0 ∷ m 80 ∷ m 27 ∷ p 20 ∷ m 4 ∷ m 66 ∷ p 23 ∷ m 2 ∷ m 2 ∷ p 20 ∷ m 3 ∷ m 2 ∷ p 3 ∷ m 14 ∷ p 2 ∷ p 3 ∷ m 1 ∷ []) ∷
    (p 5 ∷ p 17 ∷ m 9 ∷ p 0 ∷ m 2 ∷ p 1 ∷ p 0 ∷ p 0 ∷ p 13 ∷ p 54 ∷ m 2 ∷ p 7 ∷ m 1 ∷ p 1 ∷ p 0 ∷ p 0 ∷ p 4 ∷ p 51 ∷ m 3 ∷ m 6 ∷ m 1 ∷ m 1 ∷ p 0 ∷ p 0 ∷ m 20 ∷ p 6 ∷ m 34 ∷ p 9 ∷ m 2 ∷ p 2 ∷ m 1 ∷ p 0 ∷ p 16 ∷ m 52 ∷ p 28 ∷ p 1 ∷ p 59 ∷ p 15 ∷ m 8 ∷ m 5 ∷ m 28 ∷ m 7 ∷ p 2 ∷ p 2 ∷ p 10 ∷ p 3 ∷ p 0 ∷ m 1 ∷ []) ∷
    (p 7 ∷ p 27 ∷ p 56 ∷ m 2 ∷ p 10 ∷ m 3 ∷ p 3 ∷ m 1 ∷ m 2 ∷ m 6 ∷ p 8 ∷ m 28 ∷ p 3 ∷ m 4 ∷ p 1 ∷ m 1 ∷ m 1 ∷ m 4 ∷ m 68 ∷ p 35 ∷ m 5 ∷ p 5 ∷ m 2 ∷ p 1 ∷ p 0 ∷ p 35 ∷ p 43 ∷ m 4 ∷ m 6 ∷ p 1 ∷ m 1 ∷ p 0 ∷ m 14 ∷ m 38 ∷ m 12 ∷ m 10 ∷ p 9 ∷ p 5 ∷ p 7 ∷ p 6 ∷ m 9 ∷ p 7 ∷ m 4 ∷ m 3 ∷ p 4 ∷ m 4 ∷ p 0 ∷ p 3 ∷ []) ∷
    (p 0 ∷ p 0 ∷ p 19 ∷ m 4 ∷ p 3 ∷ m 2 ∷ p 2 ∷ m 1 ∷ m 3 ∷ m 13 ∷ p 10 ∷ m 4 ∷ p 1 ∷ p 0 ∷ p 0 ∷ p 0 ∷ m 6 ∷ m 37 ∷ m 18 ∷ m 5 ∷ p 2 ∷ m 2 ∷ p 1 ∷ m 1 ∷ p 6 ∷ m 6 ∷ m 7 ∷ p 25 ∷ m 6 ∷ p 4 ∷ m 1 ∷ p 1 ∷ p 16 ∷ p 10 ∷ p 55 ∷ m 24 ∷ p 15 ∷ p 46 ∷ m 52 ∷ p 1 ∷ p 35 ∷ m 43 ∷ p 10 ∷ p 12 ∷ m 23 ∷ p 13 ∷ p 5 ∷ m 8 ∷ []) ∷
    (m 3 ∷ p 0 ∷ m 27 ∷ m 80 ∷ p 40 ∷ m 16 ∷ p 6 ∷ m 4 ∷ p 4 ∷ p 3 ∷ p 31 ∷ p 61 ∷ m 22 ∷ p 7 ∷ m 1 ∷ p 1 ∷ m 4 ∷ m 7 ∷ m 26 ∷ m 6 ∷ m 10 ∷ p 6 ∷ m 4 ∷ p 1 ∷ p 3 ∷ p 8 ∷ p 14 ∷ m 18 ∷ p 15 ∷ m 5 ∷ p 2 ∷ m 1 ∷ m 2 ∷ m 4 ∷ m 1 ∷ p 13 ∷ p 0 ∷ p 2 ∷ m 4 ∷ m 3 ∷ p 3 ∷ m 1 ∷ p 2 ∷ p 1 ∷ m 2 ∷ p 0 ∷ m 2 ∷ m 1 ∷ []) ∷
    (p 1 ∷ p 2 ∷ m 8 ∷ p 6 ∷ m 1 ∷ p 1 ∷ p 0 ∷ p 0 ∷ p 2 ∷ p 8 ∷ m 5 ∷ m 1 ∷ p 0 ∷ p 0 ∷ p 0 ∷ p 0 ∷ p 1 ∷ p 24 ∷ p 3 ∷ p 5 ∷ m 1 ∷ p 1 ∷ p 0 ∷ p 0 ∷ m 3 ∷ p 12 ∷ p 6 ∷ m 10 ∷ p 1 ∷ m 1 ∷ p 0 ∷ p 0 ∷ m 9 ∷ m 1 ∷ m 25 ∷ p 10 ∷ p 45 ∷ m 11 ∷ p 18 ∷ p 2 ∷ p 86 ∷ p 1 ∷ m 13 ∷ m 4 ∷ m 65 ∷ m 6 ∷ p 7 ∷ p 2 ∷ []) ∷
    (m 4 ∷ m 18 ∷ m 57 ∷ p 8 ∷ m 8 ∷ p 1 ∷ m 3 ∷ p 0 ∷ m 5 ∷ m 20 ∷ m 69 ∷ p 7 ∷ m 6 ∷ p 2 ∷ m 2 ∷ p 1 ∷ p 1 ∷ p 4 ∷ p 0 ∷ p 33 ∷ m 7 ∷ p 5 ∷ m 2 ∷ p 1 ∷ p 0 ∷ m 9 ∷ p 53 ∷ m 22 ∷ p 3 ∷ m 1 ∷ p 0 ∷ p 0 ∷ p 4 ∷ m 27 ∷ m 2 ∷ m 9 ∷ p 5 ∷ p 36 ∷ m 13 ∷ p 5 ∷ m 7 ∷ m 17 ∷ p 1 ∷ p 2 ∷ p 4 ∷ p 6 ∷ p 4 ∷ m 1 ∷ []) ∷
    []

-- set 3, index 1
unfoldable pub of-6 : List (List ℤ)
of-6 =
    (m 115 ∷ p 37 ∷ p 9 ∷ p 2 ∷ p 2 ∷ p 1 ∷ p 1 ∷ p 0 ∷ p 10 ∷ m 29 ∷ p 8 ∷ p 0 ∷ p 1 ∷ p 0 ∷ p 1 ∷ p 0 ∷ p 23 ∷ m 8 ∷ m 8 ∷ p 1 ∷ m 1 ∷ p 0 ∷ p 0 ∷ p 0 ∷ p 3 ∷ p 3 ∷ m 2 ∷ m 1 ∷ p 0 ∷ p 0 ∷ p 0 ∷ p 0 ∷ p 4 ∷ p 0 ∷ p 0 ∷ m 1 ∷ p 1 ∷ p 1 ∷ p 0 ∷ p 0 ∷ p 2 ∷ p 0 ∷ p 0 ∷ p 0 ∷ p 0 ∷ p 0 ∷ p 0 ∷ p 0 ∷ []) ∷
    (p 15 ∷ p 51 ∷ m 18 ∷ p 0 ∷ m 3 ∷ p 0 ∷ m 1 ∷ p 0 ∷ m 95 ∷ p 7 ∷ p 34 ∷ m 3 ∷ p 5 ∷ m 1 ∷ p 2 ∷ p 0 ∷ p 23 ∷ m 47 ∷ p 1 ∷ p 6 ∷ p 0 ∷ p 1 ∷ p 0 ∷ p 1 ∷ p 8 ∷ p 5 ∷ m 12 ∷ p 0 ∷ m 1 ∷ p 0 ∷ p 0 ∷ p 0 ∷ p 3 ∷ m 3 ∷ p 1 ∷ m 1 ∷ p 2 ∷ p 1 ∷ m 2 ∷ p 0 ∷ p 1 ∷ m 1 ∷ p 0 ∷ p 0 ∷ p 1 ∷ p 1 ∷ m 1 ∷ p 0 ∷ []) ∷
    (p 29 ∷ m 22 ∷ p 16 ∷ m 6 ∷ p 3 ∷ m 2 ∷ p 1 ∷ m 1 ∷ m 4 ∷ m 80 ∷ p 12 ∷ p 15 ∷ p 0 ∷ p 3 ∷ p 0 ∷ p 1 ∷ p 45 ∷ p 7 ∷ m 59 ∷ p 7 ∷ m 2 ∷ p 1 ∷ m 1 ∷ p 0 ∷ m 15 ∷ p 41 ∷ m 3 ∷ m 16 ∷ p 2 ∷ m 3 ∷ p 0 ∷ m 1 ∷ p 1 ∷ p 0 ∷ p 7 ∷ m 2 ∷ m 3 ∷ p 6 ∷ p 1 ∷ m 2 ∷ p 0 ∷ p 0 ∷ p 1 ∷ p 0 ∷ m 1 ∷ p 2 ∷ p 0 ∷ m 1 ∷ []) ∷
    (m 36 ∷ m 98 ∷ p 25 ∷ p 5 ∷ p 4 ∷ p 1 ∷ p 2 ∷ p 1 ∷ m 59 ∷ p 11 ∷ m 17 ∷ p 1 ∷ p 1 ∷ p 1 ∷ p 0 ∷ p 0 ∷ p 6 ∷ m 13 ∷ p 7 ∷ m 3 ∷ p 0 ∷ p 0 ∷ p 0 ∷ p 0 ∷ p 14 ∷ m 4 ∷ m 14 ∷ p 3 ∷ m 1 ∷ p 0 ∷ p 0 ∷ p 0 ∷ p 2 ∷ p 8 ∷ m 3 ∷ m 5 ∷ p 2 ∷ p 0 ∷ p 0 ∷ p 0 ∷ p 0 ∷ p 3 ∷ p 0 ∷ m 1 ∷ p 1 ∷ p 0 ∷ p 0 ∷ p 0 ∷ []) ∷
    (m 6 ∷ p 18 ∷ p 3 ∷ m 3 ∷ m 1 ∷ p 0 ∷ p 0 ∷ p 0 ∷ m 50 ∷ m 5 ∷ m 38 ∷ p 12 ∷ p 0 ∷ p 2 ∷ p 0 ∷ p 1 ∷ p 3 ∷ p 67 ∷ m 7 ∷ m 40 ∷ p 3 ∷ m 6 ∷ p 1 ∷ m 3 ∷ m 12 ∷ m 13 ∷ p 65 ∷ m 3 ∷ m 10 ∷ p 0 ∷ m 1 ∷ p 0 ∷ p 9 ∷ m 20 ∷ m 5 ∷ p 22 ∷ m 2 ∷ p 0 ∷ p 0 ∷ m 1 ∷ p 2 ∷ m 3 ∷ m 2 ∷ p 3 ∷ m 1 ∷ p 0 ∷ p 1 ∷ p 0 ∷ []) ∷
    (p 4 ∷ p 15 ∷ p 52 ∷ m 13 ∷ p 5 ∷ m 3 ∷ p 2 ∷ m 1 ∷ m 17 ∷ m 45 ∷ p 16 ∷ p 24 ∷ m 2 ∷ p 4 ∷ m 1 ∷ p 2 ∷ m 87 ∷ m 8 ∷ m 14 ∷ p 7 ∷ p 8 ∷ p 1 ∷ p 2 ∷ p 0 ∷ p 23 ∷ m 35 ∷ m 6 ∷ m 3 ∷ p 1 ∷ p 1 ∷ p 0 ∷ p 0 ∷ p 2 ∷ p 5 ∷ m 17 ∷ p 0 ∷ p 3 ∷ m 1 ∷ m 1 ∷ m 5 ∷ p 0 ∷ p 1 ∷ m 4 ∷ p 0 ∷ p 1 ∷ p 0 ∷ p 0 ∷ m 2 ∷ []) ∷
    (m 20 ∷ m 7 ∷ m 43 ∷ p 4 ∷ p 0 ∷ p 1 ∷ m 1 ∷ p 1 ∷ m 7 ∷ p 35 ∷ p 0 ∷ p 12 ∷ m 4 ∷ p 1 ∷ m 1 ∷ p 0 ∷ m 51 ∷ m 2 ∷ m 57 ∷ p 5 ∷ p 15 ∷ p 0 ∷ p 4 ∷ p 0 ∷ p 7 ∷ p 39 ∷ p 5 ∷ m 55 ∷ p 1 ∷ m 7 ∷ p 1 ∷ m 3 ∷ p 1 ∷ m 10 ∷ p 41 ∷ p 2 ∷ p 4 ∷ m 3 ∷ m 2 ∷ p 3 ∷ m 1 ∷ m 2 ∷ p 7 ∷ p 1 ∷ p 1 ∷ m 1 ∷ m 1 ∷ p 0 ∷ []) ∷
    (p 4 ∷ p 29 ∷ p 1 ∷ p 26 ∷ m 5 ∷ p 4 ∷ m 2 ∷ p 1 ∷ m 17 ∷ m 7 ∷ m 73 ∷ p 6 ∷ p 6 ∷ p 2 ∷ p 1 ∷ p 1 ∷ m 5 ∷ p 21 ∷ m 3 ∷ p 5 ∷ m 1 ∷ m 3 ∷ p 0 ∷ m 1 ∷ m 11 ∷ p 2 ∷ m 52 ∷ m 3 ∷ p 27 ∷ m 2 ∷ p 5 ∷ p 0 ∷ p 0 ∷ p 27 ∷ p 8 ∷ m 58 ∷ p 2 ∷ m 5 ∷ p 25 ∷ p 3 ∷ p 0 ∷ p 3 ∷ p 0 ∷ m 5 ∷ p 0 ∷ m 2 ∷ p 7 ∷ p 0 ∷ []) ∷
    (p 12 ∷ p 13 ∷ p 10 ∷ p 2 ∷ m 1 ∷ p 3 ∷ m 1 ∷ p 1 ∷ p 17 ∷ m 2 ∷ m 46 ∷ p 12 ∷ p 7 ∷ p 0 ∷ p 2 ∷ p 0 ∷ p 16 ∷ m 45 ∷ m 9 ∷ m 53 ∷ p 6 ∷ p 1 ∷ p 1 ∷ p 0 ∷ p 70 ∷ p 16 ∷ p 8 ∷ m 4 ∷ m 37 ∷ p 1 ∷ m 7 ∷ p 0 ∷ m 12 ∷ p 29 ∷ p 3 ∷ p 21 ∷ p 4 ∷ p 0 ∷ p 5 ∷ m 1 ∷ m 3 ∷ p 4 ∷ p 1 ∷ p 4 ∷ p 2 ∷ p 0 ∷ p 1 ∷ p 0 ∷ []) ∷
    (p 5 ∷ p 20 ∷ p 90 ∷ m 17 ∷ p 4 ∷ m 3 ∷ p 2 ∷ m 1 ∷ p 6 ∷ p 66 ∷ p 8 ∷ p 28 ∷ m 7 ∷ p 3 ∷ m 1 ∷ p 1 ∷ p 29 ∷ p 5 ∷ m 19 ∷ p 12 ∷ p 9 ∷ m 1 ∷ p 1 ∷ p 0 ∷ m 10 ∷ p 14 ∷ m 1 ∷ m 13 ∷ p 7 ∷ p 0 ∷ p 1 ∷ p 0 ∷ p 0 ∷ m 6 ∷ p 13 ∷ m 4 ∷ p 0 ∷ m 4 ∷ p 1 ∷ p 5 ∷ p 0 ∷ m 1 ∷ m 1 ∷ p 1 ∷ p 0 ∷ m 1 ∷ p 0 ∷ p 0 ∷ []) ∷
    (m 3 ∷ m 4 ∷ m 34 ∷ m 12 ∷ p 2 ∷ m 1 ∷ m 1 ∷ p 0 ∷ p 5 ∷ p 25 ∷ p 11 ∷ p 43 ∷ m 10 ∷ p 4 ∷ m 2 ∷ p 1 ∷ p 23 ∷ p 20 ∷ m 40 ∷ p 12 ∷ p 21 ∷ m 3 ∷ p 4 ∷ m 1 ∷ p 25 ∷ m 28 ∷ m 10 ∷ p 5 ∷ p 8 ∷ p 6 ∷ p 0 ∷ p 2 ∷ m 4 ∷ p 21 ∷ m 64 ∷ m 8 ∷ m 5 ∷ p 19 ∷ p 10 ∷ m 48 ∷ p 3 ∷ m 1 ∷ p 10 ∷ m 3 ∷ p 0 ∷ p 4 ∷ p 3 ∷ m 6 ∷ []) ∷
    (m 1 ∷ m 3 ∷ p 2 ∷ p 19 ∷ m 2 ∷ p 4 ∷ m 1 ∷ p 2 ∷ p 9 ∷ p 3 ∷ m 35 ∷ p 22 ∷ p 11 ∷ p 1 ∷ p 2 ∷ p 0 ∷ m 7 ∷ m 65 ∷ m 19 ∷ m 22 ∷ p 11 ∷ p 4 ∷ p 2 ∷ p 1 ∷ m 75 ∷ m 18 ∷ p 3 ∷ m 1 ∷ m 10 ∷ p 2 ∷ p 0 ∷ p 1 ∷ p 2 ∷ m 35 ∷ m 27 ∷ p 4 ∷ p 1 ∷ p 8 ∷ m 17 ∷ m 19 ∷ p 3 ∷ p 0 ∷ p 3 ∷ m 6 ∷ p 0 ∷ p 2 ∷ m 1 ∷ m 2 ∷ []) ∷
    (p 10 ∷ m 4 ∷ m 6 ∷ p 12 ∷ p 5 ∷ p 1 ∷ p 1 ∷ p 0 ∷ p 11 ∷ m 9 ∷ m 12 ∷ m 2 ∷ m 7 ∷ p 0 ∷ m 1 ∷ p 0 ∷ p 33 ∷ m 10 ∷ m 4 ∷ p 18 ∷ p 18 ∷ m 4 ∷ p 4 ∷ m 1 ∷ p 28 ∷ m 72 ∷ p 1 ∷ m 49 ∷ p 15 ∷ p 2 ∷ p 2 ∷ p 1 ∷ p 56 ∷ m 23 ∷ p 22 ∷ m 1 ∷ p 4 ∷ m 1 ∷ m 15 ∷ p 26 ∷ p 6 ∷ p 4 ∷ m 10 ∷ p 0 ∷ p 0 ∷ p 2 ∷ m 3 ∷ p 2 ∷ []) ∷
    (p 4 ∷ p 6 ∷ p 14 ∷ p 53 ∷ m 4 ∷ p 4 ∷ p 0 ∷ p 2 ∷ p 0 ∷ m 1 ∷ m 20 ∷ m 13 ∷ p 3 ∷ p 2 ∷ m 1 ∷ p 1 ∷ m 3 ∷ p 1 ∷ m 5 ∷ p 35 ∷ m 16 ∷ m 6 ∷ m 1 ∷ m 2 ∷ p 46 ∷ p 29 ∷ p 13 ∷ p 21 ∷ p 37 ∷ m 5 ∷ p 4 ∷ m 1 ∷ m 10 ∷ m 53 ∷ m 18 ∷ p 8 ∷ p 9 ∷ p 12 ∷ m 41 ∷ m 25 ∷ m 2 ∷ p 2 ∷ p 13 ∷ m 16 ∷ p 4 ∷ p 1 ∷ m 5 ∷ p 1 ∷ []) ∷
    (p 2 ∷ p 9 ∷ p 13 ∷ p 37 ∷ p 19 ∷ p 6 ∷ p 2 ∷ p 2 ∷ m 9 ∷ m 3 ∷ m 9 ∷ m 28 ∷ m 20 ∷ m 4 ∷ m 3 ∷ m 1 ∷ p 1 ∷ p 18 ∷ p 9 ∷ p 28 ∷ p 24 ∷ p 6 ∷ p 2 ∷ p 2 ∷ m 20 ∷ m 5 ∷ m 25 ∷ m 33 ∷ m 36 ∷ p 9 ∷ m 2 ∷ p 2 ∷ m 13 ∷ p 42 ∷ p 1 ∷ p 57 ∷ m 22 ∷ m 2 ∷ m 25 ∷ m 28 ∷ p 5 ∷ p 6 ∷ p 19 ∷ m 12 ∷ m 5 ∷ m 3 ∷ m 2 ∷ p 4 ∷ []) ∷
    (p 3 ∷ m 3 ∷ p 12 ∷ p 84 ∷ m 12 ∷ p 8 ∷ m 2 ∷ p 3 ∷ p 6 ∷ p 13 ∷ p 50 ∷ m 1 ∷ p 45 ∷ p 1 ∷ p 7 ∷ p 0 ∷ m 2 ∷ p 18 ∷ m 22 ∷ m 37 ∷ m 13 ∷ p 14 ∷ p 0 ∷ p 3 ∷ p 1 ∷ m 12 ∷ m 3 ∷ p 2 ∷ m 15 ∷ m 8 ∷ p 1 ∷ m 1 ∷ p 19 ∷ p 14 ∷ m 4 ∷ m 12 ∷ m 4 ∷ p 5 ∷ p 17 ∷ p 8 ∷ p 2 ∷ m 4 ∷ m 4 ∷ p 4 ∷ m 2 ∷ p 2 ∷ p 1 ∷ p 0 ∷ []) ∷
    []

-- set 3, index 2
unfoldable pub of-7 : List (List ℤ)
of-7 =
    (p 109 ∷ m 26 ∷ m 8 ∷ m 3 ∷ m 2 ∷ m 1 ∷ m 1 ∷ p 0 ∷ m 50 ∷ p 28 ∷ p 2 ∷ p 1 ∷ p 0 ∷ p 0 ∷ p 0 ∷ p 0 ∷ m 18 ∷ m 8 ∷ p 6 ∷ p 0 ∷ p 1 ∷ p 0 ∷ p 1 ∷ p 0 ∷ p 6 ∷ m 2 ∷ m 3 ∷ p 0 ∷ p 0 ∷ p 0 ∷ p 0 ∷ p 0 ∷ m 3 ∷ p 2 ∷ p 1 ∷ m 1 ∷ p 0 ∷ p 0 ∷ p 0 ∷ p 0 ∷ m 2 ∷ p 0 ∷ p 0 ∷ p 0 ∷ p 0 ∷ p 0 ∷ p 0 ∷ p 0 ∷ []) ∷
    (m 39 ∷ p 31 ∷ m 5 ∷ p 2 ∷ m 1 ∷ p 1 ∷ p 0 ∷ p 0 ∷ m 95 ∷ p 6 ∷ p 18 ∷ p 0 ∷ p 4 ∷ p 0 ∷ p 1 ∷ p 0 ∷ p 32 ∷ m 49 ∷ p 5 ∷ p 1 ∷ p 1 ∷ p 0 ∷ p 0 ∷ p 0 ∷ p 27 ∷ m 1 ∷ m 14 ∷ p 2 ∷ m 2 ∷ p 1 ∷ m 1 ∷ p 0 ∷ p 3 ∷ p 5 ∷ m 3 ∷ m 2 ∷ p 4 ∷ p 1 ∷ m 1 ∷ m 1 ∷ p 2 ∷ p 0 ∷ p 0 ∷ p 0 ∷ p 2 ∷ p 0 ∷ p 0 ∷ p 0 ∷ []) ∷
    (p 29 ∷ m 3 ∷ m 2 ∷ m 2 ∷ p 0 ∷ p 0 ∷ p 0 ∷ p 0 ∷ p 0 ∷ m 41 ∷ p 9 ∷ p 0 ∷ p 2 ∷ p 0 ∷ p 1 ∷ p 0 ∷ p 86 ∷ p 4 ∷ m 33 ∷ p 2 ∷ m 6 ∷ p 1 ∷ m 2 ∷ p 0 ∷ m 32 ∷ p 58 ∷ p 1 ∷ m 7 ∷ p 0 ∷ m 2 ∷ p 0 ∷ m 1 ∷ m 14 ∷ m 8 ∷ p 20 ∷ p 0 ∷ m 2 ∷ m 3 ∷ p 0 ∷ p 4 ∷ m 1 ∷ m 1 ∷ p 0 ∷ p 0 ∷ m 1 ∷ p 1 ∷ p 0 ∷ p 0 ∷ []) ∷
    (p 18 ∷ p 96 ∷ m 23 ∷ p 2 ∷ m 5 ∷ p 1 ∷ m 2 ∷ p 0 ∷ m 10 ∷ p 6 ∷ p 10 ∷ m 2 ∷ p 1 ∷ m 1 ∷ p 1 ∷ p 0 ∷ m 14 ∷ p 26 ∷ p 2 ∷ m 4 ∷ p 1 ∷ m 1 ∷ p 0 ∷ p 0 ∷ m 43 ∷ m 9 ∷ p 35 ∷ m 2 ∷ p 4 ∷ m 1 ∷ p 1 ∷ p 0 ∷ p 14 ∷ m 40 ∷ p 1 ∷ p 10 ∷ p 2 ∷ p 1 ∷ m 10 ∷ p 1 ∷ p 2 ∷ m 4 ∷ m 1 ∷ m 1 ∷ p 0 ∷ p 0 ∷ m 1 ∷ p 0 ∷ []) ∷
    (m 29 ∷ m 60 ∷ p 16 ∷ m 2 ∷ p 3 ∷ m 1 ∷ p 1 ∷ p 0 ∷ m 52 ∷ p 9 ∷ m 17 ∷ p 5 ∷ m 2 ∷ p 1 ∷ m 1 ∷ p 1 ∷ p 13 ∷ p 56 ∷ m 2 ∷ m 9 ∷ p 0 ∷ m 2 ∷ p 0 ∷ m 1 ∷ m 34 ∷ m 18 ∷ p 41 ∷ p 0 ∷ p 3 ∷ p 0 ∷ p 1 ∷ p 0 ∷ p 19 ∷ m 36 ∷ m 10 ∷ p 13 ∷ p 3 ∷ p 6 ∷ m 14 ∷ m 1 ∷ p 3 ∷ p 1 ∷ m 1 ∷ m 3 ∷ p 1 ∷ p 1 ∷ m 1 ∷ m 1 ∷ []) ∷
    (m 23 ∷ m 5 ∷ m 15 ∷ p 5 ∷ m 2 ∷ p 1 ∷ m 1 ∷ p 1 ∷ p 2 ∷ p 79 ∷ m 13 ∷ m 4 ∷ m 2 ∷ m 1 ∷ m 1 ∷ p 0 ∷ m 9 ∷ p 1 ∷ p 5 ∷ m 1 ∷ p 1 ∷ p 0 ∷ p 0 ∷ p 0 ∷ m 4 ∷ p 49 ∷ p 2 ∷ m 14 ∷ p 1 ∷ m 3 ∷ p 0 ∷ m 1 ∷ m 31 ∷ m 14 ∷ p 56 ∷ m 1 ∷ p 13 ∷ m 37 ∷ m 4 ∷ p 20 ∷ m 2 ∷ p 2 ∷ m 10 ∷ p 0 ∷ p 2 ∷ m 4 ∷ p 0 ∷ m 1 ∷ []) ∷
    (m 7 ∷ m 3 ∷ p 12 ∷ m 3 ∷ p 3 ∷ m 1 ∷ p 1 ∷ p 0 ∷ m 31 ∷ m 62 ∷ p 8 ∷ p 7 ∷ p 0 ∷ p 2 ∷ p 0 ∷ p 1 ∷ m 75 ∷ p 9 ∷ m 45 ∷ p 5 ∷ m 1 ∷ p 1 ∷ m 1 ∷ p 0 ∷ p 14 ∷ p 35 ∷ p 0 ∷ m 23 ∷ p 2 ∷ m 5 ∷ p 1 ∷ m 2 ∷ p 1 ∷ m 8 ∷ p 32 ∷ m 1 ∷ p 7 ∷ m 12 ∷ m 4 ∷ p 10 ∷ p 0 ∷ p 2 ∷ m 6 ∷ m 1 ∷ p 2 ∷ p 0 ∷ p 0 ∷ m 2 ∷ []) ∷
    (p 1 ∷ m 26 ∷ p 5 ∷ p 0 ∷ p 1 ∷ p 0 ∷ p 1 ∷ p 0 ∷ p 24 ∷ m 3 ∷ p 43 ∷ m 6 ∷ p 4 ∷ m 2 ∷ p 1 ∷ m 1 ∷ m 7 ∷ m 64 ∷ p 9 ∷ p 14 ∷ p 0 ∷ p 3 ∷ p 0 ∷ p 1 ∷ m 12 ∷ m 4 ∷ p 5 ∷ p 3 ∷ m 1 ∷ p 1 ∷ p 0 ∷ p 0 ∷ p 8 ∷ m 59 ∷ m 3 ∷ p 26 ∷ p 14 ∷ p 6 ∷ m 58 ∷ p 6 ∷ m 5 ∷ p 17 ∷ m 7 ∷ m 18 ∷ p 3 ∷ p 3 ∷ m 1 ∷ m 5 ∷ []) ∷
    (p 11 ∷ p 14 ∷ p 6 ∷ m 3 ∷ p 1 ∷ m 1 ∷ p 1 ∷ p 0 ∷ p 10 ∷ m 7 ∷ m 9 ∷ p 3 ∷ m 2 ∷ p 1 ∷ m 1 ∷ p 0 ∷ p 22 ∷ p 21 ∷ p 1 ∷ m 21 ∷ p 2 ∷ m 4 ∷ p 1 ∷ m 2 ∷ p 92 ∷ p 1 ∷ p 53 ∷ p 0 ∷ m 9 ∷ p 1 ∷ m 2 ∷ p 0 ∷ m 21 ∷ m 11 ∷ p 1 ∷ p 40 ∷ m 5 ∷ m 4 ∷ m 24 ∷ p 5 ∷ m 4 ∷ p 5 ∷ m 6 ∷ m 5 ∷ p 0 ∷ p 0 ∷ p 0 ∷ m 3 ∷ []) ∷
    (m 10 ∷ m 11 ∷ m 47 ∷ p 3 ∷ m 4 ∷ p 1 ∷ m 1 ∷ p 0 ∷ p 5 ∷ p 28 ∷ p 11 ∷ m 2 ∷ m 1 ∷ p 0 ∷ p 0 ∷ p 0 ∷ m 12 ∷ m 2 ∷ m 38 ∷ p 2 ∷ p 0 ∷ p 1 ∷ p 0 ∷ p 0 ∷ p 16 ∷ p 38 ∷ p 11 ∷ m 16 ∷ m 1 ∷ m 3 ∷ p 0 ∷ m 2 ∷ p 12 ∷ m 9 ∷ m 22 ∷ p 7 ∷ m 8 ∷ p 60 ∷ p 4 ∷ m 36 ∷ m 6 ∷ m 15 ∷ p 54 ∷ p 7 ∷ p 3 ∷ m 7 ∷ m 8 ∷ p 14 ∷ []) ∷
    (m 8 ∷ m 24 ∷ m 99 ∷ p 11 ∷ m 10 ∷ p 3 ∷ m 4 ∷ p 1 ∷ m 5 ∷ m 36 ∷ p 19 ∷ m 26 ∷ p 4 ∷ m 5 ∷ p 1 ∷ m 2 ∷ p 0 ∷ p 25 ∷ p 41 ∷ p 5 ∷ m 3 ∷ p 1 ∷ p 0 ∷ p 0 ∷ p 10 ∷ m 5 ∷ m 7 ∷ p 12 ∷ p 2 ∷ p 1 ∷ p 0 ∷ p 0 ∷ m 1 ∷ p 1 ∷ p 9 ∷ m 3 ∷ m 3 ∷ m 14 ∷ m 3 ∷ p 12 ∷ p 2 ∷ p 4 ∷ m 13 ∷ m 2 ∷ m 1 ∷ p 3 ∷ p 2 ∷ m 4 ∷ []) ∷
    (m 5 ∷ p 1 ∷ m 1 ∷ p 0 ∷ p 1 ∷ p 0 ∷ p 0 ∷ p 0 ∷ m 10 ∷ m 14 ∷ m 6 ∷ p 8 ∷ p 0 ∷ p 1 ∷ p 0 ∷ p 0 ∷ m 17 ∷ m 2 ∷ p 7 ∷ m 5 ∷ p 3 ∷ m 1 ∷ p 0 ∷ p 0 ∷ m 16 ∷ p 13 ∷ p 3 ∷ p 31 ∷ m 1 ∷ p 6 ∷ p 0 ∷ p 2 ∷ m 93 ∷ m 15 ∷ m 46 ∷ m 3 ∷ p 23 ∷ m 19 ∷ p 0 ∷ m 47 ∷ p 8 ∷ p 4 ∷ p 8 ∷ p 3 ∷ p 2 ∷ p 3 ∷ p 0 ∷ p 0 ∷ []) ∷
    (p 1 ∷ p 12 ∷ m 20 ∷ p 21 ∷ m 4 ∷ p 5 ∷ m 2 ∷ p 2 ∷ m 5 ∷ m 2 ∷ m 75 ∷ p 9 ∷ m 1 ∷ p 2 ∷ m 1 ∷ p 1 ∷ m 1 ∷ m 2 ∷ m 16 ∷ m 4 ∷ p 0 ∷ m 1 ∷ p 0 ∷ p 0 ∷ m 7 ∷ p 7 ∷ m 31 ∷ p 0 ∷ p 3 ∷ p 0 ∷ p 0 ∷ p 0 ∷ p 4 ∷ p 11 ∷ m 12 ∷ p 4 ∷ m 12 ∷ p 14 ∷ m 50 ∷ m 1 ∷ m 8 ∷ p 32 ∷ m 4 ∷ m 54 ∷ p 2 ∷ p 0 ∷ p 30 ∷ m 15 ∷ []) ∷
    (p 2 ∷ m 9 ∷ m 18 ∷ p 8 ∷ m 3 ∷ p 3 ∷ m 1 ∷ p 1 ∷ p 3 ∷ m 25 ∷ m 62 ∷ m 6 ∷ p 0 ∷ m 2 ∷ p 0 ∷ m 1 ∷ m 6 ∷ m 61 ∷ p 14 ∷ m 51 ∷ p 2 ∷ m 6 ∷ p 0 ∷ m 2 ∷ m 19 ∷ p 0 ∷ p 40 ∷ m 7 ∷ m 17 ∷ p 0 ∷ m 3 ∷ p 0 ∷ p 13 ∷ m 4 ∷ p 11 ∷ p 9 ∷ p 17 ∷ p 0 ∷ p 24 ∷ p 5 ∷ p 1 ∷ m 12 ∷ p 4 ∷ p 28 ∷ p 0 ∷ p 0 ∷ m 15 ∷ p 8 ∷ []) ∷
    (p 4 ∷ p 9 ∷ p 39 ∷ p 18 ∷ p 0 ∷ p 2 ∷ p 0 ∷ p 1 ∷ m 6 ∷ m 16 ∷ m 22 ∷ m 37 ∷ p 5 ∷ m 5 ∷ p 1 ∷ m 2 ∷ m 5 ∷ p 15 ∷ p 63 ∷ p 9 ∷ m 16 ∷ p 0 ∷ m 3 ∷ p 0 ∷ p 18 ∷ p 42 ∷ m 18 ∷ p 27 ∷ p 15 ∷ p 1 ∷ p 3 ∷ p 1 ∷ p 12 ∷ m 34 ∷ p 9 ∷ m 24 ∷ p 4 ∷ p 28 ∷ m 2 ∷ p 4 ∷ m 11 ∷ m 4 ∷ p 30 ∷ p 2 ∷ p 5 ∷ m 13 ∷ m 4 ∷ p 18 ∷ []) ∷
    (m 7 ∷ m 2 ∷ p 15 ∷ m 6 ∷ p 1 ∷ m 1 ∷ p 1 ∷ m 1 ∷ m 11 ∷ m 3 ∷ p 22 ∷ m 14 ∷ p 0 ∷ m 2 ∷ p 1 ∷ m 1 ∷ m 18 ∷ m 7 ∷ p 30 ∷ m 9 ∷ m 4 ∷ p 0 ∷ m 1 ∷ p 0 ∷ m 35 ∷ p 23 ∷ p 23 ∷ p 10 ∷ m 17 ∷ p 1 ∷ m 3 ∷ p 0 ∷ m 19 ∷ p 53 ∷ p 6 ∷ p 48 ∷ m 65 ∷ p 12 ∷ m 12 ∷ p 11 ∷ m 8 ∷ m 16 ∷ p 10 ∷ m 21 ∷ m 2 ∷ m 12 ∷ p 6 ∷ p 2 ∷ []) ∷
    []

unfoldable pub of48 : List (List (List ℤ))
of48 = of-0 ∷ of-1 ∷ of-2 ∷ of-3 ∷ of-4 ∷ of-5 ∷ of-6 ∷ of-7 ∷ []
