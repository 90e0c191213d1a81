-- What tells the 32-point weights of H.266 from those of document 01, whose first row has 45 and 88 for two numbers
-- (docs/DECISIONS.md, "The 32-point row"); and H.266's DCT-II of 2 and 64 points. Assumes nothing.
use mathlib.Core.Path.{◌≡◌, refl}
use mathlib.Core.List.{[], ◌∷◌}
use Prim.Native.Nat.{ℕ, ◌+◌, ◌*◌, ◌-◌, ◌≤◌, ◌<◌}
use lib.Dec.{ltb, ltb→lt, leb→le}
use lib.IntN.{pos, negsuc, nat_abs}
use Rattle.algebra.specs.Sum.{sumℕ}
use Rattle.algebra.specs.Lists.{tabulate, block}
use Rattle.algebra.proofs.Table.{all_to-at}
use Rattle.meaning.specs.Weights.{first, fold, S, cosines, turn, dct2, weight}
use Rattle.meaning.proofs.Sharing.{s}

-- the two numbers, as a decoder of H.266 has them
pub h266 : (s 32 11 ≡ 46) × (s 32 28 ≡ 87)
unfolding first
h266 = (refl, refl)

-- Document 004, "Norm measure: n_i = |1 - d_i·d_i / d_0·d_0|": d_i·d_i, and its distance from d_0·d_0
abbrev pub square : ℕ → ℕ
square i = sumℕ 32 (λ j. nat_abs (S 32 i j) * nat_abs (S 32 i j))

abbrev pub apart : ℕ → ℕ
apart i = (square i - square 0) + (square 0 - square i)

-- Table II, 8 bits, 32 points, "Tuned": n_i is at most 0.0039, cut to four digits, and row 6 reaches it
pub norm32 : (i : ℕ) → i < 32 → 10000 * apart i < 40 * square 0
unfolding sumℕ S fold first
norm32 i h = ltb→lt (10000 * apart i) (40 * square 0) (all_to-at 32 (λ i. ltb (10000 * apart i) (40 * square 0)) tt i h)

pub norm32-reached : 39 * square 0 ≤ 10000 * apart 6
unfolding sumℕ S fold first
norm32-reached = leb→le (39 * square 0) (10000 * apart 6) tt

-- ---- kind 0: the weights of 2 points, row by row
pub two-points : block 2 2 (λ j i. weight 0 2 i j) ≡ pos 64 ∷ pos 64 ∷ pos 64 ∷ negsuc 63 ∷ []
unfolding block tabulate weight dct2 turn cosines
two-points = refl

-- .. and the first half of row 1 of 64 points, which is the odd places of the list
pub sixty-four-points : tabulate 32 (weight 0 64 1) ≡
    pos 91 ∷ pos 90 ∷ pos 90 ∷ pos 90 ∷ pos 88 ∷ pos 87 ∷ pos 86 ∷ pos 84 ∷ pos 83 ∷ pos 81 ∷ pos 79 ∷ pos 77 ∷ pos 73 ∷ pos 71 ∷ pos 69 ∷ pos 65 ∷
    pos 62 ∷ pos 59 ∷ pos 56 ∷ pos 52 ∷ pos 48 ∷ pos 44 ∷ pos 41 ∷ pos 37 ∷ pos 33 ∷ pos 28 ∷ pos 24 ∷ pos 20 ∷ pos 15 ∷ pos 11 ∷ pos 7 ∷ pos 2 ∷ []
unfolding tabulate weight dct2 turn cosines
sixty-four-points = refl
