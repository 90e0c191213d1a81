-- Wish 7 in numbers: which thin shapes are refused, 19 in place of 7, that the forward refuses them as before, and two thin blocks
-- worked out. Assumes nothing.
use mathlib.Core.Path.{◌≡◌, refl}
use mathlib.Core.Bool.{true}
use mathlib.Core.List.{List, [], ◌∷◌}
use Prim.Native.Nat.{ℕ}
use lib.IntN.{ℤ, pos}
use Rattle.algebra.specs.Sum.{sum}
use Rattle.algebra.specs.Lists.{tabulate}
use Rattle.meaning.specs.Weights.{first, fold, S, cosines, turn, dct2, weight}
use Rattle.meaning.specs.Line.{inverse_sum}
use Rattle.meaning.specs.Shape.{is_size, is_kind, is_depth, most_kept, keeps, shape_of}
use Rattle.meaning.specs.Answer as answers
use Rattle.meaning.specs.Forward.{forward_outcome}
use Rattle.thin_block.specs.Thin.{is_line, is_side, thin_sum, thin_residual, thin_block, areas_stay, thin_outcome}

-- ---- "1 and 2 accept 1 where the other side is 4, 8 or 16", whatever the kinds, the depth and the buffers
module _ (h v d : ℕ) (c a b : List ℤ) where
  pub one-by-32 : thin_outcome (shape_of 1 32 h v d) c a b ≡ areas_stay a b 1 0
  unfolding is_side is_size is_line
  one-by-32 = refl

  pub thirty-two-by-1 : thin_outcome (shape_of 32 1 h v d) c a b ≡ areas_stay a b 2 0
  unfolding is_side is_size is_line
  thirty-two-by-1 = refl

  pub one-by-1 : thin_outcome (shape_of 1 1 h v d) c a b ≡ areas_stay a b 1 0
  unfolding is_side is_size is_line
  one-by-1 = refl

abbrev four : List ℤ
four = pos 64 ∷ pos 0 ∷ pos 0 ∷ pos 0 ∷ []

-- "19 for a work area shorter than w*h", either of them, after 6
pub nineteen-first : thin_outcome (shape_of 1 4 1 1 10) four [] four ≡ areas_stay [] four 19 0
unfolding is_side is_size is_line is_kind is_depth most_kept keeps
nineteen-first = refl

pub nineteen-second : thin_outcome (shape_of 4 1 1 1 10) four four [] ≡ areas_stay four [] 19 0
unfolding is_side is_size is_line is_kind is_depth most_kept keeps
nineteen-second = refl

pub six-before : thin_outcome (shape_of 1 8 1 1 10) four [] [] ≡ areas_stay [] [] 6 0
unfolding is_side is_size is_line is_kind is_depth most_kept keeps
six-before = refl

-- ---- "The forward refuses these shapes as before"
module _ (n h v d : ℕ) (r out : List ℤ) where
  pub forward-narrow : forward_outcome (shape_of 1 n h v d) r out ≡ (answers.refused 1 0, out)
  unfolding is_size
  forward-narrow = refl

  pub forward-low : is_size n ≡ true → forward_outcome (shape_of n 1 h v d) r out ≡ (answers.refused 2 0, out)
  unfolding is_size
  forward-low e = rw e

-- ---- a coefficient of 64 at 10 bits: 64 * 64 = 4096 over 2^11 in each place of DCT-II; 64 times 29, 55, 74 and 84 of DST-VII
pub upright-flat : thin_block (shape_of 1 4 2 0 10) four ≡ pos 2 ∷ pos 2 ∷ pos 2 ∷ pos 2 ∷ []
unfolding thin_block thin_residual thin_sum inverse_sum sum tabulate most_kept weight dct2 turn cosines
upright-flat = refl

pub lying-rising : thin_block (shape_of 4 1 1 0 10) four ≡ pos 1 ∷ pos 2 ∷ pos 2 ∷ pos 3 ∷ []
unfolding thin_block thin_residual thin_sum inverse_sum sum tabulate most_kept weight S fold first
lying-rising = refl
