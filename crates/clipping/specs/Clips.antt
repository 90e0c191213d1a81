-- A room that what is read of a block was clipped into.
use Rattle.std.specs.Prelude.{◌≡◌, List, ℕ, ◌+◌, ◌*◌, ◌≤◌, ◌<◌, ℤ, pos}
use Rattle.algebra.specs.Clip.{clip}
use Rattle.algebra.specs.Lists.{at}
use Rattle.meaning.specs.Plan.{short_range}

-- the first columns and rows of rows of w, each clipped; 0 beside and below them
pub record Clips (c : List ℤ) (w columns rows : ℕ) (room : List ℤ) : Type 0 where
  pub inside : (x y : ℕ) → x < columns → y < rows → at room (x + y * w) ≡ clip short_range (at c (x + y * w))
  pub right : (x y : ℕ) → columns ≤ x → x < w → at room (x + y * w) ≡ pos 0
  pub below : (k : ℕ) → rows * w ≤ k → at room k ≡ pos 0
