-- What is narrowed to 16 bits, and the room that it stands in.
use Rattle.std.specs.Prelude.{◌≡◌, List, ℕ, ◌+◌, ◌*◌, ◌≤◌, ◌<◌, ℤ, pos, length}
use Rattle.std.specs.Int.{w16}
use Rattle.std.proofs.Common.{SFits}
use Rattle.algebra.specs.Lists.{at}

-- the first columns and rows of rows of w, of 16 bits each, and a room of zeros for them in rows of `broad`
pub record GivenNarrow (c : List ℤ) (w columns rows broad : ℕ) (room : List ℤ) : Type 0 where
  pub few : columns ≤ broad
  pub within : broad ≤ w
  pub there : rows * w ≤ length c
  pub low : rows * broad ≤ length room
  pub clear : (k : ℕ) → at room k ≡ pos 0
  pub fits : (x y : ℕ) → x < columns → y < rows → SFits w16 (at c (x + y * w))

-- they stand in a room of as many numbers as before, which is 0 beside and below them
pub record Narrowed (size : ℕ) (c : List ℤ) (w columns rows broad : ℕ) (room : List ℤ) : Type 0 where
  pub long : length room ≡ size
  pub inside : (x y : ℕ) → x < columns → y < rows → at room (x + y * broad) ≡ at c (x + y * w)
  pub right : (x y : ℕ) → columns ≤ x → x < broad → at room (x + y * broad) ≡ pos 0
  pub below : (k : ℕ) → rows * broad ≤ k → at room k ≡ pos 0
