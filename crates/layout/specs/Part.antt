-- A part of a block outside of which it is zero.
use Rattle.std.specs.Prelude.{◌≡◌, List, ℕ, ◌+◌, ◌*◌, ◌≤◌, ◌<◌, ℤ, pos}
use Rattle.algebra.specs.Lists.{at}

-- a block of w by h is zero outside of its first `columns` columns and `rows` rows
pub record Part (w h columns rows : ℕ) (c : List ℤ) : Type 0 where
  pub narrow : columns ≤ w
  pub low : rows ≤ h
  pub right : (x y : ℕ) → columns ≤ x → x < w → y < h → at c (x + y * w) ≡ pos 0
  pub below : (x y : ℕ) → x < w → rows ≤ y → y < h → at c (x + y * w) ≡ pos 0
