-- How much of a block is not zero, rounded up to a size.
use Rattle.std.specs.Prelude.{◌≡◌, true, List, ℕ, ◌+◌, ◌*◌, ◌≤◌, ◌<◌, length, ℤ, pos}
use Rattle.algebra.specs.Lists.{at}
use Rattle.meaning.specs.Shape.{is_size}

-- all is 0 from place a up to b
abbrev pub Clear : List ℤ → ℕ → ℕ → Type 0
Clear c a b = (k : ℕ) → a ≤ k → k < b → at c k ≡ pos 0

-- r rows of h, of w numbers each: a size, behind which all is 0
pub record Live (c : List ℤ) (w h r : ℕ) : Type 0 where
  pub size : is_size r ≡ true
  pub within : r ≤ h
  pub clear : Clear c (r * w) (h * w)

-- marks of columns: one without a mark has nothing in the rows before y
pub record Unseen (w y : ℕ) (c seen : List ℤ) : Type 0 where
  pub long : length seen ≡ 32
  pub none : (x : ℕ) → x < w → at seen x ≡ pos 0 → (i : ℕ) → i < y → at c (x + i * w) ≡ pos 0

-- r columns of w: a size, beside which these rows have nothing
pub record LiveColumns (c : List ℤ) (w rows r : ℕ) : Type 0 where
  pub size : is_size r ≡ true
  pub within : r ≤ w
  pub clear : (x i : ℕ) → r ≤ x → x < w → i < rows → at c (x + i * w) ≡ pos 0
