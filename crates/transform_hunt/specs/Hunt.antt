-- What the hunt for 27 is given, and what it finds.
use Rattle.std.specs.Prelude.{◌≡◌, Bool, true, false, ◌&&◌, List, ℕ, ◌+◌, ◌*◌, ◌/◌, ◌%◌, ◌≤◌, ◌<◌, ltb, ℤ, length}
use Rattle.algebra.specs.Lists.{at}
use Rattle.algebra.specs.First.{first_at}
use Rattle.meaning.specs.Plan.{range_of}
use Rattle.meaning.specs.Long.{beyond}

-- rows of w, of which the first columns and rows are read
pub record GivenHunt (c : List ℤ) (w columns rows reach : ℕ) : Type 0 where
  pub high : ℕ
  pub long : length c ≡ high * w
  pub narrow : columns ≤ w
  pub low : rows ≤ high
  pub far : reach ≤ 20

-- a number that is read, and outside the range
abbrev pub is_outside : ℕ → ℕ → ℕ → ℕ → ℕ → ℤ → Bool
is_outside w columns rows reach k z = (ltb (k % w) columns && ltb (k / w) rows) && beyond (range_of reach) z

-- the first of them
abbrev pub first_read : ℕ → ℕ → ℕ → ℕ → List ℤ → ℕ
first_read w columns rows reach c = first_at (is_outside w columns rows reach) 0 c

-- of `count` numbers from o on, none before r is outside the range, and that at r is, unless r is behind them
pub record BeyondFrom (c : List ℤ) (o count reach r : ℕ) : Type 0 where
  pub from : o ≤ r
  pub to : r ≤ o + count
  pub none : (k : ℕ) → o ≤ k → k < r → beyond (range_of reach) (at c k) ≡ false
  pub here : r < o + count → beyond (range_of reach) (at c r) ≡ true
