-- What a block of document 01 is given in place, and what its stages are once it is narrowed.
use Rattle.std.specs.Prelude.{◌≡◌, Bool, true, false, List, ℕ, ◌+◌, ◌*◌, ◌≤◌, ◌<◌, ℤ, length}
use Rattle.std.specs.Int.{w16}
use Rattle.std.proofs.Common.{SFits}
use Rattle.algebra.specs.Lists.{at}
use Rattle.meaning.specs.declared.Shape.{Shape}
use Rattle.meaning.specs.Taken.{Taken, TakenBlock}
use Rattle.meaning.specs.Plan.{plan_of}
use Rattle.meaning.specs.Inverse.{rails, inverse_block}
use Rattle.layout.specs.Part.{Part}

-- a block whose numbers that are read have 16 bits
pub record GivenRead (sh : Shape) (c : List ℤ) : Type 0 where
  pub taken : Taken sh
  pub long : length c ≡ sh.width * sh.height
  pub fits : (x y : ℕ) → x < sh.columns → y < sh.rows → SFits w16 (at c (x + y * sh.width))

-- 16-bit numbers that are 0 where nothing is read
pub record GivenStaged (sh : Shape) (c r : List ℤ) : Type 0 where
  pub block : TakenBlock sh c r
  pub part : Part sh.width sh.height sh.columns sh.rows c

-- ---- the quick way: blocks of kind 0 both ways
abbrev pub dct2_shape : ℕ → ℕ → ℕ → ℕ → ℕ → Shape
dct2_shape width height depth columns rows = record { width = width; height = height; horizontal = 0; vertical = 0; depth = depth; columns = columns; rows = rows }

-- a block that fits a room
pub record GivenQuick (sh : Shape) (room : ℕ) (c : List ℤ) : Type 0 where
  pub taken : Taken sh
  pub long : length c ≡ sh.width * sh.height
  pub few : length c ≤ room

-- it was worked, and what is read of it has 16 bits; or it stands as it was
pub record Quick (sh : Shape) (c : List ℤ) (t : Bool) (r : ℕ) (out : List ℤ) : Type 0 where
  pub left : t ≡ false → out ≡ c
  pub fits : t ≡ true → (x y : ℕ) → x < sh.columns → y < sh.rows → SFits w16 (at c (x + y * sh.width))
  pub done : t ≡ true → (r ≡ rails (plan_of sh) c) × (out ≡ inverse_block (plan_of sh) c)
