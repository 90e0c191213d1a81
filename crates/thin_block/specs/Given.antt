-- What a call that its tests let pass was handed, and what the functions below it are given.
use Rattle.std.specs.Prelude.{◌≡◌, true, List, ℕ, ◌*◌, ℤ, length}
use Rattle.meaning.specs.declared.Shape.{Shape}
use Rattle.meaning.specs.Shape.{is_depth}
use Rattle.meaning.specs.Taken.{TakenBy, TakenBlock, TakenLine}
use Rattle.layout.specs.Part.{Part}
use Rattle.thin_block.specs.Thin.{is_side, one_stage}

-- past 1 to 5 and 20
abbrev pub TakenSides : Shape → Type 0
TakenSides sh = TakenBy (is_side sh.width sh.height) (is_side sh.height sh.width) (is_depth sh.depth) sh

-- a line that can be worked
pub record Lined (n kind d : ℕ) (c out : List ℤ) : Type 0 where
  pub line : TakenLine n kind (length c) (length out)
  pub depth : is_depth d ≡ true

-- one stage: zero outside of the kept part
pub record Single (sh : Shape) (c out : List ℤ) : Type 0 where
  pub taken : TakenSides sh
  pub thin : one_stage sh ≡ true
  pub long : length c ≡ sh.width * sh.height
  pub room : length out ≡ sh.width * sh.height
  pub kept : Part sh.width sh.height sh.columns sh.rows c

-- two stages
pub record Double (sh : Shape) (c middles out : List ℤ) : Type 0 where
  pub block : TakenBlock sh c out
  pub room : length middles ≡ sh.width * sh.height
  pub kept : Part sh.width sh.height sh.columns sh.rows c
