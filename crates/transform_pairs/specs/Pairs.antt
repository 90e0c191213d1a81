-- What the stages of a transform block by pairs are given: 16-bit numbers in what is read, and lines of 2 to 64 points.
use Rattle.std.specs.Prelude.{◌≡◌, cond, ◌&&◌, List, ℕ, ◌+◌, ◌*◌, ◌≤◌, ◌<◌, leb, ltb, ℤ, pos, length}
use Rattle.std.specs.Int.{w16}
use Rattle.std.proofs.Common.{SFits}
use Rattle.algebra.specs.Lists.{at, block}
use Rattle.meaning.specs.Plan.{Plan}
use Rattle.meaning.specs.Taken.{Sized}
use Rattle.transform_stages.specs.Work.{worked}

-- the plan of a block whose middle values have 16 bits
abbrev pub short_plan : ℕ → ℕ → ℕ → ℕ → ℕ → ℕ → ℕ → Plan
short_plan width height horizontal vertical columns rows last = worked width height horizontal vertical columns rows 15 last

pub record GivenPairs (p : Plan) (c : List ℤ) : Type 0 where
  pub sized : Sized p
  pub columns : p.columns ≤ 32
  pub rows : p.rows ≤ 32
  pub some : 0 < p.last
  pub short : p.last ≤ 20
  pub long : length c ≡ p.width * p.height
  pub fits : (x y : ℕ) → x < p.columns → y < p.rows → SFits w16 (at c (x + y * p.width))

-- how many pairs a line takes that reads the first k inputs
unfoldable pub pairs_of : ℕ → ℕ
pairs_of k = cond (leb k 2) 1 (cond (leb k 4) 2 (cond (leb k 8) 4 (cond (leb k 16) 8 16)))

-- ---- what is read, and 0 beside and below it
unfoldable pub cleared_at : Plan → List ℤ → ℕ → ℕ → ℤ
cleared_at p c x y = cond (ltb x p.columns && ltb y p.rows) (at c (x + y * p.width)) (pos 0)

unfoldable pub cleared_block : Plan → List ℤ → List ℤ
cleared_block p c = block p.width p.height (cleared_at p c)
