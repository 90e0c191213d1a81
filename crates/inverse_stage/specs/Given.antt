-- Document 01, "Blocks", "Inverse": what the stages are given: a block that was taken, and the parts of it outside of which it is
-- zero.
use Rattle.std.specs.Prelude.{◌≡◌, true, List, ℕ, ◌*◌, ◌/◌, ◌≤◌, ℤ, length}
use Rattle.meaning.specs.declared.Shape.{Shape}
use Rattle.meaning.specs.Shape.{is_size}
use Rattle.meaning.specs.Plan.{Plan, short_range}
use Rattle.meaning.specs.Taken.{TakenBlock}
use Rattle.layout.specs.Part.{Part}

-- what both stages are given: it is zero outside of its live part, of which rows and columns are sizes, and of its kept part
pub record GivenStages (sh : Shape) (rows columns : ℕ) (c r : List ℤ) : Type 0 where
  pub block : TakenBlock sh c r
  pub size-rows : is_size rows ≡ true
  pub size-columns : is_size columns ≡ true
  pub live : Part sh.width sh.height columns rows c
  pub kept : Part sh.width sh.height sh.columns sh.rows c

-- as many rows or columns as lines take by pairs
pub record Paired (n : ℕ) : Type 0 where
  pub some : 2 ≤ n
  pub few : n ≤ 32
  pub even : 2 * (n / 2) ≡ n

-- the same of any plan whose middle values have 16 bits, for a block c and room for the residuals in r
pub record GivenPlan (p : Plan) (rows columns : ℕ) (c r : List ℤ) : Type 0 where
  pub short : p.range ≡ short_range
  pub paired-rows : Paired rows
  pub paired-columns : Paired columns
  pub room : length r ≡ p.width * p.height
  pub live : Part p.width p.height columns rows c
  pub kept : Part p.width p.height p.columns p.rows c

-- every list that a stage needs has room in `room` numbers: the weights down and along, and what stands between the stages
pub record Room (room : ℕ) (p : Plan) (rows columns : ℕ) : Type 0 where
  pub down : rows * p.height ≤ room
  pub along : columns * p.width ≤ room
  pub between : p.height * columns ≤ room
