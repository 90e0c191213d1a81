-- Document 01, "Blocks", "Inverse": what an inverse block is worked by. A shape is what a call is handed and can be refused; a
-- plan is what is worked, and every definition of both stages stands over a plan.
use Rattle.std.specs.Prelude.{Bool, cond, ℕ, ◌+◌, ◌-◌, ◌^◌, max, min, pos, negsuc}
use Rattle.algebra.specs.Clip.{Range}
use Rattle.meaning.specs.declared.Shape.{Shape}

pub record Plan : Type 0 where
  pub width : ℕ
  pub height : ℕ
  -- "a kind per direction"
  pub horizontal : ℕ
  pub vertical : ℕ
  -- how many columns and rows are kept
  pub columns : ℕ
  pub rows : ℕ
  -- what middle values are clipped to
  pub range : Range
  -- the last shift
  pub last : ℕ

-- -2^R .. 2^R - 1
abbrev pub range_of : ℕ → Range
range_of r = record { low = negsuc (2 ^ r - 1); high = pos (2 ^ r - 1) }

-- "clipped to -32768..32767"
unfoldable pub short_range : Range
short_range = range_of 15

-- the plan of a shape, by its range and its last shift
abbrev pub plan_by : Range → ℕ → Shape → Plan
plan_by range last sh =
    record {
      width = sh.width;
      height = sh.height;
      horizontal = sh.horizontal;
      vertical = sh.vertical;
      columns = sh.columns;
      rows = sh.rows;
      range = range;
      last = last;
    }

-- ">> (20-d)"
abbrev pub plan_of : Shape → Plan
plan_of sh = plan_by short_range (20 - sh.depth) sh

-- Document 02, Wish 14: R of the later edition, 15 with the switch off, and with it on max(15, min(20, d + 6)) (docs/DECISIONS.md)
unfoldable pub reach : Bool → ℕ → ℕ
reach extended d = cond extended (max 15 (min 20 (d + 6))) 15

-- "the coefficient range widens with the depth, and the last shift follows another rule": s = 5 + R - d
abbrev pub long_plan : Bool → Shape → Plan
long_plan extended sh = let r = reach extended sh.depth in plan_by (range_of r) (5 + r - sh.depth) sh
