-- What a call that its tests let pass was handed, and what the functions below it are given.
use Rattle.std.specs.Prelude.{◌≡◌, Bool, true, false, not, ◌&&◌, List, ℕ, ◌+◌, ◌*◌, ◌-◌, ◌≤◌, ◌<◌, ℤ, length}
use Rattle.algebra.specs.Lists.{at}
use Rattle.meaning.specs.Plan.{range_of}
use Rattle.meaning.specs.Shape.{is_size, is_kind, is_depth, is_depth_to}
use Rattle.meaning.specs.Long.{beyond}
use Rattle.transform_block.specs.declared.TransformBlock.{TransformBlock}
use Rattle.meaning.specs.Answer.{Outcome, accepted}
use Rattle.transform_block.specs.TransformBlock.{is_block_side, is_pair, no_line, is_on, is_readable, has_low, is_corner, is_low, is_thin, reach_of, last_of, low_side, low_numbers, transformed, inverted, transform_outcome}

-- past 1 to 4, 30, 5, 20, 31 and 6
pub record TakenFields (b : TransformBlock) (c : List ℤ) : Type 0 where
  pub width : is_block_side b.width ≡ true
  pub pair : is_pair b ≡ true
  pub horizontal : is_kind b.horizontal ≡ true
  pub vertical : is_kind b.vertical ≡ true
  pub along : no_line b.horizontal b.width ≡ false
  pub down : no_line b.vertical b.height ≡ false
  pub depth : is_depth_to 16 b.depth ≡ true
  pub kept : is_readable b ≡ true
  pub corner : is_corner b ≡ true
  pub low : is_low b ≡ true
  pub long : length c ≡ b.width * b.height

-- past 27 too
pub record GivenWork (b : TransformBlock) (c : List ℤ) : Type 0 where
  pub taken : TakenFields b c
  pub inside : (x y : ℕ) → x < b.columns → y < b.rows → beyond (range_of (reach_of b)) (at c (x + y * b.width)) ≡ false

-- with LFNST
abbrev pub GivenLow : TransformBlock → List ℤ → Type 0
GivenLow b c = GivenWork b c × (has_low b ≡ true)

-- what the stage left, as far as it is read behind it
pub record LowDone (b : TransformBlock) (c d : List ℤ) : Type 0 where
  pub long : length d ≡ length c
  pub same : (x y : ℕ) → x < low_side b → y < low_side b → at d (x + y * b.width) ≡ at (low_numbers b c) (x + y * b.width)

-- the block and the numbers that columns and rows take
pub record AfterLow (b : TransformBlock) (c : List ℤ) (r : TransformBlock) (d : List ℤ) : Type 0 where
  pub long : length d ≡ length c
  pub given : GivenWork r d
  pub same : transformed r d ≡ inverted b c

-- ---- what document 01's call takes
unfoldable pub is_short : TransformBlock → Bool
is_short b = not (is_on b) && (is_size b.width && (is_size b.height && is_depth b.depth))

abbrev pub GivenShort : TransformBlock → List ℤ → Type 0
GivenShort b c = GivenWork b c × (is_short b ≡ true)

-- ---- one stage
abbrev pub GivenThin : TransformBlock → List ℤ → Type 0
GivenThin b c = GivenWork b c × (is_thin b ≡ true)

-- ---- two stages with the switch off
unfoldable pub is_paired : TransformBlock → Bool
is_paired b = not (is_on b) && not (is_thin b)

abbrev pub GivenPaired : TransformBlock → List ℤ → Type 0
GivenPaired b c = GivenWork b c × (is_paired b ≡ true)

-- ---- one coefficient of kind 0, with two stages and the switch off
pub record Flat (b : TransformBlock) : Type 0 where
  pub columns : b.columns ≡ 1
  pub rows : b.rows ≡ 1
  pub horizontal : b.horizontal ≡ 0
  pub vertical : b.vertical ≡ 0
  pub off : is_on b ≡ false
  pub two : is_thin b ≡ false

-- ---- two stages with the switch on: the block with the switch off that has the same last shift
abbrev pub shortened : TransformBlock → TransformBlock
shortened b =
    record {
      width = b.width;
      height = b.height;
      horizontal = b.horizontal;
      vertical = b.vertical;
      depth = 20 - last_of b;
      extended = 0;
      columns = b.columns;
      rows = b.rows;
      lfnst = b.lfnst;
      set = b.set;
      transposed = b.transposed;
    }

-- ---- the usual block: what is 0 in it, and the rest
pub record Plain (b : TransformBlock) : Type 0 where
  pub extended : b.extended ≡ 0
  pub lfnst : b.lfnst ≡ 0
  pub set : b.set ≡ 0
  pub transposed : b.transposed ≡ 0
  pub horizontal : b.horizontal ≡ 0
  pub vertical : b.vertical ≡ 0

pub record Usual (b : TransformBlock) (n : ℕ) : Type 0 where
  pub plain : Plain b
  pub width : is_size b.width ≡ true
  pub height : is_size b.height ≡ true
  pub depth : is_depth b.depth ≡ true
  pub columns : (1 ≤ b.columns) × (b.columns ≤ b.width)
  pub rows : (1 ≤ b.rows) × (b.rows ≤ b.height)
  pub long : n ≡ b.width * b.height

-- it took the quick way, which gives the outcome; or it stands as it was
pub record Tried (b : TransformBlock) (c : List ℤ) (t : Bool) (r : ℕ) (out : List ℤ) : Type 0 where
  pub left : t ≡ false → out ≡ c
  pub done : t ≡ true → ◌≡◌ {A = Outcome} (accepted r, out) (transform_outcome b c)
