-- Document 02, Wish 14: what the hunts and the two stages of a block of long numbers are given.
use Rattle.std.specs.Prelude.{Bool, List, ℕ, ◌*◌, ◌≤◌, ◌<◌, ℤ}
use Rattle.std.specs.Int.{w32}
use Rattle.std.proofs.Common.{SFits}
use Rattle.algebra.specs.Shift.{nearest}
use Rattle.meaning.specs.declared.Shape.{Shape}
use Rattle.meaning.specs.Plan.{range_of}
use Rattle.meaning.specs.Taken.{TakenLongBlock}
use Rattle.meaning.specs.Inverse.{rounded, middle, railed, count}
use Rattle.layout.specs.Part.{Part}
use Rattle.long_stages.specs.Sums.{dotted, Dot}

-- ---- the first stage: output y of the line of column x
abbrev pub column_at : List ℤ → ℕ → List ℤ → ℕ → ℕ → ℕ → ℕ → ℤ
column_at t h c w pairs x y = dotted t (2 * y) (2 * h) c x w pairs

-- 1 where its middle value is a rail
abbrev pub rail_of : ℕ → ℤ → ℕ
rail_of reach e = count (railed (rounded e) (middle (range_of reach) e))

pub record Down (t : List ℤ) (h : ℕ) (c : List ℤ) (w pairs columns reach : ℕ) : Type 0 where
  pub far : reach ≤ 20
  pub low : h ≤ 64
  pub narrow : columns ≤ 32
  pub each : (x y : ℕ) → x < columns → y < h → Dot t (2 * y) (2 * h) c x w pairs

-- ---- the second stage: output x of the line of row y
abbrev pub row_at : List ℤ → ℕ → List ℤ → ℕ → ℕ → ℕ → ℕ → ℤ
row_at t w m columns pairs x y = dotted t (2 * x) (2 * w) m (y * columns) 1 pairs

pub record Along (t : List ℤ) (w h : ℕ) (m : List ℤ) (columns pairs last : ℕ) : Type 0 where
  pub wide : w ≤ 64
  pub low : h ≤ 64
  pub narrow : columns ≤ 32
  pub some : 0 < last
  pub short : last ≤ 32
  pub each : (x y : ℕ) → x < w → y < h → Dot t (2 * x) (2 * w) m (y * columns) 1 pairs
  pub fits : (x y : ℕ) → x < w → y < h → SFits w32 (nearest last (row_at t w m columns pairs x y))

-- ---- both: a block that was taken, zero outside of its live part, which is counted in pairs, and of its kept part
pub record GivenLong (extended : Bool) (sh : Shape) (rows columns : ℕ) (c out : List ℤ) : Type 0 where
  pub block : TakenLongBlock extended sh c out
  pub live : Part sh.width sh.height (2 * columns) (2 * rows) c
  pub kept : Part sh.width sh.height sh.columns sh.rows c
