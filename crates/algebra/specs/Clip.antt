-- Document 01, "Blocks": "clipped to -32768..32767". A range of integers, both ends in it, and a number brought into it.
use Rattle.std.specs.Prelude.{cond, ℤ}
use Rattle.std.specs.Int.Signed.{lt_z}

pub record Range : Type 0 where
  pub low : ℤ
  pub high : ℤ

abbrev pub clip : Range → ℤ → ℤ
clip r z = cond (lt_z z r.low) r.low (cond (lt_z r.high z) r.high z)
