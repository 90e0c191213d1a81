-- `live_columns` meets its contract: what is clear among the marks is a column with nothing. Assumes nothing.
use Rattle.std.proofs.Common.{arith}
use Rattle.meaning.proofs.Cases.{size_in}
use Rattle.layout.proofs.Looking.{columns-live}
use Rattle.layout.proofs.live.live_columns.Goals as goal

pub marks-seen-requires : goal.marks-seen-requires
marks-seen-requires c = (size_in c.args.w c.requires.0, c.requires.1)

pub slice_bounds-live_rows-end : goal.slice_bounds-live_rows-end
slice_bounds-live_rows-end c = omega (arith, size_in c.args.w c.requires.0)

pub returns : goal.returns
returns c = columns-live c.marks-seen.ensures c.live_rows.ensures
