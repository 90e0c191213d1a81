use Rattle.std.proofs.Common.{arith}
use Rattle.dct2_block.proofs.Fitting.{fits_work}
use Rattle.algebra.proofs.Lists.{zeros-at}
use lib.ListN.{length-replicate}
use Rattle.dct2_block.proofs.stages.in_room.Goals as goal

pub whole_as_slice-both : goal.whole_as_slice-both
whole_as_slice-both g c = omega (arith, c.requires.0)

pub both-requires : goal.both-requires
both-requires g c = fits_work c.requires.1 _ (length-replicate g.row.ROOM _) (zeros-at g.row.ROOM)
