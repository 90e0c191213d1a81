-- `read` meets its contract. Assumes nothing.
use borrow.Author.Rules.{rules}
use Rattle.transform_short.proofs.Narrowed.{given-rows}
use Rattle.transform_short.proofs.rooms.read.Statement.{statement}
use Rattle.transform_short.proofs.rooms.read.Tie as tie

cast-w : tie.Need-overflow_cast-w
cast-w c = search rules

cast-narrow : tie.Need-overflow_cast-shape
cast-narrow c = search rules

cast-narrow-2 : tie.Need-overflow_cast-shape-2
cast-narrow-2 c = search rules

narrow-requires : tie.Need-narrow-requires
narrow-requires c κs = let s = c.before.before.before.before in given-rows s.args.shape s.args.numbers.now s.requires.0 s.args.room.now s.requires.1.0 s.requires.1.1

same_length : tie.Need-shape_of-room
same_length c = search rules

returns : tie.Need-returns
returns c = search rules

pub read_spec : {M : Type 1} → statement M
read_spec = tie.close (tie.spec cast-w cast-narrow cast-narrow-2 narrow-requires same_length returns)
