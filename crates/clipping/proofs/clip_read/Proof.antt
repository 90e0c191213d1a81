-- `clip_read` meets its contract. Assumes nothing.
use borrow.Author.Rules.{rules}
use borrow.Author.Tests.{not-true}
use Rattle.clipping.proofs.Clipped.{held, fits}
use Rattle.clipping.proofs.clip_read.Statement.{statement}
use Rattle.clipping.proofs.clip_read.Tie as tie

clip-all-requires : tie.Need-clip_all-requires
clip-all-requires c κs = c.before.requires

touched-requires : tie.Need-touched-requires
touched-requires c κs = search rules

same_length : tie.Need-shape_of-room
same_length c = search rules

returns : tie.Need-returns
returns c e =
    let R = c.before.before in
    let s = R.before in
    let done = R.clip_all.ensures in
    let inner = c.touched.ensures (not-true _ e) in
    (held done.0 s.requires.0 s.requires.1.1.0 done.1 inner, fits done.0 s.requires.0 s.requires.1.1.0 done.1 inner)

pub clip_read_spec : {M : Type 1} → statement M
clip_read_spec = tie.close (tie.spec clip-all-requires touched-requires same_length returns)
