-- `stages::small` meets its contract: the rooms are long enough. Assumes nothing.
use borrow.Author.Rules.{rules}
use mathlib.Core.Path.{refl, sym}
use Rattle.forward_block.proofs.RoomsFor.{rooms-128}
use Rattle.forward_block.proofs.stages.small.Statement.{statement}
use Rattle.forward_block.proofs.stages.small.Tie as tie

cast-w : tie.Need-overflow_cast-w
cast-w c = search rules

cast-h : tie.Need-overflow_cast-h
cast-h c = search rules

put-128-requires : tie.Need-put_128-requires
put-128-requires c κs = (c.before.before.before.requires.0.taken.width, refl)

put-128-requires-2 : tie.Need-put_128-requires-2
put-128-requires-2 c κs = (c.before.before.before.before.before.requires.0.taken.height, refl)

slice-aggregate-worked : tie.Need-slice_bounds-worked-end
slice-aggregate-worked c = sym c.before.before.before.put_128.ensures.0

slice-aggregate-worked-2 : tie.Need-slice_bounds-worked-end-2
slice-aggregate-worked-2 c = sym c.before.before.put_128-2.ensures.0

worked-requires : tie.Need-worked-requires
worked-requires c κs =
    let s = c.before.before.before.before.before.before.before.before.before in
    (s.requires.0, (rooms-128 s.requires.0.taken c.before.before.before.before.before.put_128.ensures.0 s.requires.1.1.0 s.requires.1.1.1 c.before.before.before.before.before.put_128.ensures.1 c.before.before.before.put_128-2.ensures.1, s.requires.1.0))

same_length : tie.Need-shape_of-coefficients
same_length c = search rules

returns : tie.Need-returns
returns c = c.before.before.worked.ensures

pub small_spec : {M : Type 1} → statement M
small_spec =
    tie.close
    (tie.spec
    cast-w
    cast-h
    put-128-requires
    put-128-requires-2
    slice-aggregate-worked
    slice-aggregate-worked-2
    worked-requires
    same_length
    returns)
