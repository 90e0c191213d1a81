-- `inverse::places_32` meets its contract. Assumes nothing.
use native.Mathlib.Omega.{arith}
use mathlib.Core.Path.{sym, ◌∙◌}
use Rattle.shared_steps.proofs.Gathering.{front-none}
use Rattle.shared_line.proofs.inverse.places_32.Statement.{statement}
use Rattle.shared_line.proofs.inverse.places_32.Tie as tie

spread-requires : tie.Need-spread-requires
spread-requires c κs = ((omega arith, omega arith), (c.before.requires.0, front-none _ c.before.requires.1))

spread-requires-2 : tie.Need-spread-requires-2
spread-requires-2 c κs = ((omega arith, omega arith), (c.before.before.before.before.requires.0, c.before.before.spread.ensures))

spread-requires-3 : tie.Need-spread-requires-3
spread-requires-3 c κs = ((omega arith, omega arith), (c.before.before.before.before.before.before.before.requires.0, c.before.before.spread-2.ensures))

spread-requires-4 : tie.Need-spread-requires-4
spread-requires-4 c κs = ((omega arith, omega arith), (c.before.before.before.before.before.before.before.before.before.before.requires.0, c.before.before.spread-3.ensures))

same_length : tie.Need-shape_of-y
same_length c = c.before.spread-4.ensures.long ∙ sym c.before.before.before.before.before.before.before.before.before.before.before.before.requires.1

returns : tie.Need-returns
returns c = c.before.spread-4.ensures

pub places_32_spec : {M : Type 1} → statement M
places_32_spec =
    tie.close
    (tie.spec
    spread-requires
    spread-requires-2
    spread-requires-3
    spread-requires-4
    same_length
    returns)
