-- `inverse::places_16` meets its contract. Assumes nothing.
use native.Mathlib.Omega.{arith}
use mathlib.Core.Path.{sym, ◌∙◌}
use Rattle.shared_steps.proofs.Gathering.{front-none}
use Rattle.shared_line.proofs.inverse.places_16.Statement.{statement}
use Rattle.shared_line.proofs.inverse.places_16.Tie as tie

spread-requires : tie.Need-spread-requires
spread-requires c κs = ((omega arith, omega arith), (c.before.requires.0, front-none _ c.before.requires.1))

spread-requires-2 : tie.Need-spread-requires-2
spread-requires-2 c κs = ((omega arith, omega arith), (c.before.before.before.before.requires.0, c.before.before.spread.ensures))

same_length : tie.Need-shape_of-y
same_length c = c.before.spread-2.ensures.long ∙ sym c.before.before.before.before.before.before.requires.1

returns : tie.Need-returns
returns c = c.before.spread-2.ensures

pub places_16_spec : {M : Type 1} → statement M
places_16_spec =
    tie.close
    (tie.spec
    spread-requires
    spread-requires-2
    same_length
    returns)
