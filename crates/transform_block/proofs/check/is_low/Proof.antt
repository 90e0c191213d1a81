-- `is_low` meets its contract. Assumes nothing.
use borrow.Author.Rules.{rules}
use mathlib.Core.Path.{◌≡◌, sym, ◌∙◌}
use borrow.Author.Tests.{not-false, not-true}
use Rattle.transform_block.specs.TransformBlock.{takes_low, is_low}
use Rattle.transform_block.proofs.check.is_low.Statement.{statement}
use Rattle.transform_block.proofs.check.is_low.Tie as tie

known-low-requires : tie.Need-known_low-requires
known-low-requires c κs = search rules

returns : tie.Need-returns-then-not-known_low
unfolding is_low
returns c = rw (sym c.before.known_low.ensures ∙ c.if-not-known_low.true)

has-low-requires : tie.Need-has_low-requires
has-low-requires c κs = search rules

takes-low-requires : tie.Need-takes_low-requires
takes-low-requires c κs = search rules

returns-2 : tie.Need-returns-then-has_low
unfolding is_low takes_low
returns-2 c =
    let H = c.before.before in
    rw (sym H.before.before.known_low.ensures ∙ H.before.if-not-known_low.false, sym H.has_low.ensures ∙ c.before.if-has_low.true) c.takes_low.ensures

returns-3 : tie.Need-returns
unfolding is_low
returns-3 c =
    let H = c.before in
    rw (sym H.before.before.known_low.ensures ∙ H.before.if-not-known_low.false, sym H.has_low.ensures ∙ c.if-has_low.false)

pub is_low_spec : {M : Type 1} → statement M
is_low_spec = tie.close (tie.spec known-low-requires returns has-low-requires takes-low-requires returns-2 returns-3)
