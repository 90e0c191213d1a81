-- `after_low` meets its contract: the numbers as they are, or what LFNST left. Assumes nothing.
use borrow.Author.Rules.{rules}
use mathlib.Core.Path.{◌≡◌, sym, ◌∙◌}
use mathlib.Core.Bool.{true}
use borrow.Author.Tests.{not-false, not-true}
use Rattle.transform_block.specs.TransformBlock.{has_low, low_side}
use Rattle.transform_block.proofs.Left.{after_none, after-low}
use Rattle.transform_block.proofs.low.after_low.Statement.{statement}
use Rattle.transform_block.proofs.low.after_low.Tie as tie

has-low-requires : tie.Need-has_low-requires
has-low-requires c κs = search rules

returns : tie.Need-returns-then-not-has_low
returns c =
    let s = c.before.before in
    after_none s.args.block s.args.numbers.now s.requires (sym c.before.has_low.ensures ∙ c.if-not-has_low.true)

has : (c : tie.Else-not-has_low) → has_low c.before.before.args.block ≡ true
has c = sym c.before.has_low.ensures ∙ c.if-not-has_low.false

is-wide-requires : tie.Need-is_wide-requires
is-wide-requires c κs = search rules

-- how much of the block the stage can write
wide : (c : tie.Then-is_wide) → 8 ≡ low_side c.before.before.before.before.args.block
unfolding low_side
wide c = rw (sym c.before.is_wide.ensures ∙ c.if-is_wide.true)

narrow : (c : tie.Else-is_wide) → 4 ≡ low_side c.before.before.before.before.args.block
unfolding low_side
narrow c = rw (sym c.before.is_wide.ensures ∙ c.if-is_wide.false)

low-requires : tie.Need-low-requires
low-requires c κs = ((c.before.before.before.before.before.requires, has c.before.before.before), wide c.before)

same_length : tie.Need-shape_of-numbers-then-is_wide
same_length c = c.before.low.ensures.1.long

returns-2 : tie.Need-returns-then-is_wide
returns-2 c =
    let s = c.before.before.before.before.before.before.before in
    let d = c.before.low.ensures in
    after-low s.args.block s.args.numbers.now s.requires (has c.before.before.before.before.before) d.1 d.0

low-requires-2 : tie.Need-low-requires-2
low-requires-2 c κs = ((c.before.before.before.before.before.requires, has c.before.before.before), narrow c.before)

same-length-2 : tie.Need-shape_of-numbers
same-length-2 c = c.before.low-2.ensures.1.long

returns-3 : tie.Need-returns
returns-3 c =
    let s = c.before.before.before.before.before.before.before in
    let d = c.before.low-2.ensures in
    after-low s.args.block s.args.numbers.now s.requires (has c.before.before.before.before.before) d.1 d.0

pub after_low_spec : {M : Type 1} → statement M
after_low_spec = tie.close (tie.spec has-low-requires returns is-wide-requires low-requires same_length returns-2 low-requires-2 same-length-2 returns-3)
