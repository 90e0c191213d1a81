-- `stages` meets its contract: each room has enough numbers. Assumes nothing.
use borrow.Author.Rules.{rules}
use Rattle.transform_short.proofs.rooms.stages.Statement.{statement}
use Rattle.transform_short.proofs.rooms.stages.Tie as tie

large-requires : tie.Need-large-requires
large-requires c κs = c.before.before.requires

same_length : tie.Need-shape_of-numbers-then-numbers-gt512
same_length c = search rules

returns : tie.Need-returns-then-numbers-gt512
returns c = c.before.large.ensures

four-requires : tie.Need-four-requires
four-requires c κs = (c.before.before.before.requires, c.before.if-numbers-le16.true)

same-length-2 : tie.Need-shape_of-numbers-then-numbers-le16
same-length-2 c = search rules

returns-2 : tie.Need-returns-then-numbers-le16
returns-2 c = c.before.four.ensures

tiny-requires : tie.Need-tiny-requires
tiny-requires c κs = (c.before.before.before.before.requires, c.before.if-numbers-le64.true)

same-length-3 : tie.Need-shape_of-numbers-then-numbers-le64
same-length-3 c = search rules

returns-3 : tie.Need-returns-then-numbers-le64
returns-3 c = c.before.tiny.ensures

small-requires : tie.Need-small-requires
small-requires c κs = (c.before.before.before.before.before.requires, c.before.if-numbers-le256.true)

same-length-4 : tie.Need-shape_of-numbers-then-numbers-le256
same-length-4 c = search rules

returns-4 : tie.Need-returns-then-numbers-le256
returns-4 c = c.before.small.ensures

large-requires-2 : tie.Need-large-requires-2
large-requires-2 c κs = c.before.before.before.before.before.requires

same-length-5 : tie.Need-shape_of-numbers
same-length-5 c = search rules

returns-5 : tie.Need-returns
returns-5 c = c.before.large-2.ensures

pub stages_spec : {M : Type 1} → statement M
stages_spec =
    tie.close
    (tie.spec
    large-requires
    same_length
    returns
    four-requires
    same-length-2
    returns-2
    tiny-requires
    same-length-3
    returns-3
    small-requires
    same-length-4
    returns-4
    large-requires-2
    same-length-5
    returns-5)
