-- `quick` meets its contract. Assumes nothing.
use borrow.Author.Rules.{rules}
use mathlib.Core.Path.{refl, sym}
use mathlib.Core.Bool.{true≢false}
use Rattle.transform_short.proofs.quick.quick.Statement.{statement}
use Rattle.transform_short.proofs.quick.quick.Tie as tie

quick-four-requires : tie.Need-quick_four-requires
quick-four-requires c κs = let I = c.before.before in let s = I.before in record { taken = s.requires.taken; long = s.requires.long; few = I.if-numbers-le16.true }

same_length : tie.Need-shape_of-numbers-then-numbers-le16
same_length c = search rules

returns : tie.Need-returns-then-numbers-le16
returns c = c.before.quick_four.ensures

quick-tiny-requires : tie.Need-quick_tiny-requires
quick-tiny-requires c κs = let I = c.before.before in let s = I.before.before in record { taken = s.requires.taken; long = s.requires.long; few = I.if-numbers-le64.true }

same-length-2 : tie.Need-shape_of-numbers-then-numbers-le64
same-length-2 c = search rules

returns-2 : tie.Need-returns-then-numbers-le64
returns-2 c = c.before.quick_tiny.ensures

returns-3 : tie.Need-returns
returns-3 c = record { left = λ _. refl; fits = λ e. absurd (true≢false (sym e)); done = λ e. absurd (true≢false (sym e)) }

pub quick_spec : {M : Type 1} → statement M
quick_spec = tie.close (tie.spec quick-four-requires same_length returns quick-tiny-requires same-length-2 returns-2 returns-3)
