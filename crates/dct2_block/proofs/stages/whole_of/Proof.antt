-- `whole_of` meets its contract. Assumes nothing.
use native.Mathlib.Omega.{arith}
use mathlib.Core.Path.{refl}
use borrow.Author.Tests.{lt-ltb, le-ltb}
use Rattle.dct2_block.proofs.stages.whole_of.Statement.{statement}
use Rattle.dct2_block.proofs.stages.whole_of.Tie as tie

returns : tie.Need-returns-then-w-lt8
returns c = rw (lt-ltb _ _ c.if-w-lt8.true) refl

add-result : tie.Need-overflow_add-result
add-result c = omega (arith, c.before.requires)

mul-result : tie.Need-overflow_mul-result
mul-result c = omega (arith, c.before.requires)

returns-2 : tie.Need-returns
returns-2 c = rw (le-ltb _ _ c.if-w-lt8.false) refl

pub whole_of_spec : {M : Type 1} → statement M
whole_of_spec = tie.close (tie.spec returns add-result mul-result returns-2)
