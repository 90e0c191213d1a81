-- `tried` meets its contract. Assumes nothing.
use borrow.Author.Rules.{rules}
use mathlib.Core.Path.{◌≡◌, refl, sym}
use mathlib.Core.Bool.{true≢false}
use borrow.Author.Tests.{not-false}
use lib.ListN.{length}
use Rattle.transform_block.specs.Given.{Usual}
use Rattle.transform_block.proofs.UsualBlock.{given-quick, quick-done}
use Rattle.transform_block.proofs.usual.tried.Statement.{statement}
use Rattle.transform_block.proofs.usual.tried.Tie as tie

is-usual-requires : tie.Need-is_usual-requires
is-usual-requires c κs = search rules

returns : tie.Need-returns-then-not-is_usual
returns c = record { left = λ _. refl; done = λ e. absurd (true≢false (sym e)) }

usual : (c : tie.Else-not-is_usual) → let s = c.before.before in Usual s.args.block (length s.args.numbers.now)
usual c = c.before.is_usual.ensures (c.if-not-is_usual.false)

is-one-requires : tie.Need-is_one-requires
is-one-requires c κs = search rules

filled-requires : tie.Need-filled-requires
filled-requires c κs =
    let T = c.before.before in
    let I = T.before.before in
    (usual I, T.before.is_one.ensures T.if-is_one.true)

same_length : tie.Need-shape_of-numbers-then-is_one
same_length c = search rules

returns-2 : tie.Need-returns-then-is_one
returns-2 c = c.before.filled.ensures

quick-requires : tie.Need-quick-requires
quick-requires c κs =
    let I = c.before.before.before.before in
    let s = I.before.before in
    given-quick s.args.block s.args.numbers.now (usual I)

same-length-2 : tie.Need-shape_of-numbers
same-length-2 c = search rules

returns-3 : tie.Need-returns
returns-3 c =
    let Q = c.before in
    let I = Q.before.before.before.before.before in
    let s = I.before.before in
    record { left = Q.quick.ensures.left; done = quick-done s.args.block s.args.numbers.now (usual I) Q.quick.ensures }

pub tried_spec : {M : Type 1} → statement M
tried_spec = tie.close (tie.spec is-usual-requires returns is-one-requires filled-requires same_length returns-2 quick-requires same-length-2 returns-3)
