-- `side` meets its contract: the line of the side that is not 1. Assumes nothing.
use borrow.Author.Rules.{rules}
use native.Mathlib.Omega.{arith}
use mathlib.Core.Path.{◌≡◌, sym, ap, ◌∙◌, subst}
use mathlib.Core.Bool.{false}
use Prim.Native.Nat.{ℕ}
use borrow.Author.Tests.{ne_eqb}
use lib.Dec.{eqb}
use Rattle.algebra.specs.Lists.{tabulate}
use Rattle.transform_stages.specs.Work.{rounded_sum}
use Rattle.transform_line.specs.Lines.{GivenSide}
use Rattle.transform_block.specs.TransformBlock.{is_on}
use Rattle.transform_block.proofs.Taken.{deep, low-side}
use Rattle.transform_block.proofs.SideBlock.{upright-given, lying-given, upright-done, lying-done}
use Rattle.transform_block.proofs.side.side.Statement.{statement}
use Rattle.transform_block.proofs.side.side.Tie as tie

is-on-requires : tie.Need-is_on-requires
is-on-requires c κs = search rules

long-requires : tie.Need-long-requires
long-requires c κs = c.before.before.before.requires.0

same_length : tie.Need-shape_of-numbers-then-is_on
same_length c = search rules

returns : tie.Need-returns-then-is_on
returns c = c.before.long.ensures

last-requires : tie.Need-last-last-requires
last-requires c κs = let s = c.before.before in (deep s.args.block s.args.numbers.now s.requires.0.taken).1

cast-stage : tie.Need-overflow_cast-block
cast-stage c = search rules

cast-stage-2 : tie.Need-overflow_cast-block-then-block-eq1
cast-stage-2 c = search rules

stage-requires : tie.Need-stage-requires
stage-requires c κs =
    let A = c.before.before.before.before.before in
    let s = A.before.before.before in
    let b = s.args.block in
    subst (λ (l : ℕ). GivenSide b.vertical b.height b.rows l s.args.numbers.now) (sym A.last-last.ensures)
    (upright-given b s.args.numbers.now s.requires.0 s.requires.1 (sym A.before.before.is_on.ensures ∙ A.before.if-is_on.false) c.before.before.before.if-block-eq1.true)

same-length-2 : tie.Need-shape_of-numbers-then-block-eq1
same-length-2 c = search rules

returns-2 : tie.Need-returns-then-block-eq1
returns-2 c =
    let A = c.before.before.before.before.before.before.before in
    let s = A.before.before.before in
    let b = s.args.block in
    upright-done b s.args.numbers.now s.requires.0 s.requires.1 (sym A.before.before.is_on.ensures ∙ A.before.if-is_on.false) c.before.before.before.before.before.if-block-eq1.true
    (c.before.stage.ensures ∙ ap (λ (l : ℕ). tabulate b.height (rounded_sum b.vertical b.height b.rows l s.args.numbers.now)) A.last-last.ensures)

cast-stage-3 : tie.Need-overflow_cast-block-2
cast-stage-3 c = search rules

cast-stage-4 : tie.Need-overflow_cast-block-3
cast-stage-4 c = search rules

stage-requires-2 : tie.Need-stage-requires-2
stage-requires-2 c κs =
    let A = c.before.before.before.before.before in
    let s = A.before.before.before in
    let b = s.args.block in
    subst (λ (l : ℕ). GivenSide b.horizontal b.width b.columns l s.args.numbers.now) (sym A.last-last.ensures)
    (lying-given b s.args.numbers.now s.requires.0 s.requires.1 (sym A.before.before.is_on.ensures ∙ A.before.if-is_on.false) c.before.before.before.if-block-eq1.false (low-side b s.requires.1 (ne_eqb b.width 1 c.before.before.before.if-block-eq1.false)))

same-length-3 : tie.Need-shape_of-numbers
same-length-3 c = search rules

returns-3 : tie.Need-returns
returns-3 c =
    let A = c.before.before.before.before.before.before.before in
    let s = A.before.before.before in
    let b = s.args.block in
    lying-done b s.args.numbers.now s.requires.0 s.requires.1 (sym A.before.before.is_on.ensures ∙ A.before.if-is_on.false) c.before.before.before.before.before.if-block-eq1.false (low-side b s.requires.1 (ne_eqb b.width 1 c.before.before.before.before.before.if-block-eq1.false))
    (c.before.stage-2.ensures ∙ ap (λ (l : ℕ). tabulate b.width (rounded_sum b.horizontal b.width b.columns l s.args.numbers.now)) A.last-last.ensures)

pub side_spec : {M : Type 1} → statement M
side_spec =
    tie.close
    (tie.spec
    is-on-requires
    long-requires
    same_length
    returns
    last-requires
    cast-stage
    cast-stage-2
    stage-requires
    same-length-2
    returns-2
    cast-stage-3
    cast-stage-4
    stage-requires-2
    same-length-3
    returns-3)
