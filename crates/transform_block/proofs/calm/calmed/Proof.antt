-- `calmed` meets its contract. Assumes nothing.
use native.Mathlib.Omega.{arith}
use mathlib.Core.Path.{◌≡◌, refl, sym, ◌∙◌, subst}
use mathlib.Core.Bool.{true, false}
use Prim.Native.Nat.{◌+◌, ◌*◌}
use native.Mathlib.Nat.{mul_comm, mul-le-mul_right}
use borrow.Author.Tests.{not-false, leb-true}
use Rattle.algebra.specs.Lists.{at}
use Rattle.meaning.specs.Answer.{Outcome}
use Rattle.transform_calm.specs.Calm.{read_sizes}
use Rattle.transform_block.specs.declared.TransformBlock.{TransformBlock}
use Rattle.transform_block.specs.TransformBlock.{is_on, is_thin, reach_of, transformed}
use Rattle.transform_block.specs.Given.{GivenWork}
use Rattle.transform_block.proofs.Taken.{columns-read, rows-read, deep, far, in-long}
use Rattle.transform_block.proofs.Shortened.{short-given, short-same}
use borrow.Author.Rules.{rules}
use Rattle.transform_block.proofs.calm.calmed.Statement.{statement}
use Rattle.transform_block.proofs.calm.calmed.Tie as tie

is-on-requires : tie.Need-is_on-requires
is-on-requires c κs = search rules

returns : tie.Need-returns-then-not-is_on
returns c = (c.before.before.requires, refl)

one-stage-requires : tie.Need-one_stage-requires
one-stage-requires c κs = search rules

returns-2 : tie.Need-returns-then-one_stage
returns-2 c = (c.before.before.before.before.requires, refl)

cast-is-calm : tie.Need-overflow_cast-block
cast-is-calm c = search rules

cast-is-calm-2 : tie.Need-overflow_cast-block-2
cast-is-calm-2 c = search rules

cast-is-calm-3 : tie.Need-overflow_cast-block-3
cast-is-calm-3 c = search rules

is-calm-requires : tie.Need-is_calm-requires
is-calm-requires c κs =
    let s = c.before.before.before.before.before.before.before in
    let b = s.args.block in
    let n = s.args.numbers.now in
    let t = s.requires.taken in
    let x = columns-read b n t in
    let y = rows-read b n t in (
      (x.within, (x.short, y.short)),
      (
        omega (arith, t.long, mul_comm b.width b.height, mul-le-mul_right b.width y.within),
        λ i j h k. in-long (reach_of b) (far b n t).1 (at n (i + j * b.width)) (s.requires.inside i j h k),
      ),
    )

-- the switch is on, and there are two stages
on : (c : tie.Else-one_stage) → is_on c.before.before.before.before.args.block ≡ true
on c = sym c.before.before.before.is_on.ensures ∙ c.before.before.if-not-is_on.false

two : (c : tie.Else-one_stage) → is_thin c.before.before.before.before.args.block ≡ false
two c = sym c.before.one_stage.ensures ∙ c.if-one_stage.false

short-of-requires : tie.Need-short_of-requires
short-of-requires c κs =
    let s = c.before.before.before.before.before.before.before.before.before in
    (on c.before.before.before.before.before, (two c.before.before.before.before.before, deep s.args.block s.args.numbers.now s.requires.taken))

returns-3 : tie.Need-returns-then-is_calm
returns-3 c =
    let I = c.before in
    let E = I.before.before.before.before.before in
    let s = E.before.before.before.before in
    let b = s.args.block in
    let n = s.args.numbers.now in
    let calm = leb-true (read_sizes b.width b.columns b.rows n) 32767 (sym I.before.is_calm.ensures ∙ I.if-is_calm.true) in
    subst (λ (r : TransformBlock). GivenWork r n × (◌≡◌ {A = Outcome} (transformed r n) (transformed b n))) (sym c.short_of.ensures) (short-given b n s.requires (on E) (two E) calm, short-same b n s.requires (on E) (two E) calm)

returns-4 : tie.Need-returns
returns-4 c = (c.before.before.before.before.before.before.before.before.before.requires, refl)

pub calmed_spec : {M : Type 1} → statement M
calmed_spec =
    tie.close
    (tie.spec
    is-on-requires
    returns
    one-stage-requires
    returns-2
    cast-is-calm
    cast-is-calm-2
    cast-is-calm-3
    is-calm-requires
    short-of-requires
    returns-3
    returns-4)
