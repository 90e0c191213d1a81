-- `low` meets its contract: the stage, on the corner as far as it is read. Assumes nothing.
use borrow.Author.Rules.{rules}
use native.Mathlib.Omega.{arith}
use mathlib.Core.Path.{◌≡◌, sym, subst}
use Prim.Native.Nat.{ℕ}
use Rattle.lfnst.specs.Work.{GivenStage}
use Rattle.transform_block.proofs.Behind.{stage-given, stage-left}
use Rattle.transform_block.proofs.low.low.Statement.{statement}
use Rattle.transform_block.proofs.low.low.Tie as tie

reach-requires : tie.Need-reach-requires
reach-requires c κs = search rules

stage-requires : tie.Need-stage-requires
stage-requires c κs =
    let R = c.before in
    let s = R.before.before in
    let b = s.args.block in
    subst (λ (r : ℕ). GivenStage b.width b.height b.lfnst b.set r b.columns b.rows s.args.numbers.now) (sym R.reach.ensures) (stage-given b s.args.numbers.now s.requires.0.0 s.requires.0.1)

same_length : tie.Need-shape_of-numbers
same_length c = c.before.stage.ensures.long

returns : tie.Need-returns
returns c =
    let S = c.before in
    let R = S.before.before in
    let s = R.before.before in
    let b = s.args.block in
    let e = s.requires.1 in (
      (λ i. record {
        width = b.width;
        height = b.height;
        horizontal = b.horizontal;
        vertical = b.vertical;
        depth = b.depth;
        extended = b.extended;
        columns = e i;
        rows = e i;
        lfnst = 0;
        set = b.set;
        transposed = b.transposed;
      }),
      stage-left b s.requires.0.0.taken s.requires.0.1 R.reach.ensures S.stage.ensures,
    )

pub low_spec : {M : Type 1} → statement M
low_spec = tie.close (tie.spec reach-requires stage-requires same_length returns)
