-- `long` meets its contract: what the stages give is the block. Assumes nothing.
use borrow.Author.Rules.{rules}
use mathlib.Core.Path.{◌≡◌, sym, subst}
use Prim.Native.Nat.{ℕ}
use Rattle.transform_stages.specs.Work as stage
use Rattle.transform_block.specs.TransformBlock.{reach_of, last_of}
use Rattle.transform_block.proofs.Taken.{deep}
use Rattle.transform_block.proofs.Ways.{given-stages, staged}
use Rattle.transform_block.proofs.long.long.Statement.{statement}
use Rattle.transform_block.proofs.long.long.Tie as tie

reach-requires : tie.Need-reach-requires
reach-requires c κs = search rules

last-requires : tie.Need-last-requires
last-requires c κs = let s = c.before in (deep s.args.block s.args.numbers.now s.requires.taken).1

stages-requires : tie.Need-stages-requires
stages-requires c κs =
    let A = c.before in
    let R = A.before in
    let s = R.before in
    let b = s.args.block in
    subst (λ (r : ℕ). stage.Given b.width b.height b.horizontal b.vertical b.columns b.rows r A.last.result s.args.numbers.now) (sym R.reach.ensures)
    (subst (λ (l : ℕ). stage.Given b.width b.height b.horizontal b.vertical b.columns b.rows (reach_of b) l s.args.numbers.now) (sym A.last.ensures) (given-stages b s.args.numbers.now s.requires))

same_length : tie.Need-shape_of-numbers
same_length c = search rules

returns : tie.Need-returns
returns c =
    let A = c.before.before.before in
    let R = A.before in
    let s = R.before in
    let b = s.args.block in
    let n = s.args.numbers.now in
    let k = c.before.stages.result in
    let out = c.before.stages.new.numbers in
    staged b n s.requires k out
    (subst (λ (l : ℕ). stage.Staged b.width b.height b.horizontal b.vertical b.columns b.rows (reach_of b) l n k out) A.last.ensures
    (subst (λ (r : ℕ). stage.Staged b.width b.height b.horizontal b.vertical b.columns b.rows r A.last.result n k out) R.reach.ensures c.before.stages.ensures))

pub long_spec : {M : Type 1} → statement M
long_spec = tie.close (tie.spec reach-requires last-requires stages-requires same_length returns)
