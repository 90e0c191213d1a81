-- `paired` meets its contract: the plan of the stages is the block's. Assumes nothing.
use borrow.Author.Rules.{rules}
use mathlib.Core.Path.{◌≡◌, sym, ap, ◌∙◌, subst}
use Prim.Native.Nat.{ℕ}
use mathlib.Core.List.{List}
use lib.IntN.{ℤ}
use Rattle.meaning.specs.Plan.{Plan}
use Rattle.meaning.specs.Inverse.{rails, inverse_block}
use Rattle.transform_pairs.specs.Pairs.{short_plan, GivenPairs}
use Rattle.transform_two.specs.Two.{GivenSides}
use Rattle.transform_block.specs.TransformBlock.{transform_plan}
use Rattle.transform_block.proofs.Taken.{deep}
use Rattle.transform_block.proofs.PairedBlock.{given-pairs, given-sides, same-plan}
use Rattle.transform_block.proofs.paired.paired.Statement.{statement}
use Rattle.transform_block.proofs.paired.paired.Tie as tie

cast-w : tie.Need-overflow_cast-w
cast-w c = search rules

cast-h : tie.Need-overflow_cast-h
cast-h c = search rules

cast-columns : tie.Need-overflow_cast-columns
cast-columns c = search rules

cast-rows : tie.Need-overflow_cast-rows
cast-rows c = search rules

last-requires : tie.Need-last-last-requires
last-requires c κs = let s = c.before.before.before.before in (deep s.args.block s.args.numbers.now s.requires.0.taken).1

has-two-requires : tie.Need-has_two-requires
has-two-requires c κs = search rules

abbrev plan : tie.Start → ℕ → Plan
plan s l = let b = s.args.block in short_plan b.width b.height b.horizontal b.vertical b.columns b.rows l

-- .. is the block's
back : {r : ℕ} {o : List ℤ} (c : tie.After-last-last) → let s = c.before.before.before.before.before in (r ≡ rails (plan s c.last-last.result) s.args.numbers.now) × (o ≡ inverse_block (plan s c.last-last.result) s.args.numbers.now)
    → (r ≡ rails (transform_plan s.args.block) s.args.numbers.now) × (o ≡ inverse_block (transform_plan s.args.block) s.args.numbers.now)
back c q =
    let s = c.before.before.before.before.before in
    let n = s.args.numbers.now in
    let e : plan s c.last-last.result ≡ transform_plan s.args.block = ap (plan s) c.last-last.ensures ∙ same-plan s.args.block s.requires.1 in
    (q.0 ∙ ap (λ (p : Plan). rails p n) e, q.1 ∙ ap (λ (p : Plan). inverse_block p n) e)

stages-requires : tie.Need-stages-requires
stages-requires c κs =
    let A = c.before.before.before in
    let s = A.before.before.before.before.before in (
      subst (λ (l : ℕ). GivenSides (plan s l) s.args.numbers.now) (sym A.last-last.ensures) (given-sides s.args.block s.requires.1 s.args.numbers.now s.requires.0),
      c.before.before.has_two.ensures c.before.if-has_two.true,
    )

returns : tie.Need-returns-then-has_two
returns c = back c.before.before.before.before.before c.before.stages.ensures

same_length : tie.Need-shape_of-numbers-then-has_two
same_length c = search rules

stages-requires-2 : tie.Need-stages-requires-2
stages-requires-2 c κs =
    let A = c.before.before.before in
    let s = A.before.before.before.before.before in
    subst (λ (l : ℕ). GivenPairs (plan s l) s.args.numbers.now) (sym A.last-last.ensures) (given-pairs s.args.block s.requires.1 s.args.numbers.now s.requires.0)

returns-2 : tie.Need-returns
returns-2 c = back c.before.before.before.before.before c.before.stages-2.ensures

same-length-2 : tie.Need-shape_of-numbers
same-length-2 c = search rules

pub paired_spec : {M : Type 1} → statement M
paired_spec =
    tie.close
    (tie.spec cast-w cast-h cast-columns cast-rows last-requires has-two-requires stages-requires same_length returns stages-requires-2 same-length-2 returns-2)
