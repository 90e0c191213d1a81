-- `last` meets its contract: R is 15 to 20, and no depth is over 16. Assumes nothing.
use borrow.Author.Rules.{rules}
use native.Mathlib.Omega.{arith}
use mathlib.Core.Path.{◌≡◌, sym, ap, ◌∙◌}
use Prim.Native.Nat.{ℕ, ◌+◌, ◌-◌, ◌≤◌}
use Rattle.meaning.proofs.LongRules.{reach-in}
use Rattle.transform_block.specs.TransformBlock.{is_on, is_thin}
use Rattle.transform_block.proofs.rules.last.Statement.{statement}
use Rattle.transform_block.proofs.rules.last.Tie as tie

-- R
bounds : (c : tie.After-reach-r) → (15 ≤ c.reach-r.result) × (c.reach-r.result ≤ 20)
bounds c =
    let b = c.before.args.block in
    let r = reach-in (is_on b) b.depth in
    (omega (arith, c.reach-r.ensures, r), omega (arith, c.reach-r.ensures, r))

reach-requires : tie.Need-reach-r-requires
reach-requires c κs = search rules

one-stage-requires : tie.Need-one_stage-requires
one-stage-requires c κs = search rules

add-result : tie.Need-overflow_add-result
add-result c = omega (arith, bounds c.before.before)

sub-result : tie.Need-overflow_sub-result
sub-result c = omega (arith, bounds c.before.before.before, c.before.before.before.before.requires)

returns : tie.Need-returns-then-one_stage
returns c =
    let O = c.before.before in
    ap (λ (r : ℕ). 6 + r - O.before.before.args.block.depth) O.before.reach-r.ensures ∙ rw (← O.one_stage.ensures, c.before.if-one_stage.true)

add-result-2 : tie.Need-overflow_add-result-2
add-result-2 c = omega (arith, bounds c.before.before)

sub-result-2 : tie.Need-overflow_sub-result-2
sub-result-2 c = omega (arith, bounds c.before.before.before, c.before.before.before.before.requires)

returns-2 : tie.Need-returns
returns-2 c =
    let O = c.before.before in
    ap (λ (r : ℕ). 5 + r - O.before.before.args.block.depth) O.before.reach-r.ensures ∙ rw (← O.one_stage.ensures, c.before.if-one_stage.false)

pub last_spec : {M : Type 1} → statement M
last_spec = tie.close (tie.spec reach-requires one-stage-requires add-result sub-result returns add-result-2 sub-result-2 returns-2)
