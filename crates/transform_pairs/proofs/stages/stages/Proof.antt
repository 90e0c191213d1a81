-- `stages` meets its contract: in small rooms or large ones. Assumes nothing.
use borrow.Author.Rules.{rules}
use native.Mathlib.Omega.{arith}
use mathlib.Core.Path.{◌≡◌, sym, ap, ◌∙◌, subst}
use Prim.Native.Nat.{ℕ, ◌≤◌}
use Rattle.meaning.specs.Inverse.{rails, inverse_block}
use Rattle.transform_pairs.specs.Pairs.{short_plan, GivenPairs, pairs_of}
use Rattle.transform_pairs.proofs.stages.stages.Statement.{statement}
use Rattle.transform_pairs.proofs.stages.stages.Tie as tie

pairs-of-requires : tie.Need-pairs_of-high-requires
pairs-of-requires c κs = search rules

pairs-of-requires-2 : tie.Need-pairs_of-wide-requires
pairs-of-requires-2 c κs = search rules

-- what either is given
abbrev Given : tie.After-pairs_of-wide → ℕ → Type 0
Given c w =
    let a = c.before.before.args in
    GivenPairs (short_plan w a.h a.horizontal a.vertical a.columns a.rows a.last) a.numbers.now × ((c.before.pairs_of-high.result ≡ pairs_of a.rows) × (c.pairs_of-wide.result ≡ pairs_of a.columns))

given : (c : tie.After-pairs_of-wide) → Given c c.before.before.args.w
given c = (c.before.before.requires, (c.before.pairs_of-high.ensures, c.pairs_of-wide.ensures))

large-requires : tie.Need-large-requires
large-requires c κs = given c.before.before

same_length : tie.Need-shape_of-numbers-then-w-gt16
same_length c = search rules

returns : tie.Need-returns-then-w-gt16
returns c = c.before.large.ensures

large-requires-2 : tie.Need-large-requires-then-h-gt16
large-requires-2 c κs = given c.before.before.before

same-length-2 : tie.Need-shape_of-numbers-then-h-gt16
same-length-2 c = search rules

returns-2 : tie.Need-returns-then-h-gt16
returns-2 c = c.before.large-then-h-gt16.ensures

small-requires : tie.Need-small-requires
small-requires c κs =
    let I = c.before in
    let P = I.before.before.before in
    (subst (Given P) I.if-w-eq2.true (given P), (omega arith, I.before.if-h-gt16.false))

same-length-3 : tie.Need-shape_of-numbers-then-w-eq2
same-length-3 c = search rules

returns-3 : tie.Need-returns-then-w-eq2
returns-3 c =
    let I = c.before.before.before in
    let a = I.before.before.before.before.before.args in
    let e = I.if-w-eq2.true in
    let r = c.before.small.ensures in (
      r.0 ∙ ap (λ (w : ℕ). rails (short_plan w a.h a.horizontal a.vertical a.columns a.rows a.last) a.numbers.now) (sym e),
      r.1 ∙ ap (λ (w : ℕ). inverse_block (short_plan w a.h a.horizontal a.vertical a.columns a.rows a.last) a.numbers.now) (sym e),
    )

small-requires-2 : tie.Need-small-requires-2
small-requires-2 c κs = let E = c.before in (given E.before.before.before, (E.before.before.if-w-gt16.false, E.before.if-h-gt16.false))

same-length-4 : tie.Need-shape_of-numbers
same-length-4 c = search rules

returns-4 : tie.Need-returns
returns-4 c = c.before.small-2.ensures

pub stages_spec : {M : Type 1} → statement M
stages_spec =
    tie.close
    (tie.spec
    pairs-of-requires
    pairs-of-requires-2
    large-requires
    same_length
    returns
    large-requires-2
    same-length-2
    returns-2
    small-requires
    same-length-3
    returns-3
    small-requires-2
    same-length-4
    returns-4)
