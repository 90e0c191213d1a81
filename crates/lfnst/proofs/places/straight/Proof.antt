-- `straight` meets its contract: eight values, or four and four zeros. Assumes nothing.
use borrow.Author.Rules.{rules}
use native.Mathlib.Omega.{arith}
use mathlib.Core.Path.{◌∙◌}
use Rattle.lfnst.proofs.Placing.{halves, above-left, above-right, below_left, below_right}
use Rattle.lfnst.proofs.places.straight.Statement.{statement}
use Rattle.lfnst.proofs.places.straight.Tie as tie

mul-four : tie.Need-overflow_mul-y
mul-four c = search rules

four-requires : tie.Need-four-requires
four-requires c κs = let s = c.before.before in (omega (arith, c.before.if-y-lt4.true), (s.requires.1.0, omega (arith, s.requires.1.1)))

mul-four-2 : tie.Need-overflow_mul-y-then-y-lt4
mul-four-2 c = search rules

add-four : tie.Need-overflow_add-y
add-four c = search rules

add-four-2 : tie.Need-overflow_add-p
add-four-2 c = search rules

four-requires-2 : tie.Need-four-requires-then-y-lt4
four-requires-2 c κs =
    let F = c.before.before in
    let T = F.before.before in
    let s = T.before in
    (omega (arith, T.if-y-lt4.true), (s.requires.1.0, omega (arith, F.four.ensures.long, s.requires.1.1)))

mul-four-3 : tie.Need-overflow_mul-y-else-y-lt4
mul-four-3 c = search rules

add-four-3 : tie.Need-overflow_add-y-else-y-lt4
add-four-3 c = search rules

four-requires-3 : tie.Need-four-requires-else-y-lt4
four-requires-3 c κs = let s = c.before.before in (omega (arith, s.requires.0), (s.requires.1.0, omega (arith, s.requires.1.1)))

add_none : tie.Need-overflow_add-p-else-y-lt4
add_none c = search rules

none-requires : tie.Need-none-requires
none-requires c κs =
    let F = c.before.before in
    let s = F.before.before.before in
    omega (arith, F.four-else-y-lt4.ensures.long, s.requires.1.1)

same_length : tie.Need-shape_of-numbers-then-y-lt4
same_length c =
    let G = c.before in
    G.four-then-y-lt4.ensures.long ∙ G.before.before.before.four.ensures.long

returns : tie.Need-returns-then-y-lt4
returns c =
    let G = c.before in
    let F = G.before.before.before in
    let T = F.before.before in
    let s = T.before in
    let l = T.if-y-lt4.true in
    halves F.four.ensures G.four-then-y-lt4.ensures (above-left s.args.v.now s.args.y l) (above-right s.args.v.now s.args.y l)

same-length-2 : tie.Need-shape_of-numbers-else-y-lt4
same-length-2 c =
    let G = c.before in
    G.none.ensures.long ∙ G.before.before.before.four-else-y-lt4.ensures.long

returns-2 : tie.Need-returns-else-y-lt4
returns-2 c =
    let G = c.before in
    let F = G.before.before.before in
    let T = F.before.before in
    let s = T.before in
    let l = T.if-y-lt4.false in
    halves F.four-else-y-lt4.ensures G.none.ensures (below_left s.args.v.now s.args.y l s.requires.0) (below_right s.args.v.now s.args.y l s.requires.0)

pub straight_spec : {M : Type 1} → statement M
straight_spec =
    tie.close
    (tie.spec
    mul-four
    four-requires
    mul-four-2
    add-four
    add-four-2
    four-requires-2
    mul-four-3
    add-four-3
    four-requires-3
    add_none
    none-requires
    same_length
    returns
    same-length-2
    returns-2)
