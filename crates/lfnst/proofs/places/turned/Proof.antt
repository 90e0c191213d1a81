-- `turned` meets its contract: four values and four more, or four zeros. Assumes nothing.
use borrow.Author.Rules.{rules}
use native.Mathlib.Omega.{arith}
use mathlib.Core.Path.{◌∙◌}
use Rattle.lfnst.proofs.Placing.{halves, turned_left, turned_right, turned-last}
use Rattle.lfnst.proofs.places.turned.Statement.{statement}
use Rattle.lfnst.proofs.places.turned.Tie as tie

four-requires : tie.Need-four-requires
four-requires c κs = let s = c.before in (omega (arith, s.requires.0), (s.requires.1.0, omega (arith, s.requires.1.1)))

add-four : tie.Need-overflow_add-y
add-four c = search rules

add-four-2 : tie.Need-overflow_add-p
add-four-2 c = search rules

four-requires-2 : tie.Need-four-requires-then-y-lt4
four-requires-2 c κs =
    let T = c.before in
    let F = T.before.before in
    let s = F.before.before in
    (omega (arith, T.if-y-lt4.true), (s.requires.1.0, omega (arith, F.four.ensures.long, s.requires.1.1)))

add_none : tie.Need-overflow_add-p-else-y-lt4
add_none c = search rules

none-requires : tie.Need-none-requires
none-requires c κs =
    let F = c.before.before.before in
    let s = F.before.before in
    omega (arith, F.four.ensures.long, s.requires.1.1)

same_length : tie.Need-shape_of-numbers-then-y-lt4
same_length c =
    let G = c.before in
    G.four-then-y-lt4.ensures.long ∙ G.before.before.before.before.four.ensures.long

returns : tie.Need-returns-then-y-lt4
returns c =
    let G = c.before in
    let T = G.before.before in
    let F = T.before.before in
    let s = F.before.before in
    halves F.four.ensures G.four-then-y-lt4.ensures (turned_left s.args.v.now s.args.y s.requires.0) (turned_right s.args.v.now s.args.y T.if-y-lt4.true)

same-length-2 : tie.Need-shape_of-numbers-else-y-lt4
same-length-2 c =
    let G = c.before in
    G.none.ensures.long ∙ G.before.before.before.before.four.ensures.long

returns-2 : tie.Need-returns-else-y-lt4
returns-2 c =
    let G = c.before in
    let T = G.before.before in
    let F = T.before.before in
    let s = F.before.before in
    halves F.four.ensures G.none.ensures (turned_left s.args.v.now s.args.y s.requires.0) (turned-last s.args.v.now s.args.y T.if-y-lt4.false s.requires.0)

pub turned_spec : {M : Type 1} → statement M
turned_spec =
    tie.close
    (tie.spec
    four-requires
    add-four
    add-four-2
    four-requires-2
    add_none
    none-requires
    same_length
    returns
    same-length-2
    returns-2)
