-- `place` meets its contract. Assumes nothing.
use Rattle.std.proofs.Common.{arith, rules}
use Rattle.report.specs.Totals.{class}
use Rattle.report.proofs.Places.{kind-in}
use Rattle.report.proofs.totals.place.Statement.{statement}
use Rattle.report.proofs.totals.place.Tie as tie

side-requires : tie.Need-side-width-requires
side-requires c κs = search rules

side-requires-2 : tie.Need-side-height-requires
side-requires-2 c κs = search rules

cast-horizontal : tie.Need-overflow_cast-horizontal
cast-horizontal c = search rules

cast-vertical : tie.Need-overflow_cast-vertical
cast-vertical c = search rules

mul-result : tie.Need-overflow_mul-result
mul-result c = search rules

add-result : tie.Need-overflow_add-result
add-result c = search rules

mul-result-2 : tie.Need-overflow_mul-result-2
mul-result-2 c = search rules

mul-result-3 : tie.Need-overflow_mul-result-3
mul-result-3 c = search rules

add-result-2 : tie.Need-overflow_add-result-2
add-result-2 c = search rules

add-result-3 : tie.Need-overflow_add-result-3
add-result-3 c = search rules

mul-result-4 : tie.Need-overflow_mul-result-4
mul-result-4 c = search rules

returns : tie.Need-returns
unfolding class
returns c =
    let s = c.before.before.before.before in
    let a = c.before.before.before.side-width.ensures in
    let b = c.before.before.side-height.ensures in
    let h = kind-in s.args.shape.horizontal s.requires.0 in
    let v = kind-in s.args.shape.vertical s.requires.1 in
    (omega (arith, a.0, b.0), omega (arith, a.1, b.1, h, v))

pub place_spec : {M : Type 1} → statement M
place_spec =
    tie.close
    (tie.spec
    side-requires
    side-requires-2
    cast-horizontal
    cast-vertical
    mul-result
    add-result
    mul-result-2
    mul-result-3
    add-result-2
    add-result-3
    mul-result-4
    returns)
