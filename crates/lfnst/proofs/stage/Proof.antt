-- `stage` meets its contract: the corner, the values by a matrix, and these in their places. Assumes nothing.
use borrow.Author.Rules.{rules}
use native.Mathlib.Omega.{arith}
use mathlib.Core.Path.{◌≡◌, refl, sym, ap, ◌∙◌}
use mathlib.Core.Bool.{Bool, cond}
use Rattle.lfnst.specs.Work.{side_of}
use Rattle.lfnst.proofs.Whole.{four-in, side-in, ranged-corner, staged}
use Rattle.lfnst.proofs.stage.Statement.{statement}
use Rattle.lfnst.proofs.stage.Tie as tie

read-corner-requires : tie.Need-read_corner-requires
read-corner-requires c κs =
    let g = c.before.requires in
    let f = four-in g in
    (f.0, (g.most, (f.1, refl)))

is-wide-requires : tie.Need-is_wide-wide-requires
is-wide-requires c κs = search rules

pairs-of-requires : tie.Need-pairs_of-pairs-requires
pairs-of-requires c κs = search rules

mul-matrix : tie.Need-overflow_mul-matrix
mul-matrix c = let g = c.before.before.before.before.requires in omega (arith, g.sets)

add-matrix : tie.Need-overflow_add-matrix
add-matrix c = let g = c.before.before.before.before.requires in omega (arith, g.sets, g.two)

sub-matrix : tie.Need-overflow_sub-matrix
sub-matrix c = let g = c.before.before.before.before.requires in omega (arith, g.some)

cast-matrix : tie.Need-overflow_cast-matrix
cast-matrix c = let g = c.before.before.before.before.requires in omega (arith, g.sets, g.two)

slice-aggregate-values : tie.Need-slice_bounds-values-end
slice-aggregate-values c = search rules

values-requires : tie.Need-values-requires
values-requires c κs =
    let P = c.before.before in
    let R = P.before.before in
    let g = R.before.before.requires in
    (omega (arith, g.sets, g.two), (P.pairs_of-pairs.ensures.1, (g.short, (ranged-corner g R.read_corner.ensures, omega arith))))

-- how many columns and rows are written
eight : (c : tie.Then-wide) → let I = c.before.before.before.before.before.before in 8 ≡ side_of I.before.before.before.args.width I.before.before.before.args.height
eight c = ap (λ (b : Bool). cond b 8 4) (sym c.if-wide.true ∙ c.before.before.before.before.before.before.is_wide-wide.ensures)

four : (c : tie.Else-wide) → let I = c.before.before.before.before.before.before in 4 ≡ side_of I.before.before.before.args.width I.before.before.before.args.height
four c = ap (λ (b : Bool). cond b 8 4) (sym c.if-wide.false ∙ c.before.before.before.before.before.before.is_wide-wide.ensures)

place-48-requires : tie.Need-place_48-requires
place-48-requires c κs =
    let T = c.before.before in
    (T.before.before.values.ensures.long, side-in T.before.before.before.before.before.before.before.before.before.requires 8 (eight T))

place-16-requires : tie.Need-place_16-requires
place-16-requires c κs =
    let T = c.before.before in
    (T.before.before.values.ensures.long, side-in T.before.before.before.before.before.before.before.before.before.requires 4 (four T))

same_length : tie.Need-shape_of-numbers-then-wide
same_length c = c.before.place_48.ensures.long

returns : tie.Need-returns-then-wide
returns c =
    let T = c.before.before.before.before in
    let A = T.before.before in
    let P = A.before.before.before in
    let I = P.before in
    let R = I.before in
    let s = R.before.before in
    staged s.requires s.args.transposed P.pairs_of-pairs.result I.is_wide-wide.ensures P.pairs_of-pairs.ensures.0 refl R.read_corner.ensures A.values.ensures 8 (eight T) (omega arith)
    (rw T.if-wide.true c.before.place_48.ensures)

same-length-2 : tie.Need-shape_of-numbers-else-wide
same-length-2 c = c.before.place_16.ensures.long

returns-2 : tie.Need-returns-else-wide
returns-2 c =
    let T = c.before.before.before.before in
    let A = T.before.before in
    let P = A.before.before.before in
    let I = P.before in
    let R = I.before in
    let s = R.before.before in
    staged s.requires s.args.transposed P.pairs_of-pairs.result I.is_wide-wide.ensures P.pairs_of-pairs.ensures.0 refl R.read_corner.ensures A.values.ensures 4 (four T) (omega arith)
    (rw T.if-wide.false c.before.place_16.ensures)

pub stage_spec : {M : Type 1} → statement M
stage_spec =
    tie.close
    (tie.spec
    read-corner-requires
    is-wide-requires
    pairs-of-requires
    mul-matrix
    add-matrix
    sub-matrix
    cast-matrix
    slice-aggregate-values
    values-requires
    place-48-requires
    place-16-requires
    same_length
    returns
    same-length-2
    returns-2)
