-- `eight` meets its contract. Assumes nothing.
use native.Mathlib.Omega.{arith}
use borrow.Author.Rules.{rules}
use mathlib.Core.Path.{refl}
use Rattle.full_line.proofs.WholeLine.{whole-given, whole-line}
use Rattle.full_line.proofs.eight.Statement.{statement}
use Rattle.full_line.proofs.eight.Tie as tie

zipped-8-requires : tie.Need-zipped_8-weights-requires
zipped-8-requires c κs = search rules

slice-aggregate-line : tie.Need-slice_bounds-line-end
slice-aggregate-line c = search rules

line-requires : tie.Need-line-requires
line-requires c κs =
    let S = c.before.before.before in
    (whole-given refl 4 refl (omega arith) S.args.kind S.args.forward c.before.before.zipped_8-weights.ensures S.args.x.now S.args.y.now S.requires, record { small = omega arith; short = omega arith })

same_length : tie.Need-shape_of-y
same_length c = search rules

returns : tie.Need-returns
returns c =
    let S = c.before.before.before.before.before in
    whole-line refl 4 refl (omega arith) S.args.kind S.args.forward c.before.before.before.before.zipped_8-weights.ensures S.args.x.now S.args.y.now S.requires _ c.before.line.ensures

pub eight_spec : {M : Type 1} → statement M
eight_spec = tie.close (tie.spec zipped-8-requires slice-aggregate-line line-requires same_length returns)
