-- `stages::worked` meets its contract: its lines are those of both stages. Assumes nothing.
use borrow.Author.Rules.{rules}
use native.Mathlib.Omega.{arith}
use mathlib.Core.Path.{◌≡◌, refl, sym, ◌∙◌}
use Prim.Native.Nat.{ℕ, ◌+◌, ◌*◌, ◌/◌, ◌<◌, ◌≤◌}
use native.Mathlib.Nat.{mul-le-mul}
use lib.ListN.{length}
use lib.IntN.{pos}
use Rattle.algebra.specs.Lists.{at}
use Rattle.meaning.specs.Forward.{row_shift}
use Rattle.meaning.proofs.Cases.{size_in}
use Rattle.meaning.proofs.KeptPart.{columns-kept, rows-kept}
use Rattle.product.specs.Product.{Laid}
use Rattle.forward_block.specs.Stage.{line_value, Stage}
use Rattle.forward_block.proofs.TwoStages.{row_put, zip-given, column-put, block-done}
use Rattle.forward_block.proofs.stages.worked.Statement.{statement}
use Rattle.forward_block.proofs.stages.worked.Tie as tie

cast-w : tie.Need-overflow_cast-w
cast-w c = search rules

cast-h : tie.Need-overflow_cast-h
cast-h c = search rules

kept-columns-requires : tie.Need-kept_columns-columns-requires
kept-columns-requires c κs = search rules

kept-rows-requires : tie.Need-kept_rows-rows-requires
kept-rows-requires c κs = search rules

row-shift-requires : tie.Need-row_shift-p-requires
row-shift-requires c κs = search rules

column-shift-requires : tie.Need-column_shift-q-requires
column-shift-requires c κs = search rules

mul-stage : tie.Need-overflow_mul-w
mul-stage c = let s = c.before.before.before.before.before.before in omega (arith, size_in s.args.shape.width s.requires.0.taken.width)

stage-requires : tie.Need-stage-requires
stage-requires c κs =
    let s = c.before.before.before.before.before.before.before in
    (s.requires.0.taken.width, rw (c.row_shift-p.ensures, c.kept_columns-columns.ensures) (row_put s.requires.0 s.requires.1.0 (length s.args.coefficients.now) s.requires.1.1))

-- what stands between the stages
first : (c : tie.After-stage) → let s = c.before.before.before.before.before.before.before.before.args in let w = s.shape.width in
    Stage s.shape.columns s.shape.columns s.shape.height (line_value (w / 2) s.residuals.now w 2 s.along.now (2 * w) (row_shift s.shape)) c.stage.new.out s.coefficients.now
first c = rw (c.row_shift-p.ensures, c.kept_columns-columns.ensures) at c.stage.ensures

zip-requires : tie.Need-zip-requires
zip-requires c κs =
    let s = c.before.before.before.before.before.before.before.before.before.before in
    rw c.kept_columns-columns.ensures (zip-given s.requires.0 s.requires.1.0 s.requires.1.1 (first c.before.before) refl)

zipped : (c : tie.After-zip) → let s = c.before.before.before.before.before.before.before.before.before.before.before.args in
    Laid s.shape.columns (s.shape.height / 2) 2 (2 * s.shape.columns) (λ i x. at c.stage.new.out (x + i * s.shape.columns)) c.zip.new.z
zipped c = rw c.kept_columns-columns.ensures at c.zip.ensures

few-rows : (c : tie.After-kept_rows-rows) → c.kept_rows-rows.result ≤ 32
few-rows c = let s = c.before.before.before.before in omega (arith, c.kept_rows-rows.ensures, (rows-kept s.args.shape s.requires.0.taken).within, size_in s.args.shape.height s.requires.0.taken.height)

few-columns : (c : tie.After-kept_columns-columns) → c.kept_columns-columns.result ≤ 32
few-columns c = let s = c.before.before.before in omega (arith, c.kept_columns-columns.ensures, (columns-kept s.args.shape s.requires.0.taken).within, size_in s.args.shape.width s.requires.0.taken.width)

mul-clear-beyond : tie.Need-overflow_mul-rows
mul-clear-beyond c = omega (arith, mul-le-mul (few-rows c.before.before.before.before.before.before.before.before) (few-columns c.before.before.before.before.before.before.before.before.before))

clear-beyond-requires : tie.Need-clear_beyond-requires
clear-beyond-requires c κs = search rules

long : (c : tie.After-clear_beyond) → let s = c.before.before.before.before.before.before.before.before.before.before.before.before.before.before.args in length c.clear_beyond.new.out ≡ s.shape.width * s.shape.height
long c = c.clear_beyond.ensures.0 ∙ (first c.before.before.before.before.before.before).long ∙ c.before.before.before.before.before.before.before.before.before.before.before.before.before.before.requires.1.1

mul-stage-2 : tie.Need-overflow_mul-h
mul-stage-2 c = let s = c.before.before.before.before.before.before.before.before.before.before.before.before.before.before.before in omega (arith, size_in s.args.shape.height s.requires.0.taken.height)

mul-stage-3 : tie.Need-overflow_mul-columns
mul-stage-3 c = omega (arith, few-columns c.before.before.before.before.before.before.before.before.before.before.before.before)

stage-requires-2 : tie.Need-stage-requires-2
stage-requires-2 c κs =
    let s = c.before.before.before.before.before.before.before.before.before.before.before.before.before.before.before.before in (
      s.requires.0.taken.height,
      rw (c.column_shift-q.ensures, c.kept_columns-columns.ensures, c.kept_rows-rows.ensures)
          (column-put s.requires.0 s.requires.1.0 s.requires.1.1 (first c.before.before.before.before.before.before.before.before) (zipped c.before.before.before.before.before) _ (long c.before.before)),
    )

same_length : tie.Need-shape_of-along
same_length c = search rules

same-length-2 : tie.Need-shape_of-coefficients
same-length-2 c = search rules

-- where there are other places than the kept ones, they were cleared
cleared : (c : tie.After-clear_beyond) → let s = c.before.before.before.before.before.before.before.before.before.before.before.before.before.before.args in s.shape.rows * s.shape.columns < length c.clear_beyond.new.out → (k : ℕ) → k < length c.clear_beyond.new.out → at c.clear_beyond.new.out k ≡ pos 0
cleared c =
    let e = c.clear_beyond.ensures in
    rw (sym e.0) at (rw (c.kept_columns-columns.ensures, c.kept_rows-rows.ensures) at e.1)

returns : tie.Need-returns
returns c =
    let s = c.before.before.before.before.before.before.before.before.before.before.before.before.before.before.before.before.before.before in
    let K = c.before.before.before.before.before in
    block-done s.requires.0 s.requires.1.0 s.requires.1.1 (first c.before.before.before.before.before.before.before.before.before.before) (zipped c.before.before.before.before.before.before.before) (long c.before.before.before.before) (cleared c.before.before.before.before)
    (rw (c.column_shift-q.ensures, c.kept_columns-columns.ensures, c.kept_rows-rows.ensures) at c.before.stage-2.ensures)

pub worked_spec : {M : Type 1} → statement M
worked_spec =
    tie.close
    (tie.spec
    cast-w
    cast-h
    kept-columns-requires
    kept-rows-requires
    row-shift-requires
    column-shift-requires
    mul-stage
    stage-requires
    zip-requires
    mul-clear-beyond
    clear-beyond-requires
    mul-stage-2
    mul-stage-3
    stage-requires-2
    same_length
    same-length-2
    returns)
