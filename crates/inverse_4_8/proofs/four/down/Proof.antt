-- `four::down` meets its contract: in each case the kind is the one whose weights are taken. Assumes nothing.
use borrow.Author.Rules.{rules}
use native.Mathlib.Omega.{arith}
use mathlib.Core.Path.{◌≡◌, refl, ◌∙◌}
use mathlib.Core.List.{List, ◌++◌}
use Prim.Native.Nat.{◌*◌, ◌≤◌}
use lib.ListN.{length, drop}
use lib.IntN.{ℤ, pos}
use Rattle.algebra.specs.Lists.{block}
use Rattle.product.specs.Product.{line_sum, shifted, Rounding, Lines}
use Rattle.inverse_4_8.specs.Square.{down_block}
use Rattle.inverse_stage.proofs.Work.{all-written}
use Rattle.inverse_4_8.proofs.Square.{Of, of-kind, of_other, down_lines, down-sums}
use Rattle.inverse_4_8.proofs.four.down.Statement.{statement}
use Rattle.inverse_4_8.proofs.four.down.Tie as tie

-- the lines, by the weights of the kind
module _ (c : tie.After-zip) {t : List ℤ} (weights : Of c.before.before.args.kind 4 2 t) where
  abbrev s : tie.Start
  s = c.before.before

  abbrev z : List ℤ
  z = c.zip.new.z

  asks : Lines 4 4 2 t 2 8 z 8 × (Rounding (pos 64) 7 × (16 ≤ length s.args.e.now))
  asks = (
    down_lines s.args.kind refl (omega arith) (omega arith) weights s.args.c.now c.zip.ensures,
    (record { small = omega arith; short = omega arith }, omega (arith, s.requires.1.1)),
  )

  gives : block 4 4 (λ x y. shifted (pos 64) 7 (line_sum t (2 * y) 8 z 8 2 x)) ++ drop 16 s.args.e.now ≡ down_block s.args.kind 4 4 s.args.c.now
  gives =
      all-written 16 (block 4 4 (λ x y. shifted (pos 64) 7 (line_sum t (2 * y) 8 z 8 2 x))) s.args.e.now (omega (arith, s.requires.1.1))
      ∙ down-sums s.args.kind refl (omega arith) (omega arith) weights s.args.c.now c.zip.ensures

slice-aggregate-zip : tie.Need-slice_bounds-zip-end
slice-aggregate-zip c = search rules

zip-requires : tie.Need-zip-requires
zip-requires c κs =
    record { some = omega arith; wide = omega arith; narrow = omega arith; there = omega (arith, c.before.requires.1.0); room = omega arith }

zipped-4-requires : tie.Need-zipped_4-t-requires
zipped-4-requires c κs = search rules

slice-aggregate-lines : tie.Need-slice_bounds-lines-end
slice-aggregate-lines c = search rules

slice-aggregate-lines-2 : tie.Need-slice_bounds-lines-end-then-kind-eq1
slice-aggregate-lines-2 c = search rules

weights : (c : tie.After-zipped_4-t) → Of c.before.before.before.before.before.args.kind 4 2 c.zipped_4-t.result
weights c = of-kind c.before.before.before.before.before.args.kind 1 c.before.if-kind-eq1.true c.zipped_4-t.ensures

lines-requires : tie.Need-lines-requires
lines-requires c κs = let W = c.before.before.before in asks W.before.before.before (weights W)

zipped-4-requires-2 : tie.Need-zipped_4-t-requires-then-kind-eq2
zipped-4-requires-2 c κs = search rules

slice-aggregate-lines-3 : tie.Need-slice_bounds-lines-end-then-kind-eq2
slice-aggregate-lines-3 c = search rules

slice-aggregate-lines-4 : tie.Need-slice_bounds-lines-end-then-kind-eq2-2
slice-aggregate-lines-4 c = search rules

weights-2 : (c : tie.After-zipped_4-t-then-kind-eq2) → Of c.before.before.before.before.before.before.args.kind 4 2 c.zipped_4-t-then-kind-eq2.result
weights-2 c = of-kind c.before.before.before.before.before.before.args.kind 2 c.before.if-kind-eq2.true c.zipped_4-t-then-kind-eq2.ensures

lines-requires-2 : tie.Need-lines-requires-then-kind-eq2
lines-requires-2 c κs = let W = c.before.before.before in asks W.before.before.before.before (weights-2 W)

zipped-4-requires-3 : tie.Need-zipped_4-t-requires-else-kind-eq2
zipped-4-requires-3 c κs = search rules

slice-aggregate-lines-5 : tie.Need-slice_bounds-lines-end-else-kind-eq2
slice-aggregate-lines-5 c = search rules

slice-aggregate-lines-6 : tie.Need-slice_bounds-lines-end-else-kind-eq2-2
slice-aggregate-lines-6 c = search rules

weights-3 : (c : tie.After-zipped_4-t-else-kind-eq2) → Of c.before.before.before.before.before.before.args.kind 4 2 c.zipped_4-t-else-kind-eq2.result
weights-3 c =
    let I = c.before in
    let s = I.before.before.before.before.before in
    of_other s.args.kind s.requires.0 (λ e. omega (arith, I.before.if-kind-eq1.false)) (λ e. omega (arith, I.if-kind-eq2.false)) c.zipped_4-t-else-kind-eq2.ensures

lines-requires-3 : tie.Need-lines-requires-else-kind-eq2
lines-requires-3 c κs = let W = c.before.before.before in asks W.before.before.before.before (weights-3 W)

returns : tie.Need-returns-then-kind-eq1
returns c = let W = c.before.before.before.before in c.lines.ensures ∙ gives W.before.before.before (weights W)

returns-2 : tie.Need-returns-then-kind-eq2
returns-2 c = let W = c.before.before.before.before in c.lines-then-kind-eq2.ensures ∙ gives W.before.before.before.before (weights-2 W)

returns-3 : tie.Need-returns-else-kind-eq2
returns-3 c = let W = c.before.before.before.before in c.lines-else-kind-eq2.ensures ∙ gives W.before.before.before.before (weights-3 W)

pub down_spec : {M : Type 1} → statement M
down_spec =
    tie.close
    (tie.spec
    slice-aggregate-zip
    zip-requires
    zipped-4-requires
    slice-aggregate-lines
    slice-aggregate-lines-2
    lines-requires
    zipped-4-requires-2
    slice-aggregate-lines-3
    slice-aggregate-lines-4
    lines-requires-2
    zipped-4-requires-3
    slice-aggregate-lines-5
    slice-aggregate-lines-6
    lines-requires-3
    returns
    returns-2
    returns-3)
