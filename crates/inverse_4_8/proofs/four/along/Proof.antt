-- `four::along` meets its contract: in each case the kind is the one whose weights are taken. Assumes nothing.
use borrow.Author.Rules.{rules}
use native.Mathlib.Omega.{arith}
use mathlib.Core.Path.{◌≡◌, refl, sym, ap, ◌∙◌}
use mathlib.Core.Bool.{true}
use mathlib.Core.List.{List, ◌++◌}
use Prim.Native.Nat.{ℕ, ◌+◌, ◌*◌, ◌≤◌}
use lib.ListN.{length, drop}
use lib.IntN.{ℤ}
use mir.Syntax.{w32}
use mir.Val.{to_z, of_z}
use Rattle.algebra.specs.Lists.{at, block}
use Rattle.algebra.proofs.Lists.{block-length}
use Rattle.meaning.specs.Shape.{is_kind}
use Rattle.meaning.specs.Line.{inverse_sum}
use Rattle.meaning.proofs.Cases.{kind-cases}
use Rattle.product.specs.Product.{line_sum, shifted, Rounding, Lines}
use Rattle.product.proofs.Laid.{half_is, half-rounds}
use Rattle.inverse_4_8.specs.Square.{along_block}
use Rattle.inverse_stage.proofs.Work.{all-written}
use Rattle.inverse_4_8.proofs.Square.{Of, of-kind, along-lines, along-sums}
use Rattle.inverse_4_8.proofs.four.along.Statement.{statement}
use Rattle.inverse_4_8.proofs.four.along.Tie as tie

half-requires : tie.Need-half-half-requires
half-requires c κs = c.requires.1.0

-- the lines, by the weights of the kind
module _ (c : tie.After-half-half) {t : List ℤ} (weights : Of c.before.args.kind 4 2 t) where
  abbrev m : List ℤ
  m = c.before.args.m.now

  abbrev r : List ℤ
  r = c.before.args.r.now

  abbrev last : ℕ
  last = c.before.args.last

  -- the rounding, as it is handed on
  abbrev held : ℤ
  held = to_z w32 (of_z w32 c.half-half.result)

  asks : Lines 4 4 2 m 4 2 t 8 × (Rounding held last × (16 ≤ length r))
  asks = (
    along-lines c.before.args.kind refl (omega arith) (omega arith) weights m c.before.requires.1.1.0,
    (half-rounds c.half-half.ensures, omega (arith, c.before.requires.1.1.1.0)),
  )

  gives : block 4 4 (λ x y. shifted held last (line_sum m (4 * y) 2 t 8 2 x)) ++ drop 16 r ≡ along_block c.before.args.kind 4 4 m last
  gives =
      all-written 16 (block 4 4 (λ x y. shifted held last (line_sum m (4 * y) 2 t 8 2 x))) r (omega (arith, c.before.requires.1.1.1.0))
      ∙ along-sums c.before.args.kind refl (omega arith) (omega arith) weights m c.before.requires.1.1.0 last (half_is c.half-half.ensures)

  as_long : {l : List ℤ} → l ≡ along_block c.before.args.kind 4 4 m last → length l ≡ length r
  as_long e = ap length e ∙ block-length 4 4 _ ∙ sym c.before.requires.1.1.1.0

zipped-4-requires : tie.Need-zipped_4-t-requires
zipped-4-requires c κs = search rules

slice-aggregate-lines : tie.Need-slice_bounds-lines-end-then-kind-eq1
slice-aggregate-lines c = search rules

weights : (c : tie.After-zipped_4-t) → Of c.before.before.before.args.kind 4 2 c.zipped_4-t.result
weights c = of-kind c.before.before.before.args.kind 1 c.before.if-kind-eq1.true c.zipped_4-t.ensures

lines-requires : tie.Need-lines-requires
lines-requires c κs = let W = c.before.before.before in asks W.before.before (weights W)

zipped-4-requires-2 : tie.Need-zipped_4-t-requires-then-kind-eq2
zipped-4-requires-2 c κs = search rules

slice-aggregate-lines-2 : tie.Need-slice_bounds-lines-end-then-kind-eq2-2
slice-aggregate-lines-2 c = search rules

weights-2 : (c : tie.After-zipped_4-t-then-kind-eq2) → Of c.before.before.before.before.args.kind 4 2 c.zipped_4-t-then-kind-eq2.result
weights-2 c = of-kind c.before.before.before.before.args.kind 2 c.before.if-kind-eq2.true c.zipped_4-t-then-kind-eq2.ensures

lines-requires-2 : tie.Need-lines-requires-then-kind-eq2
lines-requires-2 c κs = let W = c.before.before.before in asks W.before.before.before (weights-2 W)

-- a kind that is neither of the others is 0
other : (kind : ℕ) → is_kind kind ≡ true → (kind ≡ 1 → ⊥) → (kind ≡ 2 → ⊥) → kind ≡ 0
other = kind-cases (λ k. (k ≡ 1 → ⊥) → (k ≡ 2 → ⊥) → k ≡ 0) (λ f g. absurd (f refl)) (λ f g. absurd (g refl)) (λ f g. refl)

rows-requires : tie.Need-rows-requires
rows-requires c κs =
    let H = c.before.before.before in
    let p = H.before.requires.1.1 in
    ((p.0, p.1.1), (half-rounds H.half-half.ensures, p.1.0))

returns : tie.Need-returns-then-kind-eq1
returns c = let W = c.before.before.before.before.before in c.before.lines.ensures ∙ gives W.before.before (weights W)

same_length : tie.Need-shape_of-r-then-kind-eq1
same_length c = let W = c.before.before.before.before.before in as_long W.before.before (weights W) (returns c)

returns-2 : tie.Need-returns-then-kind-eq2
returns-2 c = let W = c.before.before.before.before.before in c.before.lines-then-kind-eq2.ensures ∙ gives W.before.before.before (weights-2 W)

same-length-2 : tie.Need-shape_of-r-then-kind-eq2
same-length-2 c = let W = c.before.before.before.before.before in as_long W.before.before.before (weights-2 W) (returns-2 c)

returns-3 : tie.Need-returns-else-kind-eq2
returns-3 c =
    let I = c.before.before.before in
    let H = I.before.before in
    let a = H.before.args in
    let k = other a.kind H.before.requires.0 (λ e. omega (arith, I.before.if-kind-eq1.false)) (λ e. omega (arith, I.if-kind-eq2.false)) in
    c.before.rows.ensures ∙ (λ t. block 4 4 (λ x y. shifted (half_is H.half-half.ensures t) a.last (inverse_sum (sym k t) 4 4 (λ i. at a.m.now (i + y * 4)) x)))

same-length-3 : tie.Need-shape_of-r-else-kind-eq2
same-length-3 c =
    let H = c.before.before.before.before.before in
    ap length (returns-3 c) ∙ block-length 4 4 _ ∙ sym H.before.requires.1.1.1.0

pub along_spec : {M : Type 1} → statement M
along_spec =
    tie.close
    (tie.spec
    half-requires
    zipped-4-requires
    slice-aggregate-lines
    lines-requires
    zipped-4-requires-2
    slice-aggregate-lines-2
    lines-requires-2
    rows-requires
    same_length
    returns
    same-length-2
    returns-2
    same-length-3
    returns-3)
