-- The forward block as two stages of lines, over the rooms in which they are worked: what their lines are given, and what they
-- are. Assumes nothing.
use mathlib.Core.Path.{◌≡◌, refl, sym, ap, ◌∙◌, subst}
use mathlib.Core.Bool.{Bool, true, false, cond, ◌&&◌}
use mathlib.Core.Logic.{inl, inr}
use mathlib.Core.List.{List}
use Prim.Native.Nat.{ℕ, ◌+◌, ◌*◌, ◌/◌, ◌≤◌, ◌<◌}
use native.Mathlib.Nat.{mul_comm, mul-le-mul_left, mul-le-mul_right, mul-suc, suc-mul}
use native.Mathlib.Omega.{arith}
use borrow.Author.Tests.{ltb-true, ltb-false}
use lib.Dec.{ltb}
use lib.ListN.{length}
use lib.IntN.{ℤ, pos, ◌*ℤ◌, *ℤ_comm}
use mir.Syntax.{w16}
use mir.Val.{SFits}
use Rattle.algebra.specs.Sum.{sum}
use Rattle.algebra.specs.Shift.{nearest}
use Rattle.algebra.specs.Lists.{at}
use Rattle.algebra.proofs.Sum.{sum-cong}
use Rattle.algebra.proofs.Lists.{place_in, block-ext}
use Rattle.meaning.specs.declared.Shape.{Shape}
use Rattle.meaning.specs.Weights.{weight}
use Rattle.meaning.specs.Line.{forward_sum}
use Rattle.meaning.specs.Forward.{row_shift, column_shift, row_value, column_value, coefficient, forward_block}
use Rattle.meaning.proofs.Cases.{size_in, depth-cases}
use Rattle.meaning.proofs.KeptPart.{columns-kept, rows-kept}
use Rattle.meaning.proofs.Sizes.{weight_most}
use Rattle.meaning.proofs.Stages.{log-in, row_value-fits, column_value-fits}
use Rattle.product.specs.Product.{Laid}
use Rattle.product.proofs.Laid.{laid-less, block-laid, lines-given, line-is}
use Rattle.layout.specs.Zip.{Rows}
use Rattle.layout.proofs.Zipping.{size-even, rows-given}
use Rattle.forward_block.specs.Stage.{Residuals, line_value, PutLines, Stage, Outputs, Rooms}

-- a number of rows or columns that is not all of them leaves places
fewer-columns : {rows h k w : ℕ} → rows ≤ h → 0 < h → k < w → rows * k < h * w
fewer-columns {rows} {h} {k} {w} r s l = omega (arith, mul-le-mul_right k r, mul-le-mul_left h l, mul-suc h k)

fewer-rows : {rows h k w : ℕ} → k ≤ w → 0 < w → rows < h → rows * k < h * w
fewer-rows {rows} {h} {k} {w} c s l = omega (arith, mul-le-mul_left rows c, mul-le-mul_right w l, suc-mul rows w)

-- the weights of the kept outputs
laid-few : (kind : ℕ) {n kept : ℕ} {t : List ℤ} → kept ≤ n → Outputs kind n t → Laid kept (n / 2) 2 (2 * n) (λ i j. weight kind n j i) t
laid-few kind l = laid-less l (omega arith) (λ i j h g. refl)

module _ {sh : Shape} {r t u : List ℤ} {room : ℕ} (g : Residuals sh r) (m : Rooms sh t u room) where
  abbrev w : ℕ
  w = sh.width

  abbrev h : ℕ
  h = sh.height

  abbrev columns : ℕ
  columns = sh.columns

  abbrev rows : ℕ
  rows = sh.rows

  elements : h * w ≡ w * h
  elements = mul_comm h w

  wide : (4 ≤ w) × (2 * (w / 2) ≡ w)
  wide = size-even w g.taken.width

  high : (4 ≤ h) × (2 * (h / 2) ≡ h)
  high = size-even h g.taken.height

  few : columns ≤ 32
  few = omega (arith, (columns-kept sh g.taken).within, size_in w g.taken.width)

  -- ---- rows
  row_laid : Laid h (w / 2) w 2 (λ i y. at r (i + y * w)) r
  row_laid = block-laid (omega (arith, wide)) (omega (arith, elements, g.long))

  row_same : (x y : ℕ) → x < columns → y < h → line_value (w / 2) r w 2 t (2 * w) (row_shift sh) x y ≡ row_value sh r x y
  unfolding row_value forward_sum
  row_same x y hx hy =
      ap (nearest (row_shift sh))
      (line-is row_laid m.along y x hy (omega (arith, (columns-kept sh g.taken).within))
      ∙ ap (λ (n : ℕ). sum n (λ i. at r (i + y * w) *ℤ weight sh.horizontal w x i)) wide.1
      ∙ sum-cong w _ _ (λ i _. *ℤ_comm (at r (i + y * w)) (weight sh.horizontal w x i)))

  pub row_put : (size : ℕ) → size ≡ w * h → PutLines (w / 2) r w 2 t (2 * w) columns h columns (row_shift sh) size
  row_put size e =
      let l = log-in w in
      let d = depth-cases sh.depth g.taken.depth in
      record {
        lines = lines-given row_laid (laid-few sh.horizontal (columns-kept sh g.taken).within m.along) (omega (arith, wide)) (omega (arith, size_in w g.taken.width)) (λ i x y. inl (weight_most sh.horizontal w x i));
        few = few;
        narrow = omega arith;
        held = omega (arith, mul-le-mul_left h (columns-kept sh g.taken).within, elements);
        low = omega arith;
        high = omega arith;
        fits = λ x y hx hy. subst (SFits w16) (sym (row_same x y hx hy)) (row_value-fits sh g.taken r g.small x y (omega (arith, (columns-kept sh g.taken).within)));
      }

  -- ---- between the stages
  module _ {c c₀ : List ℤ} (long : length c₀ ≡ w * h) (s : Stage columns columns h (line_value (w / 2) r w 2 t (2 * w) (row_shift sh)) c c₀) where
    pub zip-given : {z : List ℤ} → length z ≡ room → Rows (h / 2) columns columns c z
    zip-given e =
        rows-given h g.taken.height (columns-kept sh g.taken).some (omega arith)
        (omega (arith, mul-le-mul_left h (columns-kept sh g.taken).within, elements, s.long)) (omega (arith, m.between))

    -- ---- columns
    module _ {z : List ℤ} (zipped : Laid columns (h / 2) 2 (2 * columns) (λ i x. at c (x + i * columns)) z) where
      column-same : (x y : ℕ) → x < columns → y < rows → line_value (h / 2) u 2 (2 * h) z (2 * columns) (column_shift sh) x y ≡ column_value sh r x y
      unfolding column_value forward_sum
      column-same x y hx hy =
          ap (nearest (column_shift sh))
          (line-is m.down zipped y x (omega (arith, (rows-kept sh g.taken).within)) hx
          ∙ ap (λ (n : ℕ). sum n (λ i. weight sh.vertical h y i *ℤ at c (x + i * columns))) high.1
          ∙ sum-cong h _ _ (λ i k q. weight sh.vertical h y i *ℤ (s.done x i hx k ∙ row_same x i hx k) q))

      pub column-put : (size : ℕ) → size ≡ w * h → PutLines (h / 2) u 2 (2 * h) z (2 * columns) columns rows w (column_shift sh) size
      column-put size e =
          let l = log-in h in
          record {
            lines = lines-given (laid-few sh.vertical (rows-kept sh g.taken).within m.down) zipped (omega (arith, high)) (omega (arith, size_in h g.taken.height)) (λ i x y. inr (weight_most sh.vertical h y i));
            few = few;
            narrow = (columns-kept sh g.taken).within;
            held = omega (arith, mul-le-mul_right w (rows-kept sh g.taken).within, elements);
            low = omega arith;
            high = omega arith;
            fits = λ x y hx hy.
                subst (SFits w16) (sym (column-same x y hx hy))
                (column_value-fits sh g.taken r g.small x y (omega (arith, (columns-kept sh g.taken).within)) (omega (arith, (rows-kept sh g.taken).within)));
          }

      -- all places: the kept ones are written, and where there are others they were cleared
      pub block-done : {a a₀ : List ℤ} → length a₀ ≡ w * h → (rows * columns < length a₀ → (k : ℕ) → k < length a₀ → at a₀ k ≡ pos 0)
          → Stage columns w rows (line_value (h / 2) u 2 (2 * h) z (2 * columns) (column_shift sh)) a a₀ → a ≡ forward_block sh r
      unfolding forward_block coefficient
      block-done {a} {a₀} l none q =
          block-ext w h (coefficient sh r) a (q.long ∙ l ∙ sym elements)
          (λ x y hx hy. one x y hx hy (ltb x columns) (ltb y rows) refl refl)
        where
          inside : (x y : ℕ) → x < w → y < h → x + y * w < length a₀
          inside x y hx hy = omega (arith, place_in {x = x} {y = y} {w = w} {h = h} hx hy, elements)

          under : (x y : ℕ) → x < w → y < h → rows ≤ y → at a (x + y * w) ≡ pos 0
          under x y hx hy k =
              let some : rows * columns < length a₀ = omega (arith, elements, fewer-rows {rows = rows} {h = h} (columns-kept sh g.taken).within (omega (arith, wide)) (omega arith)) in
              q.below (x + y * w) (omega (arith, mul-le-mul_right w k)) ∙ none some (x + y * w) (inside x y hx hy)

          right : (x y : ℕ) → x < w → y < h → columns ≤ x → y < rows → at a (x + y * w) ≡ pos 0
          right x y hx hy k v =
              let some : rows * columns < length a₀ = omega (arith, elements, fewer-columns {rows = rows} {h = h} {k = columns} {w = w} (rows-kept sh g.taken).within (omega (arith, high)) (omega arith)) in
              q.beside x y k hx v ∙ none some (x + y * w) (inside x y hx hy)

          one : (x y : ℕ) → x < w → y < h → (b d : Bool) → ltb x columns ≡ b → ltb y rows ≡ d → at a (x + y * w) ≡ cond (b && d) (column_value sh r x y) (pos 0)
          one x y hx hy true true e f = q.done x y (ltb-true x columns e) (ltb-true y rows f) ∙ column-same x y (ltb-true x columns e) (ltb-true y rows f)
          one x y hx hy false true e f = right x y hx hy (ltb-false x columns e) (ltb-true y rows f)
          one x y hx hy true false e f = under x y hx hy (ltb-false y rows f)
          one x y hx hy false false e f = under x y hx hy (ltb-false y rows f)
