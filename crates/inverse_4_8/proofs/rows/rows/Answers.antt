use Rattle.std.proofs.Common.{rules, arith, ◌≡◌, ℕ, ◌+◌, ◌*◌, ◌<◌, ◌≤◌, List, ℤ, ◌+ℤ◌, ◌*ℤ◌, length, slice_set, refl, sym, ap, ◌∙◌, subst, to_z, of_z, SFits, w16, w32}
use Rattle.std.proofs.lemmas.Int.{to_z-of_z}
use native.Mathlib.Nat.{zero-add}
use Rattle.algebra.specs.Lists.{at, block}
use Rattle.algebra.proofs.Lists.{Filled, fill_none, fill-first, block-ext}
use Rattle.meaning.specs.Line.{inverse_sum}
use Rattle.product.specs.Product.{shifted}
use Rattle.inverse_4_8.proofs.Weighing.{four_added, output-0, output-1, output-2, output-3, four_output, output-at}
use Rattle.inverse_4_8.proofs.rows.rows.Goals as goal

-- four more numbers
filled-four : (y : ℕ) {r r₀ : List ℤ} {f : ℕ → ℤ} {a b c d : ℤ} → 4 * y + 4 ≤ length r₀ → Filled 0 (4 * y) r r₀ f
    → a ≡ f (4 * y) → b ≡ f (4 * y + 1) → c ≡ f (4 * y + 2) → d ≡ f (4 * y + 3)
    → Filled 0 (4 * (y + 1)) (slice_set (slice_set (slice_set (slice_set r (4 * y) a) (4 * y + 1) b) (4 * y + 2) c) (4 * y + 3) d) r₀ f
filled-four y {r} {r₀} {f} {a} {b} {c} {d} room q p0 p1 p2 p3 =
    let e1 : 4 * y + 1 + 1 ≡ 4 * y + 2 = omega arith in
    let e2 : 4 * y + 2 + 1 ≡ 4 * y + 3 = omega arith in
    let e3 : 4 * y + 3 + 1 ≡ 4 * (y + 1) = omega arith in
    let one = fill-first {f = f} a (omega arith) q p0 in
    let two = subst (λ (k : ℕ). Filled 0 k (slice_set (slice_set r (4 * y) a) (4 * y + 1) b) r₀ f) e1 (fill-first b (omega arith) one p1) in
    let three = subst (λ (k : ℕ). Filled 0 k (slice_set (slice_set (slice_set r (4 * y) a) (4 * y + 1) b) (4 * y + 2) c) r₀ f) e2 (fill-first c (omega arith) two p2) in
    subst (λ (k : ℕ). Filled 0 k (slice_set (slice_set (slice_set (slice_set r (4 * y) a) (4 * y + 1) b) (4 * y + 2) c) (4 * y + 3) d) r₀ f) e3 (fill-first d (omega arith) three p3)

module _ (m : List ℤ) (y : ℕ) (f0 : SFits w16 (at m (4 * y))) (f1 : SFits w16 (at m (4 * y + 1))) (f2 : SFits w16 (at m (4 * y + 2))) (f3 : SFits w16 (at m (4 * y + 3))) where
  abbrev row : ℕ → ℤ
  row i = at m (i + y * 4)

  -- a number of the row, as it is handed on
  abbrev held : ℕ → ℤ
  held k = to_z w16 (of_z w16 (at m k))

  read : (k i : ℕ) → SFits w16 (at m k) → k ≡ i + y * 4 → held k ≡ row i
  read k i f e = to_z-of_z w16 (at m k) f ∙ ap (at m) e

  by-is : (w0 w1 w2 w3 : ℤ) → (held (4 * y + 2) *ℤ w2 +ℤ held (4 * y) *ℤ w0) +ℤ (held (4 * y + 3) *ℤ w3 +ℤ held (4 * y + 1) *ℤ w1) ≡ four_added row w0 w1 w2 w3
  by-is w0 w1 w2 w3 =
      let is-0 = read (4 * y) 0 f0 (omega arith) in
      let is-1 = read (4 * y + 1) 1 f1 (omega arith) in
      let is-2 = read (4 * y + 2) 2 f2 (omega arith) in
      let is-3 = read (4 * y + 3) 3 f3 (omega arith) in
      λ t. (is-2 t *ℤ w2 +ℤ is-0 t *ℤ w0) +ℤ (is-3 t *ℤ w3 +ℤ is-1 t *ℤ w1)

  -- what is written at place x of the row: z, of the sum s by four weights
  written : (half : ℤ) (shift x k : ℕ) (z s w0 w1 w2 w3 : ℤ) → x < 4 → k ≡ 4 * y + x → SFits w32 z → SFits w32 s
      → z ≡ shifted half shift (to_z w32 (of_z w32 s))
      → s ≡ (held (4 * y + 2) *ℤ w2 +ℤ held (4 * y) *ℤ w0) +ℤ (held (4 * y + 3) *ℤ w3 +ℤ held (4 * y + 1) *ℤ w1)
      → four_added row w0 w1 w2 w3 ≡ inverse_sum 0 4 4 row x
      → to_z w32 (of_z w32 z) ≡ four_output m half shift k
  written half shift x k z s w0 w1 w2 w3 h e f g p q o =
      to_z-of_z w32 z f ∙ p ∙ ap (shifted half shift) (to_z-of_z w32 s g ∙ q ∙ by-is w0 w1 w2 w3 ∙ o) ∙ output-at m half shift x y k h e

pub loop-y-preserved : goal.loop-y-preserved
loop-y-preserved c =
    let m = c.args.m.now in
    let y = c.loop-y.y in
    let half = to_z w32 (of_z w32 c.args.half) in
    let shift = c.args.shift in
    let f0 : SFits w16 (at m (4 * y)) = search rules in
    let f1 : SFits w16 (at m (4 * y + 1)) = search rules in
    let f2 : SFits w16 (at m (4 * y + 2)) = search rules in
    let f3 : SFits w16 (at m (4 * y + 3)) = search rules in
    filled-four y (omega arith) c.loop-y.invariant
    (written m y f0 f1 f2 f3 half shift 0 (4 * y) c.round.result c.weighed.result _ _ _ _ (omega arith) (omega arith) (search rules) (search rules) c.round.ensures c.weighed.ensures.0 (output-0 (row m y f0 f1 f2 f3)))
    (written m y f0 f1 f2 f3 half shift 1 (4 * y + 1) c.round-in-loop-y.result c.weighed-in-loop-y.result _ _ _ _ (omega arith) refl (search rules) (search rules) c.round-in-loop-y.ensures c.weighed-in-loop-y.ensures.0 (output-1 (row m y f0 f1 f2 f3)))
    (written m y f0 f1 f2 f3 half shift 2 (4 * y + 2) c.round-in-loop-y-2.result c.weighed-in-loop-y-2.result _ _ _ _ (omega arith) refl (search rules) (search rules) c.round-in-loop-y-2.ensures c.weighed-in-loop-y-2.ensures.0 (output-2 (row m y f0 f1 f2 f3)))
    (written m y f0 f1 f2 f3 half shift 3 (4 * y + 3) c.round-in-loop-y-3.result c.weighed-in-loop-y-3.result _ _ _ _ (omega arith) refl (search rules) (search rules) c.round-in-loop-y-3.ensures c.weighed-in-loop-y-3.ensures.0 (output-3 (row m y f0 f1 f2 f3)))

pub returns : goal.returns
returns c =
    let s = c.args in
    let m = s.m.now in
    let shift = s.shift in
    let full : c.loop-y.y ≡ 4 = omega arith in
    block-ext 4 4 (λ x y. shifted s.half shift (inverse_sum 0 4 4 (λ i. at m (i + y * 4)) x)) c.loop-y.r (c.loop-y.invariant.long ∙ c.requires.1.1)
    (λ x y h g. let k = x + y * 4 in let l : k < 4 * c.loop-y.y = omega arith in
    ap (at c.loop-y.r) (sym (zero-add k)) ∙ c.loop-y.invariant.done k l ∙ sym (output-at m (to_z w32 (of_z w32 s.half)) shift x y k h (omega arith))
    ∙ ap (λ (z : ℤ). shifted z shift (inverse_sum 0 4 4 (λ i. at m (i + y * 4)) x)) (to_z-of_z w32 s.half c.ranges.half))
