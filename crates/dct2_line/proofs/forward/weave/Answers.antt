-- `forward::weave` meets its contract. Assumes nothing.
use Rattle.std.proofs.Common.{rules, arith, ◌≡◌, ℕ, ◌+◌, ◌*◌, ◌≤◌, ◌<◌, ℤ, ◌*ℤ◌, length, sym, ap, ◌∙◌}
use mir.Syntax.{w32}
use mir.ValLaws.{to_z-of_z}
use Rattle.algebra.specs.Sum.{sum}
use Rattle.algebra.specs.Lists.{at}
use Rattle.algebra.proofs.Sum.{sum-cong}
use Rattle.algebra.proofs.Lists.{fill_none, fill-first, filled-to, tab-length}
use Rattle.meaning.specs.Line.{forward_sum}
use Rattle.product.specs.Product.{spot}
use Rattle.halves.specs.Halves.{odd, end_sums, end_differences}
use Rattle.halves.proofs.ByHalves.{forward-even, forward-odd}
use Rattle.dct2_line.proofs.HalfRows.{tab-holds, row_of, row-sum}
use Rattle.dct2_line.proofs.ForwardStep.{recount}
use Rattle.dct2_line.proofs.forward.weave.Goals as goal
use Rattle.dct2_line.proofs.forward.weave.Goals.{In-loop-i, After-row}

pub loop-i-init : goal.loop-i-init
loop-i-init c = fill_none 0 _ _

module _ (c : In-loop-i) where
  abbrev h : ℕ
  h = c.args.h

  abbrev i : ℕ
  i = c.loop-i.i

  abbrev x : ℕ → ℤ
  x = at c.args.x.now

  here : i < h
  here = c.loop-i-test.true

  few : h ≤ 16
  few = c.requires.0.0.few

  long : length c.args.e.now ≡ h
  long = ap length c.requires.1.1.0 ∙ tab-length h (forward_sum 0 h (end_sums (h + h) x))

  -- the row is in the table
  held : 2 * 0 + spot (2 * h) i < length c.args.t.now
  held = c.requires.0.0.held i 0 here (omega (arith, here))

  even : at c.args.e.now i ≡ forward_sum 0 (h + h) x (2 * i)
  even =
      tab-holds h c.args.e.now (forward_sum 0 h (end_sums (h + h) x)) c.requires.1.1.0 i here
      ∙ sym (forward-even c.requires.0.1 x i here)

  odded : sum h (λ j. at c.args.t.now (2 * j + spot (2 * h) i) *ℤ at c.args.d.now j) ≡ forward_sum 0 (h + h) x (2 * i + 1)
  odded =
      row-sum c.requires.0.0 i here (at c.args.d.now)
      ∙ sum-cong h (λ j. odd (h + h) i j *ℤ at c.args.d.now j) (λ j. odd (h + h) i j *ℤ end_differences (h + h) x j)
      (λ j l. ap (λ (z : ℤ). odd (h + h) i j *ℤ z) (tab-holds h c.args.d.now (end_differences (h + h) x) c.requires.1.1.1.0 j l))
      ∙ sym (forward-odd c.requires.0.1 x i here)

pub bounds-e-i : goal.bounds-e-i
bounds-e-i c = let I = (goal.at.bounds-e-i c).In-loop-i in omega (arith, long I, here I)

pub overflow_mul-h : goal.overflow_mul-h
overflow_mul-h c = omega (arith, few (goal.at.overflow_mul-h c).In-loop-i)

pub overflow_mul-i : goal.overflow_mul-i
overflow_mul-i c = omega (arith, held (goal.at.overflow_mul-i c).In-loop-i)

pub overflow_add-i : goal.overflow_add-i
overflow_add-i c = omega (arith, held (goal.at.overflow_add-i c).In-loop-i)

pub row-requires : goal.row-requires
row-requires c =
    let I = (goal.at.row-requires c).In-loop-i in
    (row_of c.requires.0.0 (i I) (here I), c.requires.1.0)

pub loop-i-preserved : goal.loop-i-preserved
loop-i-preserved c =
    let I = (goal.at.loop-i-preserved c).In-loop-i in
    let two : 2 * i I + 1 + 1 ≡ 2 * (i I + 1) = omega arith in
    let first = to_z-of_z w32 (at c.args.e.now (i I)) (record { sfits = c.out-1.given }) in
    let p = fill-first _ (omega (arith, c.requires.1.1.1.1)) c.loop-i.invariant (first ∙ even I) in
    recount two (fill-first _ (omega (arith, c.requires.1.1.1.1)) p (to_z-of_z w32 c.row.result (search rules) ∙ c.row.ensures ∙ odded I))

pub returns : goal.returns
returns c = filled-to c.requires.1.1.1.1 (omega arith) (omega arith) c.loop-i.invariant
