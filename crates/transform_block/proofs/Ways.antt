-- What the stages are given, and that what they give is the block. Assumes nothing.
use native.Mathlib.Omega.{arith}
use mathlib.Core.Path.{◌≡◌, refl, sym, ap, ◌∙◌, subst}
use mathlib.Core.Bool.{Bool, true, false, not, cond, ◌&&◌, ◌||◌, true≢false}
use mathlib.Core.List.{List}
use Prim.Native.Nat.{ℕ, ◌+◌, ◌*◌, ◌≤◌, ◌<◌, min}
use native.Mathlib.Nat.{one-mul, mul-one, zero-mul, zero-add, add-zero}
use native.Mathlib.Decide.{ℕ_discrete}
use borrow.Author.Tests.{eq-eqb, ne_eqb}
use lib.Dec.{eqb}
use lib.IntN.{ℤ}
use lib.ListN.{length}
use Rattle.algebra.specs.Shift.{nearest}
use Rattle.algebra.specs.Lists.{at, tabulate}
use Rattle.meaning.specs.Line.{inverse_sum}
use Rattle.meaning.specs.Plan.{range_of}
use Rattle.meaning.specs.Long.{beyond}
use Rattle.meaning.specs.Answer.{Outcome, accepted}
use Rattle.meaning.specs.Inverse.{rails, inverse_block}
use Rattle.meaning.proofs.Cases.{and_cases}
use Rattle.transform_stages.specs.Work as stage
use Rattle.transform_block.specs.declared.TransformBlock.{TransformBlock}
use Rattle.transform_block.specs.TransformBlock.{is_block_side, is_thin, reach_of, last_of, transform_plan, side_sum, side_residual, side_block, transformed}
use Rattle.transform_block.specs.Given.{TakenFields, GivenWork}
use Rattle.transform_block.proofs.Taken.{line-there, columns-read, rows-read, height-side, far, sized, last_one, last-two, in-long}

module _ (b : TransformBlock) (c : List ℤ) (g : GivenWork b c) where
  t : TakenFields b c
  t = g.taken

  -- ---- a side of 1
  upright-one : b.width ≡ 1 → is_thin b ≡ true
  unfolding is_thin
  upright-one e = rw (eq-eqb b.width 1 e)

  lying-one : b.height ≡ 1 → is_thin b ≡ true
  unfolding is_thin
  lying-one e = rw (eq-eqb b.height 1 e) (or-true (eqb b.width 1))
    where
      or-true : (a : Bool) → a || true ≡ true
      or-true true = refl
      or-true false = refl

  -- the other side is not 1
  high-other : b.width ≡ 1 → b.height ≡ 1 → ⊥
  high-other e q =
      let p : not (eqb b.width 1 && eqb b.height 1) ≡ true = (and_cases (is_block_side b.height) (not (eqb b.width 1 && eqb b.height 1)) t.pair).1 in
      true≢false (sym p ∙ rw (eq-eqb b.width 1 e, eq-eqb b.height 1 q))

  -- what is read of the line is in the range
  pub read-upright : b.width ≡ 1 → (i : ℕ) → i < b.rows → beyond (range_of (reach_of b)) (at c i) ≡ false
  read-upright e i h =
      let place : 0 + i * b.width ≡ i = zero-add (i * b.width) ∙ ap (λ (w : ℕ). i * w) e ∙ mul-one i in
      subst (λ (m : ℕ). beyond (range_of (reach_of b)) (at c m) ≡ false) place (g.inside 0 i (columns-read b c t).some h)

  pub read_lying : (i : ℕ) → i < b.columns → beyond (range_of (reach_of b)) (at c i) ≡ false
  read_lying i h =
      let place : i + 0 * b.width ≡ i = ap (λ (m : ℕ). i + m) (zero-mul b.width) ∙ add-zero i in
      subst (λ (m : ℕ). beyond (range_of (reach_of b)) (at c m) ≡ false) place (g.inside i 0 h (rows-read b c t).some)

  pub given-upright : b.width ≡ 1 → stage.GivenOne b.vertical b.height b.rows (last_of b) c
  given-upright e =
      let s = last_one b c t (upright-one e) in
      let k = rows-read b c t in
      record {
        line = line-there b.vertical b.height t.vertical (height-side b c t) t.down (high-other e);
        few = omega (arith, k.within, k.short);
        some = s.0;
        short = s.1;
        small = λ i h. in-long (reach_of b) (far b c t).1 (at c i) (read-upright e i h);
        long = t.long ∙ ap (λ (w : ℕ). w * b.height) e ∙ one-mul b.height;
      }

  pub given-lying : (b.width ≡ 1 → ⊥) → b.height ≡ 1 → stage.GivenOne b.horizontal b.width b.columns (last_of b) c
  given-lying n e =
      let s = last_one b c t (lying-one e) in
      let k = columns-read b c t in
      record {
        line = line-there b.horizontal b.width t.horizontal t.width t.along n;
        few = omega (arith, k.within, k.short);
        some = s.0;
        short = s.1;
        small = λ i h. in-long (reach_of b) (far b c t).1 (at c i) (read_lying i h);
        long = t.long ∙ ap (λ (h : ℕ). b.width * h) e ∙ mul-one b.width;
      }

  two-of : (b.width ≡ 1 → ⊥) → (b.height ≡ 1 → ⊥) → is_thin b ≡ false
  unfolding is_thin
  two-of n m = rw (ne_eqb b.width 1 n, ne_eqb b.height 1 m)

  pub given-two : (b.width ≡ 1 → ⊥) → (b.height ≡ 1 → ⊥)
      → stage.GivenTwo (stage.worked b.width b.height b.horizontal b.vertical b.columns b.rows (reach_of b) (last_of b)) (reach_of b) c
  given-two n m =
      let s = last-two b c t (two-of n m) in
      record { sized = sized b c t (two-of n m); columns = (columns-read b c t).short; rows = (rows-read b c t).short; far = (far b c t).1; some = s.0; short = s.1; long = t.long }

  pub given-stages : stage.Given b.width b.height b.horizontal b.vertical b.columns b.rows (reach_of b) (last_of b) c
  given-stages = record { upright = given-upright; lying = given-lying; two = given-two }

  -- ---- what they give
  module _ (r : ℕ) (out : List ℤ) (done : stage.Staged b.width b.height b.horizontal b.vertical b.columns b.rows (reach_of b) (last_of b) c r out) where
    upright-block : b.width ≡ 1 → out ≡ side_block b c
    unfolding side_block side_residual side_sum
    upright-block e =
        let n : b.height ≡ b.width * b.height = sym (ap (λ (w : ℕ). w * b.height) e ∙ one-mul b.height) in
        (done.upright e).1
        ∙ (λ i. tabulate (n i) (λ k. nearest (last_of b) (inverse_sum (cond (test i) b.vertical b.horizontal) (cond (test i) b.height b.width) (cond (test i) b.rows b.columns) (at c) k)))
      where
        test : true ≡ eqb b.width 1
        test = sym (eq-eqb b.width 1 e)

    lying-block : (b.width ≡ 1 → ⊥) → b.height ≡ 1 → out ≡ side_block b c
    unfolding side_block side_residual side_sum
    lying-block a e =
        let n : b.width ≡ b.width * b.height = sym (ap (λ (h : ℕ). b.width * h) e ∙ mul-one b.width) in
        (done.lying a e).1
        ∙ (λ i. tabulate (n i) (λ k. nearest (last_of b) (inverse_sum (cond (test i) b.vertical b.horizontal) (cond (test i) b.height b.width) (cond (test i) b.rows b.columns) (at c) k)))
      where
        test : false ≡ eqb b.width 1
        test = sym (ne_eqb b.width 1 a)

    pub staged : ◌≡◌ {A = Outcome} (accepted r, out) (transformed b c)
    staged = by_width (ℕ_discrete b.width 1) (ℕ_discrete b.height 1)
      where
        by_width : Dec (b.width ≡ 1) → Dec (b.height ≡ 1) → ◌≡◌ {A = Outcome} (accepted r, out) (transformed b c)
        by_width (yes e) _ = (λ i. (accepted ((done.upright e).0 i), upright-block e i)) ∙ rw (upright-one e)
        by_width (no n) (yes e) = (λ i. (accepted ((done.lying n e).0 i), lying-block n e i)) ∙ rw (lying-one e)
        by_width (no n) (no m) = (λ i. (accepted ((done.two n m).0 i), (done.two n m).1 i)) ∙ rw (two-of n m)
