-- Where the call of thin blocks accepts a block with one stage, this call gives the same residuals with the switch off (`same-as-thin`):
-- they stand at the start of the first area there. Numbers of 16 bits are in the range. Assumes nothing.
use native.Mathlib.Omega.{arith}
use mathlib.Core.Path.{◌≡◌, refl, sym, ap, ◌∙◌, subst}
use mathlib.Core.Bool.{Bool, true, false, not, cond, ◌&&◌, ◌||◌, true≢false}
use mathlib.Core.Logic.{◌⊎◌, inl, inr}
use mathlib.Core.List.{List, ◌++◌}
use Prim.Native.Nat.{ℕ, ◌+◌, ◌*◌, ◌-◌, ◌≤◌, ◌<◌}
use native.Mathlib.Nat.{mul_comm, lt_of_lt_of_le}
use borrow.Author.Tests.{eqb-true, le-leb}
use lib.Dec.{eqb, leb}
use lib.IntN.{ℤ}
use lib.ListN.{length, drop}
use Rattle.algebra.specs.Shift.{nearest}
use Rattle.algebra.specs.Lists.{at, tabulate}
use Rattle.algebra.proofs.Lists.{place_in}
use Rattle.meaning.specs.Shape.{is_size, is_depth, is_depth_to, keeps}
use Rattle.meaning.specs.Plan.{range_of, reach}
use Rattle.meaning.specs.Answer.{accepted}
use Rattle.meaning.specs.Long.{beyond}
use Rattle.meaning.proofs.Cases.{or_cases, and_cases, size-cases, depth-cases}
use Rattle.meaning.proofs.KeptPart.{columns-kept, rows-kept}
use Rattle.thin_block.specs.Thin as thin
use Rattle.thin_block.proofs.Passed.{TakenThin}
use Rattle.thin_block.proofs.Areas.{taken, after_one_lem}
use Rattle.transform_block.specs.declared.TransformBlock.{TransformBlock}
use Rattle.transform_block.specs.TransformBlock.{is_block_side, is_pair, no_line, is_on, is_thin, reach_of, last_of, side_sum, side_residual, side_block, has_low, is_corner, is_low, transform_outcome}
use Rattle.transform_block.specs.Given.{TakenFields, GivenWork}
use Rattle.transform_block.proofs.Accepted.{plain_done}
use Rattle.transform_block.proofs.ShortBlock.{shaped}

-- a side of that call is one of this call, and has a line of every kind
side : (n other : ℕ) → thin.is_side n other ≡ true → is_block_side n ≡ true
unfolding is_block_side is_size thin.is_side
side n other h =
    or_cases (is_size n) (eqb n 1 && thin.is_line other) h (size-cases (λ n. is_block_side n ≡ true) refl refl refl refl n)
    (λ h. subst (λ (m : ℕ). is_block_side m ≡ true) (sym (eqb-true n 1 (and_cases (eqb n 1) (thin.is_line other) h).0)) refl)

line : (kind n other : ℕ) → thin.is_side n other ≡ true → no_line kind n ≡ false
unfolding thin.is_side
line kind n other h =
    or_cases (is_size n) (eqb n 1 && thin.is_line other) h (size-cases (λ n. no_line kind n ≡ false) refl refl refl refl n)
    (λ h. subst (λ (m : ℕ). no_line kind m ≡ false) (sym (eqb-true n 1 (and_cases (eqb n 1) (thin.is_line other) h).0)) refl)

-- not both are 1
not-both : (w h : ℕ) → thin.is_side w h ≡ true → not (eqb w 1 && eqb h 1) ≡ true
unfolding thin.is_side thin.is_line is_size
not-both w h s = by (eqb w 1) refl (eqb h 1) refl
  where
    by : (a : Bool) → eqb w 1 ≡ a → (b : Bool) → eqb h 1 ≡ b → not (eqb w 1 && eqb h 1) ≡ true
    by false e b f = rw e
    by true e false f = rw (e, f)
    by true e true f =
        absurd (true≢false (sym s ∙ (λ i. thin.is_side (eqb-true w 1 e i) (eqb-true h 1 f i))))

module _ (b : TransformBlock) (none : has_low b ≡ false) (low : is_low b ≡ true) (c first second : List ℤ) (off : is_on b ≡ false) (short : (k : ℕ) → k < length c → beyond (range_of 15) (at c k) ≡ false)
    (number : (thin.thin_outcome (shaped b) c first second).answer.number ≡ 0) where
  passed : TakenThin (shaped b) c first second
  passed = taken (shaped b) c first second number

  fields : TakenFields b c
  unfolding keeps is_corner
  fields =
      let t = passed.past.sides in
      let d = depth-cases b.depth t.depth in
      record {
        width = side b.width b.height t.width;
        pair = rw (side b.height b.width t.height, not-both b.width b.height t.width);
        horizontal = t.horizontal;
        vertical = t.vertical;
        along = line b.horizontal b.width b.height t.width;
        down = line b.vertical b.height b.width t.height;
        depth = rw (le-leb 8 b.depth d.0, le-leb b.depth 16 (omega (arith, d)));
        kept = t.kept;
        corner = rw none;
        low = low;
        long = passed.past.long;
      }

  reach-15 : reach_of b ≡ 15
  unfolding reach
  reach-15 = rw off

  given : GivenWork b c
  given =
      record {
        taken = fields;
        inside = λ x y h g.
            let t = passed.past.sides in
            let k = x + y * b.width in
            let l : k < length c = omega (arith, passed.past.long, mul_comm b.width b.height, place_in (lt_of_lt_of_le h (columns-kept (shaped b) t).within) (lt_of_lt_of_le g (rows-kept (shaped b) t).within)) in
            subst (λ (r : ℕ). beyond (range_of r) (at c k) ≡ false) (sym reach-15) (short k l);
      }

  -- the last shift of one stage
  last-is : is_thin b ≡ true → last_of b ≡ 21 - b.depth
  last-is one = rw (one, reach-15)

  same_line : is_thin b ≡ true → thin.thin_block (shaped b) c ≡ side_block b c
  unfolding thin.thin_block thin.thin_residual thin.thin_sum side_block side_residual side_sum
  same_line one = ap (λ (s : ℕ). tabulate (b.width * b.height) (λ k. nearest s (side_sum b c k))) (sym (last-is one))

  pub same-as-thin : is_thin b ≡ true
      → (transform_outcome b c ≡ (accepted 0, thin.thin_block (shaped b) c)) × ((thin.thin_outcome (shaped b) c first second).first ≡ thin.thin_block (shaped b) c ++ drop (b.width * b.height) first)
  unfolding is_thin thin.one_stage
  same-as-thin one =
      (plain_done b c given none ∙ rw one (ap (λ (l : List ℤ). (accepted 0, l)) (sym (same_line one))), ap (λ (o : thin.Areas). o.first) (after_one_lem (shaped b) c first second number one))
