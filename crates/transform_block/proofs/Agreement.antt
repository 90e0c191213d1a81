-- Where the calls of documents 01 and 02 accept the same numbers, residuals and rail count of a block without LFNST are the same.
-- Assumes nothing.
--   same-as-long:    the call of long numbers, at either position of the switch
--   same-as-inverse: the inverse of a block, with the switch off
-- Thin has the one stage of a thin block.
use native.Mathlib.Omega.{arith}
use mathlib.Core.Path.{◌≡◌, refl, sym, ap, ◌∙◌, subst}
use mathlib.Core.Bool.{Bool, true, false, not, cond, ◌&&◌}
use mathlib.Core.List.{List}
use Prim.Native.Nat.{ℕ, ◌+◌, ◌*◌, ◌≤◌, ◌<◌}
use native.Mathlib.Nat.{mul_comm, lt_of_lt_of_le}
use borrow.Author.Tests.{ne_eqb, le-leb}
use lib.Dec.{eqb, leb}
use lib.IntN.{ℤ}
use lib.ListN.{length}
use mir.Syntax.{w16}
use mir.Val.{SFits}
use Rattle.algebra.specs.Lists.{at}
use Rattle.algebra.proofs.Lists.{place_in}
use Rattle.meaning.specs.declared.Shape.{Shape}
use Rattle.meaning.specs.Shape.{is_size, is_depth_to, keeps}
use Rattle.meaning.specs.Plan.{Plan, range_of, long_plan}
use Rattle.meaning.specs.Answer.{Outcome}
use Rattle.meaning.specs.Inverse.{inverse_outcome}
use Rattle.meaning.specs.Long.{beyond, long_outcome}
use Rattle.meaning.proofs.Cases.{size-cases, size-some}
use Rattle.meaning.proofs.KeptPart.{columns-kept, rows-kept}
use Rattle.meaning.proofs.LongRules.{long-depth}
use Rattle.meaning.proofs.LongCall.{LongPassed, long-accepted, long-inside, long-done, not_beyond}
use Rattle.meaning.proofs.LongOff.{long-off}
use Rattle.transform_block.specs.declared.TransformBlock.{TransformBlock}
use Rattle.transform_block.specs.TransformBlock.{is_block_side, is_pair, no_line, is_on, is_thin, reach_of, transform_plan, has_low, is_corner, is_low, transform_outcome}
use Rattle.transform_block.specs.Given.{TakenFields, GivenWork}
use Rattle.transform_block.proofs.Accepted.{plain_done}
use Rattle.transform_block.proofs.ShortBlock.{shaped}

-- a size is a side, has a line of every kind, and is not 1
size-side : (n : ℕ) → is_size n ≡ true → is_block_side n ≡ true
unfolding is_block_side is_size
size-side = size-cases (λ n. is_block_side n ≡ true) refl refl refl refl

size-line : (kind n : ℕ) → is_size n ≡ true → no_line kind n ≡ false
size-line kind = size-cases (λ n. no_line kind n ≡ false) refl refl refl refl

size-other : (n : ℕ) → is_size n ≡ true → eqb n 1 ≡ false
size-other n s = ne_eqb n 1 (λ e. omega (arith, size-some n s))

module _ (b : TransformBlock) (none : has_low b ≡ false) (low : is_low b ≡ true) (c out : List ℤ) (number : (long_outcome (is_on b) (shaped b) c out).0.number ≡ 0) where
  passed : LongPassed (is_on b) (shaped b) c out
  passed = long-accepted (is_on b) (shaped b) c out number

  fields : TakenFields b c
  unfolding keeps is_corner
  fields =
      let t = passed.block.taken in
      let d = long-depth (is_on b) b.depth t.depth in
      record {
        width = size-side b.width t.width;
        pair = rw (size-side b.height t.height, size-other b.width t.width);
        horizontal = t.horizontal;
        vertical = t.vertical;
        along = size-line b.horizontal b.width t.width;
        down = size-line b.vertical b.height t.height;
        depth = rw (le-leb 8 b.depth d.0, le-leb b.depth 16 d.1);
        kept = t.kept;
        corner = rw none;
        low = low;
        long = passed.block.long;
      }

  given : GivenWork b c
  given =
      record {
        taken = fields;
        inside = λ x y h g.
            let t = passed.block.taken in
            let k = x + y * b.width in
            let l : k < length c = omega (arith, passed.block.long, mul_comm b.width b.height, place_in (lt_of_lt_of_le h (columns-kept (shaped b) t).within) (lt_of_lt_of_le g (rows-kept (shaped b) t).within)) in
            let w = long-inside (is_on b) (shaped b) c out number k l in
            not_beyond (range_of (reach_of b)) (at c k) w.0 w.1;
      }

  two : is_thin b ≡ false
  unfolding is_thin
  two = let t = passed.block.taken in rw (size-other b.width t.width, size-other b.height t.height)

  pub same-as-long : transform_outcome b c ≡ long_outcome (is_on b) (shaped b) c out
  same-as-long = plain_done b c given none ∙ rw two (sym (long-done (is_on b) (shaped b) c out passed))

module _ (b : TransformBlock) (none : has_low b ≡ false) (low : is_low b ≡ true) (c out : List ℤ) (off : is_on b ≡ false) (short : (k : ℕ) → k < length c → SFits w16 (at c k)) where
  pub same-as-inverse : (inverse_outcome (shaped b) c out).0.number ≡ 0 → transform_outcome b c ≡ inverse_outcome (shaped b) c out
  same-as-inverse number =
      let e : long_outcome (is_on b) (shaped b) c out ≡ inverse_outcome (shaped b) c out = ap (λ (on : Bool). long_outcome on (shaped b) c out) off ∙ long-off (shaped b) c out short in
      same-as-long b none low c out (ap (λ (o : Outcome). o.0.number) e ∙ number) ∙ e
