-- What a call has passed that nothing refuses: the fields, how much is read, and which lines there are. Assumes nothing.
use native.Mathlib.Omega.{arith}
use mathlib.Core.Path.{◌≡◌, refl, sym, ap, ◌∙◌, subst}
use mathlib.Core.Bool.{Bool, true, false, not, cond, ◌&&◌, ◌||◌, true≢false}
use mathlib.Core.List.{List, [], ◌∷◌, ◌++◌}
use Prim.Native.Nat.{ℕ, ◌+◌, ◌*◌, ◌-◌, ◌^◌, ◌≤◌, ◌<◌, min}
use native.Mathlib.Nat.{mul-le-mul, le_trans}
use borrow.Author.Tests.{eqb-true, not-false, leb-true}
use lib.Dec.{eqb, leb}
use lib.IntN.{ℤ, pos, nat_abs}
use lib.ListN.{length}
use lib.Pow.{pow_mono, pow_pos}
use Rattle.algebra.specs.Refusals.{Test, number_of}
use Rattle.algebra.specs.Lists.{at}
use Rattle.algebra.proofs.Refusals.{Clear, clear-split, no_number}
use Rattle.algebra.proofs.Order.{le_parts, parts-abs}
use Rattle.meaning.specs.Shape.{is_size, is_kind, is_depth_to, is_kept, has_line, most_kept}
use Rattle.meaning.specs.Plan.{range_of, reach}
use Rattle.meaning.specs.Answer.{input_test}
use Rattle.meaning.specs.Long.{beyond}
use Rattle.meaning.specs.Taken.{Sized}
use Rattle.meaning.proofs.Cases.{or_cases, and_cases, neither, at-number, size_in, has-line, and_so}
use Rattle.meaning.proofs.KeptPart.{Kept, kept_of}
use Rattle.meaning.proofs.LongCall.{inside}
use Rattle.meaning.proofs.LongRules.{reach-in}
use Rattle.transform_block.specs.declared.TransformBlock.{TransformBlock}
use Rattle.transform_block.specs.TransformBlock.{is_block_side, is_pair, no_line, is_on, is_readable, is_corner, is_low, is_thin, reach_of, last_of, transform_plan, block_tests, handed_tests}
use Rattle.transform_block.specs.Given.{TakenFields, GivenWork}

-- ---- the fields
fields-clear : (b : TransformBlock) (c : List ℤ) → Clear (block_tests b) → Clear (input_test (b.width * b.height) (length c) ∷ []) → TakenFields b c
fields-clear b c (w, (h, (k, (v, (l, (d, (m, (o, _)))))))) (n, _) =
    let no = neither (no_line b.horizontal b.width) (no_line b.vertical b.height) l in
    let read = and_cases (is_readable b) (is_corner b) (not-false (is_readable b && is_corner b) m) in
    record {
      width = not-false (is_block_side b.width) w;
      pair = not-false (is_pair b) h;
      horizontal = not-false (is_kind b.horizontal) k;
      vertical = not-false (is_kind b.vertical) v;
      along = no.0;
      down = no.1;
      depth = not-false (is_depth_to 16 b.depth) d;
      kept = read.0;
      corner = read.1;
      low = not-false (is_low b) o;
      long = eqb-true (length c) (b.width * b.height) (not-false (eqb (length c) (b.width * b.height)) n);
    }

pub fields_split : (b : TransformBlock) (c : List ℤ) → Clear (handed_tests b (length c)) → TakenFields b c
fields_split b c e =
    let both = clear-split (block_tests b) (input_test (b.width * b.height) (length c) ∷ []) e in
    fields-clear b c both.0 both.1

pub fields-taken : (b : TransformBlock) (c : List ℤ) → number_of (handed_tests b (length c)) ≡ 0 → TakenFields b c
fields-taken b c e = fields_split b c (no_number (handed_tests b (length c)) tt e)

-- ---- sides
pub side-cases : (P : ℕ → Type 0) → P 1 → P 2 → ((n : ℕ) → is_size n ≡ true → P n) → P 64 → (n : ℕ) → is_block_side n ≡ true → P n
unfolding is_block_side
side-cases P one two size last n h =
    or_cases (eqb n 1) (eqb n 2 || (is_size n || eqb n 64)) h (at-number P n 1 one)
    (λ h. or_cases (eqb n 2) (is_size n || eqb n 64) h (at-number P n 2 two)
    (λ h. or_cases (is_size n) (eqb n 64) h (size n) (at-number P n 64 last)))

pub side-in : (n : ℕ) → is_block_side n ≡ true → n ≤ 64
side-in = side-cases (λ n. n ≤ 64) (omega arith) (omega arith) (λ n s. omega (arith, size_in n s)) (omega arith)

-- a side that is not 1 has a line of its kind
pub line-there : (kind n : ℕ) → is_kind kind ≡ true → is_block_side n ≡ true → no_line kind n ≡ false → (n ≡ 1 → ⊥) → has_line kind n ≡ true
unfolding has_line is_size
line-there kind n k =
    side-cases (λ n. no_line kind n ≡ false → (n ≡ 1 → ⊥) → has_line kind n ≡ true) (λ _ a. absurd (a refl))
    (λ e _. rw (k, not-false (eqb kind 0) e)) (λ n s _ _. has-line kind n k s) (λ e _. rw (k, not-false (eqb kind 0) e)) n

-- ---- how much is read
module _ (b : TransformBlock) (c : List ℤ) (t : TakenFields b c) where
  both : (is_kept b.horizontal b.width b.columns ≡ true) × (is_kept b.vertical b.height b.rows ≡ true)
  both = and_cases (is_kept b.horizontal b.width b.columns) (is_kept b.vertical b.height b.rows) t.kept

  pub columns-read : Kept b.width b.columns
  columns-read = kept_of b.horizontal b.width b.columns both.0

  pub rows-read : Kept b.height b.rows
  rows-read = kept_of b.vertical b.height b.rows both.1

  -- no more than a kind has
  pub columns-most : b.columns ≤ most_kept b.horizontal b.width
  columns-most = leb-true b.columns (most_kept b.horizontal b.width) (and_cases (leb 1 b.columns) (leb b.columns (most_kept b.horizontal b.width)) both.0).1

  pub rows-most : b.rows ≤ most_kept b.vertical b.height
  rows-most = leb-true b.rows (most_kept b.vertical b.height) (and_cases (leb 1 b.rows) (leb b.rows (most_kept b.vertical b.height)) both.1).1

  high-side : (is_block_side b.height ≡ true) × (not (eqb b.width 1 && eqb b.height 1) ≡ true)
  high-side = and_cases (is_block_side b.height) (not (eqb b.width 1 && eqb b.height 1)) t.pair

  pub height-side : is_block_side b.height ≡ true
  height-side = high-side.0

  pub wide : b.width ≤ 64
  wide = side-in b.width t.width

  pub high : b.height ≤ 64
  high = side-in b.height height-side

  -- no more than 4,096 numbers
  pub few : length c ≤ 4096
  few = omega (arith, t.long, mul-le-mul wide high)

  pub deep : (8 ≤ b.depth) × (b.depth ≤ 16)
  deep =
      let d = and_cases (leb 8 b.depth) (leb b.depth 16) t.depth in
      (leb-true 8 b.depth d.0, leb-true b.depth 16 d.1)

  pub far : (15 ≤ reach_of b) × (reach_of b ≤ 20)
  far = reach-in (is_on b) b.depth

  -- ---- two stages
  module _ (two : is_thin b ≡ false) where
    neither-one : (eqb b.width 1 ≡ false) × (eqb b.height 1 ≡ false)
    unfolding is_thin
    neither-one = neither (eqb b.width 1) (eqb b.height 1) two

    pub sized : Sized (transform_plan b)
    sized =
        record {
          along = line-there b.horizontal b.width t.horizontal t.width t.along (other b.width neither-one.0);
          down = line-there b.vertical b.height t.vertical height-side t.down (other b.height neither-one.1);
          columns = columns-read.within;
          rows = rows-read.within;
        }
      where
        other : (n : ℕ) → eqb n 1 ≡ false → n ≡ 1 → ⊥
        other n e q = true≢false (sym (subst (λ (m : ℕ). eqb m 1 ≡ true) (sym q) refl) ∙ e)

    pub last-two : (4 ≤ last_of b) × (last_of b ≤ 32)
    last-two = let d = deep in let r = far in rw two (omega (arith, d, r), omega (arith, d, r))

    pub last-short : last_of b ≤ 20
    last-short = let d = deep in let r = far in rw two (omega (arith, d, r))

  -- ---- one stage
  module _ (one : is_thin b ≡ true) where
    pub last_one : (4 ≤ last_of b) × (last_of b ≤ 32)
    last_one = let d = deep in let r = far in rw one (omega (arith, d, r), omega (arith, d, r))

    pub last-few : last_of b ≤ 20
    last-few = let d = deep in let r = far in rw one (omega (arith, d, r))

-- a number of the range is at most 2^R in size, which is at most 2^20
pub in_reach : (r : ℕ) (z : ℤ) → beyond (range_of r) z ≡ false → nat_abs z ≤ 2 ^ r
in_reach r z e =
    let w = inside (range_of r) z e in
    parts-abs z (2 ^ r) (omega (arith, le_parts w.1, pow_pos r)) (omega (arith, le_parts w.0, pow_pos r))

pub in-long : (r : ℕ) → r ≤ 20 → (z : ℤ) → beyond (range_of r) z ≡ false → nat_abs z ≤ 1048576
in-long r l z e = le_trans (in_reach r z e) (pow_mono {i = r} {j = 20} l)

-- where there is one stage, and the width is not 1, the height is
pub low-side : (b : TransformBlock) → is_thin b ≡ true → eqb b.width 1 ≡ false → b.height ≡ 1
unfolding is_thin
low-side b e n = or_cases (eqb b.width 1) (eqb b.height 1) e (λ y. absurd (true≢false (sym y ∙ n))) (eqb-true b.height 1)
