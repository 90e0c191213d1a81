-- LFNST before columns and rows: what its stage is given (`stage-given`), what it leaves (`stage-left`), and that the two stages take
-- that (`behind-given`). Assumes nothing.
use native.Mathlib.Omega.{arith}
use mathlib.Core.Path.{◌≡◌, refl, sym, ap, ◌∙◌, subst}
use mathlib.Core.Bool.{Bool, true, false, not, cond, ◌&&◌}
use mathlib.Core.List.{List}
use Prim.Native.Nat.{ℕ, ◌+◌, ◌*◌, ◌^◌, ◌≤◌, ◌<◌, min}
use native.Mathlib.Nat.{mul_comm, mul-le-mul_right}
use borrow.Author.Tests.{eqb-true, eqb-false, leb-true, le-leb, ltb-true, ne_eqb, not-true}
use lib.Dec.{eqb, ltb, leb}
use lib.IntN.{ℤ, pos, nat_abs}
use lib.Signed.{◌≤ℤ◌}
use lib.ListN.{length}
use lib.Pow.{pow_pos}
use Rattle.algebra.specs.Lists.{at, block}
use Rattle.algebra.proofs.Lists.{block_at, block-length}
use Rattle.algebra.proofs.Order.{parts-le, parts-abs, le_parts}
use Rattle.meaning.specs.Shape.{most_kept, is_kept}
use Rattle.meaning.specs.Plan.{range_of}
use Rattle.meaning.specs.Long.{beyond}
use Rattle.meaning.proofs.Cases.{and_cases}
use Rattle.meaning.proofs.LongCall.{inside, not_beyond}
use Rattle.lfnst.specs.LowFrequency.{is_wide, low_at}
use Rattle.lfnst.specs.Work.{GivenStage, Placed, corner_at, side_of}
use Rattle.lfnst.proofs.Left.{low-inside}
use Rattle.transform_block.specs.declared.TransformBlock.{TransformBlock}
use Rattle.transform_block.specs.TransformBlock.{is_on, is_thin, reach_of, has_low, is_corner, takes_low, is_low, read_at, low_side, low_numbers, behind_low}
use Rattle.transform_block.specs.Given.{TakenFields, GivenWork, LowDone}
use Rattle.transform_block.proofs.Taken.{wide, far}

module _ (b : TransformBlock) (c : List ℤ) (t : TakenFields b c) where
  -- ---- a block with LFNST
  module _ (low : has_low b ≡ true) where
    pub some : 1 ≤ b.lfnst
    unfolding has_low
    some = let n = eqb-false b.lfnst 0 (not-true (eqb b.lfnst 0) low) in omega (arith, n)

    numbers : ((leb b.lfnst 2 ≡ true) × ((leb b.set 3 ≡ true) × (leb b.transposed 1 ≡ true))) × (takes_low b ≡ true)
    unfolding is_low
    numbers =
        let a = and_cases (leb b.lfnst 2 && (leb b.set 3 && leb b.transposed 1)) (cond (has_low b) (takes_low b) true) t.low in
        let n = and_cases (leb b.lfnst 2) (leb b.set 3 && leb b.transposed 1) a.0 in
        ((n.0, and_cases (leb b.set 3) (leb b.transposed 1) n.1), subst (λ (l : Bool). cond l (takes_low b) true ≡ true) low a.1)

    pub most-two : b.lfnst ≤ 2
    most-two = leb-true b.lfnst 2 numbers.0.0

    pub sets : b.set ≤ 3
    sets = leb-true b.set 3 numbers.0.1.0

    fields : ((leb 4 b.width ≡ true) × (leb 4 b.height ≡ true)) × ((eqb b.horizontal 0 ≡ true) × (eqb b.vertical 0 ≡ true))
    unfolding takes_low
    fields =
        let a = and_cases (leb 4 b.width && leb 4 b.height) (eqb b.horizontal 0 && eqb b.vertical 0) numbers.1 in
        (and_cases (leb 4 b.width) (leb 4 b.height) a.0, and_cases (eqb b.horizontal 0) (eqb b.vertical 0) a.1)

    -- no side is 1
    pub two-stages : is_thin b ≡ false
    unfolding is_thin
    two-stages =
        let w = leb-true 4 b.width fields.0.0 in
        let h = leb-true 4 b.height fields.0.1 in
        rw (ne_eqb b.width 1 (λ e. omega (arith, e, w)), ne_eqb b.height 1 (λ e. omega (arith, e, h)))

    -- the part that the stage can write is in the block, and may be read
    pub side-in : (4 ≤ low_side b) × ((low_side b ≤ 8) × ((low_side b ≤ b.width) × (low_side b ≤ b.height)))
    unfolding low_side is_wide
    side-in =
        let w = leb-true 4 b.width fields.0.0 in
        let h = leb-true 4 b.height fields.0.1 in
        either (leb 8 b.width && leb 8 b.height) refl w h
      where
        either : (r : Bool) → leb 8 b.width && leb 8 b.height ≡ r → 4 ≤ b.width → 4 ≤ b.height → (4 ≤ cond r 8 4) × ((cond r 8 4 ≤ 8) × ((cond r 8 4 ≤ b.width) × (cond r 8 4 ≤ b.height)))
        either true e w h =
            let a = and_cases (leb 8 b.width) (leb 8 b.height) e in
            (omega arith, (omega arith, (leb-true 8 b.width a.0, leb-true 8 b.height a.1)))
        either false e w h = (omega arith, (omega arith, (w, h)))

    kept-side : (kind n k : ℕ) → kind ≡ 0 → 4 ≤ k → k ≤ 8 → k ≤ n → is_kept kind n k ≡ true
    unfolding most_kept
    kept-side kind n k e a m h =
        let q : k ≤ min n 32 = omega arith in
        let o : 1 ≤ k = omega arith in
        subst (λ (kind : ℕ). leb 1 k && leb k (min n (cond (eqb kind 0) 32 16)) ≡ true) (sym e) (rw (le-leb 1 k o, le-leb k (min n 32) q))

    length-is : length (low_numbers b c) ≡ b.width * b.height
    unfolding low_numbers
    length-is = block-length b.width b.height _ ∙ mul_comm b.height b.width

    pub low-at : (x y : ℕ) → x < b.width → y < b.height
        → at (low_numbers b c) (x + y * b.width) ≡ low_at b.width b.height b.lfnst b.set (eqb b.transposed 1) (reach_of b) (read_at b c) x y
    unfolding low_numbers
    low-at x y h l = block_at b.width b.height _ x y h l

    within : (x y : ℕ) → beyond (range_of (reach_of b)) (low_at b.width b.height b.lfnst b.set (eqb b.transposed 1) (reach_of b) (read_at b c) x y) ≡ false
    within x y =
        let i = low-inside b.width b.height b.lfnst b.set (eqb b.transposed 1) (reach_of b) (read_at b c) x y in
        not_beyond (range_of (reach_of b)) _ i.0 i.1

    pub behind-given : GivenWork (behind_low b) (low_numbers b c)
    unfolding is_corner has_low is_low is_on
    behind-given =
        record {
          taken = record {
            width = t.width;
            pair = t.pair;
            horizontal = t.horizontal;
            vertical = t.vertical;
            along = t.along;
            down = t.down;
            depth = t.depth;
            kept =
                let s = side-in in
                let x = kept-side b.horizontal b.width (low_side b) (eqb-true b.horizontal 0 fields.1.0) s.0 s.1.0 s.1.1.0 in
                let y = kept-side b.vertical b.height (low_side b) (eqb-true b.vertical 0 fields.1.1) s.0 s.1.0 s.1.1.1 in
                (λ i. x i && y i);
            corner = refl;
            low = rw (numbers.0.1.0, numbers.0.1.1);
            long = length-is;
          };
          inside = λ x y h l.
              let s = side-in in
              let e = low-at x y (omega (arith, s)) (omega (arith, s)) in
              subst (λ (z : ℤ). beyond (range_of (reach_of b)) z ≡ false) (sym e) (within x y);
        }

-- ---- the stage: what it is given, and what it leaves
-- what is read is in the range, and so is 0
read-inside : (b : TransformBlock) (c : List ℤ) → GivenWork b c → (x y : ℕ) → ((range_of (reach_of b)).low ≤ℤ read_at b c x y) × (read_at b c x y ≤ℤ (range_of (reach_of b)).high)
unfolding read_at
read-inside b c g x y = either (ltb x b.columns && ltb y b.rows) refl
  where
    either : (r : Bool) → ltb x b.columns && ltb y b.rows ≡ r
        → let z = cond r (at c (x + y * b.width)) (pos 0) in
        ((range_of (reach_of b)).low ≤ℤ z) × (z ≤ℤ (range_of (reach_of b)).high)
    either true e =
        let p = and_cases (ltb x b.columns) (ltb y b.rows) e in
        inside (range_of (reach_of b)) (at c (x + y * b.width)) (g.inside x y (ltb-true x b.columns p.0) (ltb-true y b.rows p.1))
    either false e = (parts-le (range_of (reach_of b)).low (pos 0) (omega arith), parts-le (pos 0) (range_of (reach_of b)).high (omega arith))

pub read-size : (b : TransformBlock) (c : List ℤ) → GivenWork b c → (x y : ℕ) → nat_abs (read_at b c x y) ≤ 2 ^ reach_of b
read-size b c g x y =
    let p : 0 < 2 ^ reach_of b = pow_pos (reach_of b) in
    let i = read-inside b c g x y in
    parts-abs (read_at b c x y) (2 ^ reach_of b) (omega (arith, le_parts i.1)) (omega (arith, le_parts i.0))

pub stage-given : (b : TransformBlock) (c : List ℤ) → GivenWork b c → has_low b ≡ true → GivenStage b.width b.height b.lfnst b.set (reach_of b) b.columns b.rows c
unfolding read_at low_side
stage-given b c g low =
    let t = g.taken in
    let s = side-in b c t low in
    record {
      some = some b c t low;
      two = most-two b c t low;
      sets = sets b c t low;
      short = (far b c t).1;
      most = wide b c t;
      within = s.1.1.0;
      room =
          let l : low_side b * b.width ≤ b.height * b.width = mul-le-mul_right b.width s.1.1.1 in
          omega (arith, l, t.long, mul_comm b.width b.height);
      inside = read-inside b c g;
    }

pub stage-left : (b : TransformBlock) {c d : List ℤ} (t : TakenFields b c) (low : has_low b ≡ true) {reach : ℕ} → reach ≡ reach_of b
    → Placed (side_of b.width b.height) (side_of b.width b.height) b.width (low_at b.width b.height b.lfnst b.set (eqb b.transposed 1) reach (corner_at b.width b.columns b.rows c)) c d → LowDone b c d
unfolding read_at low_side
stage-left b {c} {d} t low {reach} r p =
    let s = side-in b c t low in
    record {
      long = p.long;
      same = λ x y h l.
          p.done x y h l
          ∙ ap (λ (r : ℕ). low_at b.width b.height b.lfnst b.set (eqb b.transposed 1) r (read_at b c) x y) r
          ∙ sym (low-at b c t low x y (omega (arith, h, s)) (omega (arith, l, s)));
    }
