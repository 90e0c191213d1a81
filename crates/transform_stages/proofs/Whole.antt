-- What the stages give is the block: each sum over the pairs of a line is that of the definition over what is read, middle values stand
-- one row after the other, and each row of residuals follows from them. Assumes nothing.
use native.Mathlib.Omega.{arith}
use mathlib.Core.Path.{◌≡◌, sym, ap, ◌∙◌, subst}
use mathlib.Core.Bool.{true, cond}
use mathlib.Core.List.{List, ◌++◌}
use Prim.Native.Nat.{ℕ, ◌+◌, ◌*◌, ◌/◌, ◌^◌, ◌≤◌, ◌<◌, min}
use native.Mathlib.Nat.{le_trans, mul_comm, mul-le-mul, zero-add, add_comm}
use borrow.Author.Tests.{lt-ltb, le-ltb}
use lib.Dec.{ltb}
use lib.ListN.{length, get_or-append}
use lib.IntN.{ℤ, pos, nat_abs, ◌*ℤ◌, *ℤ-zero}
use lib.Pow.{pow_mono}
use mir.Syntax.{w32}
use mir.Val.{SFits}
use Rattle.algebra.specs.Sum.{sumℕ}
use Rattle.algebra.specs.Shift.{nearest}
use Rattle.algebra.specs.Lists.{at, block}
use Rattle.algebra.proofs.Sum.{sum-cong, sum-rest, sumℕ-cong, sumℕ-swap}
use Rattle.algebra.proofs.Order.{within, fits_in}
use Rattle.algebra.proofs.Shift.{nearest_in}
use Rattle.algebra.proofs.Lists.{tab-at, place_in, block-length, block_at, block_cong}
use Rattle.meaning.specs.Weights.{weight}
use Rattle.meaning.specs.Line.{inverse_sum}
use Rattle.meaning.specs.Shape.{has_line}
use Rattle.meaning.specs.Plan.{Plan, range_of}
use Rattle.meaning.specs.Inverse.{column_sum, rounded, middle, middle_at, railed, count, rails, row_sum, residual, inverse_block}
use Rattle.meaning.proofs.Cases.{line-in}
use Rattle.meaning.proofs.Sizes.{inverse_sum-in}
use Rattle.meaning.proofs.PlanSizes.{along-sizes, residual-size}
use Rattle.meaning.proofs.LongRules.{around}
use Rattle.product.specs.Product.{spot, Laid}
use Rattle.product.proofs.Summing.{odd_place}
use Rattle.long_stages.specs.Sums.{dotted}
use Rattle.long_stages.specs.Work.{column_at, rail_of, Down}
use Rattle.transform_stages.specs.Work.{LineWeights, line_from, RoomRead, residual_at, GivenRows, worked, GivenTwo, rounded_sum, GivenOne}
use Rattle.transform_stages.proofs.Lines.{pairs-in}

-- ---- one line, of as many pairs as reach over its inputs
module _ (kind n k : ℕ) (l : has_line kind n ≡ true) (few : k ≤ min n 32) {t : List ℤ} (w : LineWeights kind n t) where
  abbrev pairs : ℕ
  pairs = (k + 1) / 2

  laid : Laid n pairs 2 (2 * n) (λ i j. weight kind n i j) t
  laid = w pairs (pairs-in kind n k l few)

  pub pairs-few : 2 * pairs ≤ 32
  pairs-few = omega (arith, pairs-in kind n k l few)

  pub odd-held : (j i : ℕ) → j < n → i < pairs → 2 * j + i * (2 * n) + 1 < length t
  odd-held j i v h = omega (arith, laid.held (2 * i + 1) j (omega arith) v, odd_place (2 * n) i (2 * j))

  -- over inputs that are x up to k and 0 behind
  pub line_read : (x : ℕ → ℤ) (v : List ℤ) (p gap : ℕ) → ((i : ℕ) → i < k → at v (p + i * gap) ≡ x i) → ((i : ℕ) → k ≤ i → i < 2 * pairs → at v (p + i * gap) ≡ pos 0)
      → (j : ℕ) → j < n → dotted t (2 * j) (2 * n) v p gap pairs ≡ inverse_sum kind n k x j
  unfolding dotted inverse_sum
  line_read x v p gap there none j b =
      let f : ℕ → ℤ = λ i. weight kind n i j *ℤ at v (p + i * gap) in
      sum-cong (2 * pairs) (λ i. at t (2 * j + spot (2 * n) i) *ℤ at v (p + i * gap)) f (λ i h. ap (λ (z : ℤ). z *ℤ at v (p + i * gap)) (laid.right i j h b))
      ∙ sum-rest k (2 * pairs) f (omega arith) (λ i h g. ap (λ (z : ℤ). weight kind n i j *ℤ z) (none i h g) ∙ *ℤ-zero (weight kind n i j))
      ∙ sum-cong k f (λ i. weight kind n i j *ℤ x i) (λ i h. ap (λ (z : ℤ). weight kind n i j *ℤ z) (there i h))

  -- of a line that was copied
  pub copied-read : (c : List ℤ) (o j : ℕ) → j < n → dotted t (2 * j) (2 * n) (line_from c o k) 0 1 pairs ≡ inverse_sum kind n k (λ i. at c (o + i)) j
  unfolding line_from
  copied-read c o = line_read (λ i. at c (o + i)) (line_from c o k) 0 1 (λ i h. read i (omega arith) ∙ rw (lt-ltb i k h)) (λ i h g. read i (omega (arith, pairs-few)) ∙ rw (le-ltb i k h))
    where
      read : (i : ℕ) → i < 32 → at (line_from c o k) (0 + i * 1) ≡ cond (ltb i k) (at c (o + i)) (pos 0)
      read i h =
          let e : 0 + i * 1 ≡ i = omega arith in
          ap (at (line_from c o k)) e ∙ tab-at 32 (λ i. cond (ltb i k) (at c (o + i)) (pos 0)) i h

  -- .. from its first number on
  pub whole-line : (c : List ℤ) (j : ℕ) → j < n → dotted t (2 * j) (2 * n) (line_from c 0 k) 0 1 pairs ≡ inverse_sum kind n k (at c) j
  unfolding inverse_sum
  whole-line c j h = copied-read c 0 j h ∙ sum-cong k (λ i. weight kind n i j *ℤ at c (0 + i)) (λ i. weight kind n i j *ℤ at c i) (λ i _. ap (λ (m : ℕ). weight kind n i j *ℤ at c m) (zero-add i))

-- 2^32 over 2^4
over_last : (last : ℕ) → 4 ≤ last → 4096 * 1048576 ≤ 2 ^ last * 268435456
over_last last h =
    let p : 16 ≤ 2 ^ last = pow_mono {i = 4} {j = last} h in
    omega (arith, mul-le-mul p (le_of 268435456))
  where
    le_of : (b : ℕ) → b ≤ b
    le_of b = omega arith

-- ---- one stage
module _ (kind n k last : ℕ) (c : List ℤ) (g : GivenOne kind n k last c) where
  pub line-fits : (j : ℕ) → j < n → SFits w32 (rounded_sum kind n k last c j)
  line-fits j h =
      let a : 64 * n ≤ 4096 = omega (arith, line-in kind n g.line) in
      let s : nat_abs (inverse_sum kind n k (at c) j) ≤ 4096 * 1048576 = le_trans (inverse_sum-in kind n g.line (at c) 1048576 k (omega (arith, g.few)) g.small j h) (mul-le-mul a (same 1048576)) in
      fits_in {B = 268435456} tt (within (rounded_sum kind n k last c j) (nearest_in last (inverse_sum kind n k (at c) j) 268435456 (omega (arith, g.some)) (le_trans s (over_last last g.some))))
    where
      same : (b : ℕ) → b ≤ b
      same b = omega arith

-- ---- both stages
module _ (w h horizontal vertical columns rows reach last : ℕ) (c : List ℤ) (g : GivenTwo (worked w h horizontal vertical columns rows reach last) reach c) where
  abbrev p : Plan
  p = worked w h horizontal vertical columns rows reach last

  few-rows : rows ≤ min h 32
  few-rows = omega (arith, g.sized.rows, g.rows)

  few-columns : columns ≤ min w 32
  few-columns = omega (arith, g.sized.columns, g.columns)

  pub wide : w ≤ 64
  wide = line-in horizontal w g.sized.along

  pub high : h ≤ 64
  high = line-in vertical h g.sized.down

  -- ---- the first stage
  module _ (room down : List ℤ) (read : RoomRead c w columns rows room) (laid-down : LineWeights vertical h down) where
    pub columns-given : Down down h room 32 ((rows + 1) / 2) columns reach
    columns-given =
        record {
          far = g.far;
          low = high;
          narrow = g.columns;
          each = λ x y l v. record {
            few = omega (arith, pairs-few vertical h rows g.sized.down few-rows laid-down);
            held = λ i q. odd-held vertical h rows g.sized.down few-rows laid-down y i v q;
            there = λ i q. omega (arith, read.long, g.columns, pairs-few vertical h rows g.sized.down few-rows laid-down);
          };
        }

    pub column-read : (x y : ℕ) → x < columns → y < h → column_at down h room 32 ((rows + 1) / 2) x y ≡ column_sum p c x y
    unfolding column_sum
    column-read x y l v =
        line_read vertical h rows g.sized.down few-rows laid-down (λ i. at c (x + i * w)) room x 32 (λ i q. read.inside x i l q)
        (λ i q r. read.below x i (omega (arith, g.columns)) q (omega (arith, pairs-few vertical h rows g.sized.down few-rows laid-down))) y v

    -- middle values, which are those of kept columns
    middle-read : (x y : ℕ) → x < columns → y < h → middle (range_of reach) (column_at down h room 32 ((rows + 1) / 2) x y) ≡ middle_at p c x y
    unfolding middle_at
    middle-read x y l v = ap (middle (range_of reach)) (column-read x y l v) ∙ rw (lt-ltb x columns l)

    pub rails-read : sumℕ h (λ y. sumℕ columns (λ x. rail_of reach (column_at down h room 32 ((rows + 1) / 2) x y))) ≡ rails p c
    unfolding rails
    rails-read =
        sumℕ-swap h columns (λ y x. rail_of reach (column_at down h room 32 ((rows + 1) / 2) x y))
        ∙ sumℕ-cong columns _ _ (λ x l. sumℕ-cong h _ _ (λ y v i. count (railed (rounded (column-read x y l v i)) (middle-read x y l v i))))

    -- ---- the second stage, of what the first has left
    module _ (m rest along : List ℤ) (made : m ≡ block columns h (λ x y. middle (range_of reach) (column_at down h room 32 ((rows + 1) / 2) x y)) ++ rest) (long : length m ≡ w * h) (laid-along : LineWeights horizontal w along) where
      abbrev B : List ℤ
      B = block columns h (λ x y. middle (range_of reach) (column_at down h room 32 ((rows + 1) / 2) x y))

      m-at : (i y : ℕ) → i < columns → y < h → at m (y * columns + i) ≡ middle_at p c i y
      m-at i y l v =
          let e : y * columns + i ≡ i + y * columns = add_comm (y * columns) i in
          let k = i + y * columns in
          let b : k < length B = omega (arith, block-length columns h (λ x y. middle (range_of reach) (column_at down h room 32 ((rows + 1) / 2) x y)), place_in {x = i} {y = y} {w = columns} {h = h} l v) in
          (λ t. at (made t) (e t)) ∙ get_or-append B rest (pos 0) k b
          ∙ block_at columns h (λ x y. middle (range_of reach) (column_at down h room 32 ((rows + 1) / 2) x y)) i y l v
          ∙ middle-read i y l v

      row_read : (x y : ℕ) → x < w → y < h → dotted along (2 * x) (2 * w) (line_from m (y * columns) columns) 0 1 ((columns + 1) / 2) ≡ row_sum p c x y
      unfolding row_sum inverse_sum
      row_read x y l v =
          copied-read horizontal w columns g.sized.along few-columns laid-along m (y * columns) x l
          ∙ sum-cong columns (λ i. weight horizontal w i x *ℤ at m (y * columns + i)) (λ i. weight horizontal w i x *ℤ middle_at p c i y) (λ i q. ap (λ (z : ℤ). weight horizontal w i x *ℤ z) (m-at i y q v))

      residual-read : (x y : ℕ) → x < w → y < h → residual_at along w columns ((columns + 1) / 2) last m x y ≡ residual p c x y
      unfolding residual
      residual-read x y l v = ap (nearest last) (row_read x y l v)

      residual-fits : (x y : ℕ) → x < w → SFits w32 (residual p c x y)
      residual-fits x y l =
          let a : 64 * w ≤ 4096 = omega (arith, wide) in
          let b : 2 ^ reach ≤ 1048576 = pow_mono {i = reach} {j = 20} g.far in
          fits_in {B = 268435456} tt (within (residual p c x y)
          (residual-size p c (around reach) x y (along-sizes g.sized x l) 268435456 (omega (arith, g.some)) (le_trans (mul-le-mul a b) (over_last last g.some))))

      pub rows-given : GivenRows along w h columns ((columns + 1) / 2) last m
      rows-given =
          record {
            wide = wide;
            low = high;
            narrow = g.columns;
            within = g.sized.columns;
            few = pairs-few horizontal w columns g.sized.along few-columns laid-along;
            some = omega (arith, g.some);
            short = g.short;
            room = long ∙ mul_comm w h;
            held = odd-held horizontal w columns g.sized.along few-columns laid-along;
            fits = λ x y l v. subst (SFits w32) (sym (residual-read x y l v)) (residual-fits x y l);
          }

      pub block_read : block w h (residual_at along w columns ((columns + 1) / 2) last m) ≡ inverse_block p c
      unfolding inverse_block
      block_read = block_cong w h (residual_at along w columns ((columns + 1) / 2) last m) (residual p c) residual-read
