-- What both stages give is the block: sums over the live part are those of the definition, middle values stand one row after the
-- other, and each line of residuals follows from them. Assumes nothing.
use native.Mathlib.Omega.{arith}
use mathlib.Core.Path.{◌≡◌, sym, ap, ◌∙◌, subst}
use mathlib.Core.Bool.{Bool, false}
use mathlib.Core.List.{List, ◌++◌}
use Prim.Native.Nat.{ℕ, ◌+◌, ◌*◌, ◌≤◌, ◌<◌}
use native.Mathlib.Nat.{mul_comm, mul-le-mul}
use lib.ListN.{length, length-append, get_or-append}
use lib.IntN.{ℤ, pos, ◌*ℤ◌}
use mir.Syntax.{w32}
use mir.Val.{SFits}
use Rattle.algebra.specs.Sum.{sumℕ}
use Rattle.algebra.specs.Clip.{clip}
use Rattle.algebra.specs.Shift.{nearest}
use Rattle.algebra.specs.Lists.{at, block}
use Rattle.algebra.proofs.Sum.{sum-cong, sumℕ-cong}
use Rattle.algebra.proofs.Clip.{clip-same}
use Rattle.algebra.proofs.Lists.{place_in, row_in, block-length, block_at, block_cong}
use Rattle.meaning.specs.declared.Shape.{Shape}
use Rattle.meaning.specs.Weights.{weight}
use Rattle.meaning.specs.Plan.{Plan, range_of, reach, long_plan}
use Rattle.meaning.specs.Inverse.{column_sum, middle, middle_at, rails, row_sum, residual, inverse_block}
use Rattle.meaning.proofs.Cases.{size_in}
use Rattle.meaning.proofs.LongRules.{reach-in, last-in, around}
use Rattle.meaning.proofs.LongSizes.{long-sized, long-residual-fits}
use Rattle.product.specs.Product.{spot, Laid}
use Rattle.product.proofs.Summing.{odd_place}
use Rattle.stage_weights.specs.Stage.{Weights}
use Rattle.layout.proofs.Alive as alive
use Rattle.long_stages.specs.Sums.{dotted}
use Rattle.long_stages.specs.Work.{column_at, rail_of, Down, row_at, Along, GivenLong}

module _ (extended : Bool) (sh : Shape) (rows columns : ℕ) (c out : List ℤ) (g : GivenLong extended sh rows columns c out) where
  abbrev p : Plan
  p = long_plan extended sh

  abbrev R : ℕ
  R = reach extended sh.depth

  abbrev w : ℕ
  w = sh.width

  abbrev h : ℕ
  h = sh.height

  pub keeps-zero : clip (range_of R) (pos 0) ≡ pos 0
  keeps-zero = clip-same (range_of R) (pos 0) (around R).low (around R).high

  abbrev mid : ℕ → ℕ → ℤ
  mid x y = middle (range_of R) (column_sum p c x y)

  pub wide : w ≤ 32
  wide = size_in w g.block.taken.width

  pub low : h ≤ 32
  low = size_in h g.block.taken.height

  -- weights of n points, of as many pairs as are live
  pub laid : (kind n pairs : ℕ) (t : List ℤ) → n ≤ 32 → 2 * pairs ≤ n → Weights 1024 n false kind n t → Laid n pairs 2 (2 * n) (λ i j. weight kind n i j) t
  laid kind n pairs t l f q =
      let a : pairs ≤ 16 = omega arith in
      let b : 2 * n ≤ 64 = omega arith in
      let m : pairs * (2 * n) ≤ 16 * 64 = mul-le-mul a b in
      q pairs f (omega arith)

  odd-held : (kind : ℕ) {n pairs : ℕ} {t : List ℤ} → Laid n pairs 2 (2 * n) (λ i j. weight kind n i j) t → (j k : ℕ) → j < n → k < pairs → 2 * j + k * (2 * n) + 1 < length t
  odd-held kind {n} q j k v l = omega (arith, q.held (2 * k + 1) j (omega arith) v, odd_place (2 * n) k (2 * j))

  -- ---- the first stage
  module _ (down : List ℤ) (stored : Weights 1024 h false sh.vertical h down) where
    down-laid : Laid h rows 2 (2 * h) (λ i j. weight sh.vertical h i j) down
    down-laid = laid sh.vertical h rows down low g.live.low stored

    pub columns-given : Down down h c w rows (2 * columns) R
    columns-given =
        record {
          far = (reach-in extended sh.depth).1;
          low = omega (arith, low);
          narrow = omega (arith, g.live.narrow, wide);
          each = λ x y l v. record {
            few = omega (arith, g.live.low, low);
            held = λ k q. odd-held sh.vertical down-laid y k v q;
            there = λ k q. omega (arith, g.block.long, mul_comm w h, place_in {x = x} {y = 2 * k + 1} {w = w} {h = h} (omega (arith, g.live.narrow)) (omega (arith, g.live.low)));
          };
        }

    pub column-read : (x y : ℕ) → x < w → y < h → column_at down h c w rows x y ≡ column_sum p c x y
    unfolding dotted
    column-read x y l v =
        sum-cong (2 * rows) (λ i. at down (2 * y + spot (2 * h) i) *ℤ at c (x + i * w)) (λ i. weight sh.vertical h i y *ℤ at c (x + i * w))
        (λ i q. ap (λ (z : ℤ). z *ℤ at c (x + i * w)) (down-laid.right i y q v))
        ∙ alive.column-is p keeps-zero c (2 * columns) (2 * rows) g.live g.kept x y l

    -- the rail count
    pub rails-read : sumℕ h (λ y. sumℕ (2 * columns) (λ x. rail_of R (column_at down h c w rows x y))) ≡ rails p c
    rails-read =
        sumℕ-cong h (λ y. sumℕ (2 * columns) (λ x. rail_of R (column_at down h c w rows x y))) (λ y. sumℕ (2 * columns) (λ x. rail_of R (column_sum p c x y)))
        (λ y v. sumℕ-cong (2 * columns) (λ x. rail_of R (column_at down h c w rows x y)) (λ x. rail_of R (column_sum p c x y)) (λ x l. ap (rail_of R) (column-read x y (omega (arith, g.live.narrow)) v)))
        ∙ alive.rails-are p keeps-zero c (2 * columns) (2 * rows) g.live g.kept

    -- the middle values
    pub middles-read : block (2 * columns) h (λ x y. middle (range_of R) (column_at down h c w rows x y)) ≡ block (2 * columns) h (middle_at p c)
    middles-read =
        block_cong (2 * columns) h (λ x y. middle (range_of R) (column_at down h c w rows x y)) (middle_at p c)
        (λ x y l v.
        let n : x < w = omega (arith, g.live.narrow) in
        ap (middle (range_of R)) (column-read x y n v) ∙ alive.middle-is p keeps-zero c (2 * columns) (2 * rows) g.live g.kept x y n)

    -- ---- the second stage, of what the first has left
    module _ (m rest : List ℤ) (made : m ≡ block (2 * columns) h (λ x y. middle (range_of R) (column_at down h c w rows x y)) ++ rest)
        (along : List ℤ) (stored' : Weights 1024 w false sh.horizontal w along) where
      along-laid : Laid w columns 2 (2 * w) (λ i j. weight sh.horizontal w i j) along
      along-laid = laid sh.horizontal w columns along wide g.live.narrow stored'

      abbrev B : List ℤ
      B = block (2 * columns) h (λ x y. middle (range_of R) (column_at down h c w rows x y))

      m-long : h * (2 * columns) ≤ length m
      m-long = omega (arith, ap length made, length-append B rest, block-length (2 * columns) h (λ x y. middle (range_of R) (column_at down h c w rows x y)))

      m-at : (i y : ℕ) → i < 2 * columns → y < h → at m (y * (2 * columns) + i * 1) ≡ mid i y
      m-at i y l v =
          let e : y * (2 * columns) + i * 1 ≡ i + y * (2 * columns) = omega arith in
          let k = i + y * (2 * columns) in
          let b : k < length B = omega (arith, block-length (2 * columns) h (λ x y. middle (range_of R) (column_at down h c w rows x y)), place_in {x = i} {y = y} {w = 2 * columns} {h = h} l v) in
          (λ t. at (made t) (e t)) ∙ get_or-append B rest (pos 0) k b
          ∙ block_at (2 * columns) h (λ x y. middle (range_of R) (column_at down h c w rows x y)) i y l v
          ∙ ap (middle (range_of R)) (column-read i y (omega (arith, g.live.narrow)) v)

      row_read : (x y : ℕ) → x < w → y < h → row_at along w m (2 * columns) columns x y ≡ row_sum p c x y
      unfolding dotted
      row_read x y l v =
          sum-cong (2 * columns) (λ i. at along (2 * x + spot (2 * w) i) *ℤ at m (y * (2 * columns) + i * 1)) (λ i. weight sh.horizontal w i x *ℤ mid i y)
          (λ i q t. along-laid.right i x q l t *ℤ m-at i y q v t)
          ∙ alive.row_is p keeps-zero c (2 * columns) (2 * rows) g.live g.kept x y

      residual-read : (x y : ℕ) → x < w → y < h → nearest p.last (row_at along w m (2 * columns) columns x y) ≡ residual p c x y
      unfolding residual
      residual-read x y l v = ap (nearest p.last) (row_read x y l v)

      pub rows-given : Along along w h m (2 * columns) columns p.last
      rows-given =
          let last = last-in extended sh.depth g.block.taken.depth in
          record {
            wide = omega (arith, wide);
            low = omega (arith, low);
            narrow = omega (arith, g.live.narrow, wide);
            some = omega arith;
            short = omega arith;
            each = λ x y l v. record {
              few = omega (arith, g.live.narrow, wide);
              held = λ k q. odd-held sh.horizontal along-laid x k l q;
              there = λ k q. omega (arith, m-long, row_in (2 * columns) v);
            };
            fits = λ x y l v. subst (SFits w32) (sym (residual-read x y l v)) (long-residual-fits extended sh (long-sized extended sh g.block.taken) g.block.taken.depth c x y l);
          }

      pub block_read : block w h (λ x y. nearest p.last (row_at along w m (2 * columns) columns x y)) ≡ inverse_block p c
      unfolding inverse_block
      block_read = block_cong w h (λ x y. nearest p.last (row_at along w m (2 * columns) columns x y)) (residual p c) residual-read
