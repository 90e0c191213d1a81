-- Both stages over the live part of a block: what their lines are given, and what they are. Stated once, over any plan of lines of 2
-- to 64 points whose middle values have 16 bits, over the number of pairs and the room for weights. Assumes nothing.
use mathlib.Core.Path.{◌≡◌, refl, sym, ap, ◌∙◌}
use mathlib.Core.Bool.{true, false}
use mathlib.Core.Logic.{inl, inr}
use mathlib.Core.List.{List, ◌++◌, append-nil}
use Prim.Native.Nat.{ℕ, ◌+◌, ◌*◌, ◌-◌, ◌/◌, ◌^◌, ◌≤◌, ◌<◌}
use native.Mathlib.Nat.{mul_comm, mul-le-mul, mul-le-mul_left, mul-le-mul_right, mul_assoc}
use native.Mathlib.Omega.{arith}
use lib.IntN.{ℤ, pos, ◌*ℤ◌, *ℤ_comm}
use lib.ListN.{length, take, drop, length-append, length-drop, drop_of_length-le, get_or-append}
use mir.Syntax.{w32}
use mir.Val.{to_z, of_z}
use Rattle.algebra.specs.Sum.{sum, sumℕ}
use Rattle.algebra.specs.Clip.{Range, clip}
use Rattle.algebra.specs.Shift.{nearest}
use Rattle.algebra.specs.Lists.{at, tabulate, block}
use Rattle.algebra.proofs.Sum.{sum-cong, sumℕ-cong}
use Rattle.algebra.proofs.Lists.{block_at, block-length, block_cong, tab-at, tab-length, place_in, part-long, part_same}
use Rattle.meaning.specs.declared.Shape.{Shape}
use Rattle.meaning.specs.Shape.{is_size}
use Rattle.meaning.specs.Weights.{weight}
use Rattle.meaning.specs.Plan.{Plan, plan_of, short_range}
use Rattle.meaning.specs.Inverse.{column_sum, rounded, railed, count, rails, residual, inverse_block}
use Rattle.meaning.proofs.Cases.{size-cases, size_in}
use Rattle.meaning.proofs.Sizes.{weight_most}
use Rattle.product.specs.Product.{Laid, line_sum, shifted, Rounding, Lines}
use Rattle.product.proofs.Laid.{laid-less, block-laid, lines-given, lines_are, half_is, half-rounds}
use Rattle.stage_weights.specs.Stage.{Weights}
use Rattle.layout.specs.Zip.{Rows}
use Rattle.layout.proofs.Zipping.{size-even, rows-given}
use Rattle.inverse_stage.specs.Given.{GivenStages, Paired, GivenPlan, Room}
use Rattle.inverse_stage.specs.Settled.{rails_of}
use Rattle.inverse_stage.proofs.Blocks.{block-count}
use Rattle.layout.proofs.Alive.{column-is, mid, row_is, rails-are}

-- a size is known by the numbers that it lies between
pub four : {n : ℕ} → is_size n ≡ true → n ≤ 4 → 2 * 2 ≡ n
four {n} = size-cases (λ n. n ≤ 4 → 2 * 2 ≡ n) (λ h. refl) (λ h. absurd (omega arith)) (λ h. absurd (omega arith)) (λ h. absurd (omega arith)) n

pub eight : {n : ℕ} → is_size n ≡ true → 4 < n → n ≤ 8 → 2 * 4 ≡ n
eight {n} = size-cases (λ n. 4 < n → n ≤ 8 → 2 * 4 ≡ n) (λ h g. absurd (omega arith)) (λ h g. refl) (λ h g. absurd (omega arith)) (λ h g. absurd (omega arith)) n

pub sixteen : {n : ℕ} → is_size n ≡ true → 8 < n → n ≤ 16 → 2 * 8 ≡ n
sixteen {n} = size-cases (λ n. 8 < n → n ≤ 16 → 2 * 8 ≡ n) (λ h g. absurd (omega arith)) (λ h g. absurd (omega arith)) (λ h g. refl) (λ h g. absurd (omega arith)) n

pub thirty_two : {n : ℕ} → is_size n ≡ true → 16 < n → 2 * 16 ≡ n
thirty_two {n} = size-cases (λ n. 16 < n → 2 * 16 ≡ n) (λ h. absurd (omega arith)) (λ h. absurd (omega arith)) (λ h. absurd (omega arith)) (λ h. refl) n

-- 8 is the only size above 4 and not above h of which h fit in 128
pub eight-of : {n h : ℕ} → is_size n ≡ true → n ≤ h → n * h ≤ 128 → 4 < n → 2 * 4 ≡ n
eight-of {n} {h} = size-cases (λ n. n ≤ h → n * h ≤ 128 → 4 < n → 2 * 4 ≡ n) (λ l k g. absurd (omega arith)) (λ l k g. refl) (λ l k g. absurd (omega arith)) (λ l k g. absurd (omega arith)) n

-- as many inputs as there are, and their weights by pairs
by-pairs : (pairs n m : ℕ) → 2 * pairs ≡ n → pairs * (2 * m) ≡ n * m
by-pairs pairs n m e = omega (arith, ap (λ (n : ℕ). n * m) e, mul_assoc 2 pairs m, mul_assoc pairs 2 m, mul_comm 2 pairs)

-- lines that leave no room behind them
pub all-written : (n : ℕ) (l o : List ℤ) → length o ≤ n → l ++ drop n o ≡ l
all-written n l o k = ap (λ (rest : List ℤ). l ++ rest) (drop_of_length-le o k) ∙ append-nil l

-- ---- the plan of a shape
paired : (n : ℕ) → is_size n ≡ true → Paired n
paired n s = let e = size-even n s in record { some = omega (arith, e.0); few = size_in n s; even = e.1 }

pub plan-given : {sh : Shape} {rows columns : ℕ} {c r : List ℤ} → GivenStages sh rows columns c r → GivenPlan (plan_of sh) rows columns c r
plan-given {rows = rows} {columns = columns} g =
    record {
      short = refl;
      paired-rows = paired rows g.size-rows;
      paired-columns = paired columns g.size-columns;
      room = g.block.room;
      live = g.live;
      kept = g.kept;
    }

pub zip-given : {sh : Shape} {rows columns room : ℕ} {c r z : List ℤ} → GivenStages sh rows columns c r → Room room (plan_of sh) rows columns → length z ≡ room → Rows (rows / 2) columns sh.width c z
zip-given {sh} {rows} {columns} g fits long =
    rows-given rows g.size-rows (omega (arith, size-even columns g.size-columns)) g.live.narrow
    (omega (arith, g.block.long, mul_comm sh.width sh.height, mul-le-mul_right sh.width g.live.low)) (omega (arith, fits.between, mul-le-mul_right columns g.live.low))

-- the weights of so many inputs as there are, in a room for them
pub room-weights : (room kind n inputs : ℕ) {t : List ℤ} → Weights room n false kind n t → inputs ≤ n → inputs * n ≤ room
    → (pairs : ℕ) → 2 * pairs ≡ inputs → Laid n pairs 2 (2 * n) (λ i j. weight kind n i j) t
room-weights room kind n inputs weights few fits pairs e = weights pairs (omega arith) (omega (arith, fits, by-pairs pairs inputs n e))

module _ {p : Plan} {rows columns : ℕ} {c r : List ℤ} (g : GivenPlan p rows columns c r) where
  abbrev w : ℕ
  w = p.width

  abbrev h : ℕ
  h = p.height

  short-keeps : clip short_range (pos 0) ≡ pos 0
  unfolding short_range
  short-keeps = refl

  pub keeps : clip p.range (pos 0) ≡ pos 0
  keeps = ap (λ (r : Range). clip r (pos 0)) g.short ∙ short-keeps

  -- ---- between the stages
  abbrev pub sums : List ℤ
  sums = block columns h (λ x y. rounded (column_sum p c x y))

  pub sums-long : length sums ≡ h * columns
  sums-long = block-length columns h (λ x y. rounded (column_sum p c x y))

  abbrev pub middles : List ℤ
  middles = tabulate (length sums) (λ k. clip short_range (at sums k))

  middles-long : length middles ≡ h * columns
  middles-long = tab-length (length sums) (λ k. clip short_range (at sums k)) ∙ sums-long

  pub middle-at : (i y : ℕ) → i < columns → y < h → at middles (i + y * columns) ≡ mid p keeps c columns rows g.live g.kept i y
  middle-at i y k v =
      tab-at (length sums) (λ k. clip short_range (at sums k)) (i + y * columns) (omega (arith, sums-long, place_in {x = i} {y = y} {w = columns} {h = h} k v))
      ∙ ap (clip short_range) (block_at columns h (λ x y. rounded (column_sum p c x y)) i y k v)
      ∙ ap (λ (r : Range). clip r (rounded (column_sum p c i y))) (sym g.short)

  settled-rails : rails_of (length sums) sums middles ≡ rails p c
  unfolding rails_of
  settled-rails =
      sumℕ-cong (length sums) _ _ (λ k l. ap (λ (z : ℤ). count (railed (at sums k) z)) (tab-at (length sums) (λ k. clip short_range (at sums k)) k l))
      ∙ block-count columns h (λ x y. rounded (column_sum p c x y)) (λ z. count (railed z (clip short_range z)))
      ∙ ap (λ (r : Range). sumℕ h (λ y. sumℕ columns (λ x. count (railed (rounded (column_sum p c x y)) (clip r (rounded (column_sum p c x y))))))) (sym g.short)
      ∙ rails-are p keeps c columns rows g.live g.kept

  -- what `settle` makes of them, in whatever list they stand
  module _ {l m : List ℤ} {n : ℕ} (e : l ≡ sums) (s : (m ≡ tabulate (length l) (λ k. clip short_range (at l k))) × (n ≡ rails_of (length l) l m)) where
    pub settled : m ≡ middles
    settled = s.0 ∙ ap (λ (l : List ℤ). tabulate (length l) (λ k. clip short_range (at l k))) e

    pub counted : n ≡ rails p c
    counted = s.1 ∙ (λ i. rails_of (length (e i)) (e i) (settled i)) ∙ settled-rails

  -- the block is as long as the list that it was written to
  pub block-long : {l : List ℤ} → l ≡ inverse_block p c → length l ≡ length r
  unfolding inverse_block
  block-long e = ap length e ∙ block-length w h (residual p c) ∙ mul_comm h w ∙ sym g.room

  -- ---- down the columns, by weights u and the block's rows z, zipped
  pub record Down (u z : List ℤ) : Type 0 where
    pub weights : (pairs : ℕ) → 2 * pairs ≡ rows → Laid h pairs 2 (2 * h) (λ i y. weight p.vertical h i y) u
    pub zipped : Laid columns (rows / 2) 2 (2 * columns) (λ i x. at c (x + i * w)) z

  -- the sums have room in r, and stand at its front
  sums-room : h * columns ≤ length r
  sums-room = omega (arith, g.room, mul_comm w h, mul-le-mul_left h g.live.narrow)

  abbrev pub First : List ℤ → Type 0
  First l = l ≡ sums ++ drop (h * columns) r

  -- what is settled of them, into the front of a room
  module _ {l : List ℤ} (first : First l) where
    pub first-long : length l ≡ w * h
    first-long =
        ap length first ∙ length-append sums (drop (h * columns) r)
        ∙ omega (arith, sums-long, length-drop (h * columns) r, sums-room, g.room)

    pub first-room : h * columns ≤ length l
    first-room = omega (arith, first-long, sums-room, g.room)

    pub first_part : take (h * columns - 0) l ≡ sums
    first_part = ap (take (h * columns - 0)) first ∙ part_same (h * columns) sums (drop (h * columns) r) sums-long

    pub settle-given : {room : ℕ} (z : List ℤ) → Room room p rows columns → length z ≡ room → room ≤ 2048
        → (length (take (h * columns - 0) l) ≡ length (take (h * columns - 0) z)) × (length (take (h * columns - 0) l) ≤ 2048)
    settle-given z fits long k =
        let e : length (take (h * columns - 0) l) ≡ h * columns = ap length first_part ∙ sums-long in
        (e ∙ sym (part-long (h * columns) z (omega (arith, fits.between))), omega (arith, fits.between))

  -- ---- along the rows, by middle values m at the front of z, and weights t; l is written over
  pub record Along (room : ℕ) (l m z t : List ℤ) (half : ℤ) (last : ℕ) : Type 0 where
    pub fits : Room room p rows columns
    pub first : First l
    pub settled : m ≡ middles
    pub long : length z ≡ room
    pub weights : (pairs : ℕ) → 2 * pairs ≡ columns → Laid w pairs 2 (2 * w) (λ i x. weight p.horizontal w i x) t
    pub rounding : (half ≡ pos (2 ^ (last - 1))) × Rounding half last
    pub shift : last ≡ p.last

-- ---- what the lines of either stage ask, and what they leave
module _ {p : Plan} {rows columns : ℕ} {c r : List ℤ} {g : GivenPlan p rows columns c r} where
  module _ {u z : List ℤ} (d : Down g u z) (pairs : ℕ) (e : 2 * pairs ≡ rows) where
    here : Laid columns pairs 2 (2 * columns) (λ i x. at c (x + i * p.width)) z
    here = laid-less (omega arith) (omega arith) (λ i j _ _. refl) d.zipped

    there : Laid p.height pairs 2 (2 * p.height) (λ i y. weight p.vertical p.height i y) u
    there = d.weights pairs e

    pub down-asks : Lines p.height columns pairs u 2 (2 * p.height) z (2 * columns) × (Rounding (pos 64) 7 × (p.height * columns ≤ length r))
    down-asks = (
      lines-given there here (omega (arith, g.paired-rows.some)) (omega (arith, g.paired-rows.few)) (λ i j l. inr (weight_most p.vertical p.height i l)),
      (record { small = omega arith; short = omega arith }, sums-room g),
    )

    pub down-leaves : {l : List ℤ} → l ≡ block columns p.height (λ x y. shifted (pos 64) 7 (line_sum u (2 * y) (2 * p.height) z (2 * columns) pairs x)) ++ drop (p.height * columns) r → First g l
    down-leaves q =
        q ∙ ap (λ (l : List ℤ). l ++ drop (p.height * columns) r)
        (lines_are there here (pos 64) 7
        ∙ block_cong columns p.height _ _ (λ x y k v. ap rounded (ap (λ (n : ℕ). sum n (λ i. weight p.vertical p.height i y *ℤ at c (x + i * p.width))) e
        ∙ column-is p (keeps g) c columns rows g.live g.kept x y (omega (arith, g.live.narrow)))))

  module _ {room : ℕ} {l m z t : List ℤ} {half : ℤ} {last : ℕ} (a : Along g room l m z t half last) where
    abbrev held : List ℤ
    held = m ++ drop (p.height * columns - 0) z

    m-long : length m ≡ p.height * columns
    m-long = ap length a.settled ∙ middles-long g

    pub held-long : room ≡ length held
    held-long = sym (length-append m (drop (p.height * columns - 0) z) ∙ omega (arith, m-long, length-drop (p.height * columns - 0) z, a.long, a.fits.between))

    abbrev middle_of : ℕ → ℕ → ℤ
    middle_of i y = mid p (keeps g) c columns rows g.live g.kept i y

    held_at : (i y : ℕ) → i < columns → y < p.height → at held (i + y * columns) ≡ middle_of i y
    held_at i y k v =
        get_or-append m (drop (p.height * columns - 0) z) (pos 0) (i + y * columns) (omega (arith, m-long, place_in {x = i} {y = y} {w = columns} {h = p.height} k v))
        ∙ ap (λ (l : List ℤ). at l (i + y * columns)) a.settled ∙ middle-at g i y k v

    module _ (pairs : ℕ) (e : 2 * pairs ≡ columns) where
      rows-laid : Laid p.height pairs columns 2 middle_of held
      rows-laid =
          laid-less {n = p.height} {pairs = pairs} (omega arith) (omega arith) (λ i y k v. held_at i y (omega arith) v)
          (block-laid (omega arith) (omega (arith, held-long, a.fits.between)))

      along-laid : Laid p.width pairs 2 (2 * p.width) (λ i x. weight p.horizontal p.width i x) t
      along-laid = a.weights pairs e

      pub along-asks : Lines p.height p.width pairs held columns 2 t (2 * p.width) × (Rounding (to_z w32 (of_z w32 half)) last × (p.height * p.width ≤ length l))
      along-asks = (
        lines-given rows-laid along-laid (omega (arith, g.paired-columns.some)) (omega (arith, g.paired-columns.few)) (λ i j l. inl (weight_most p.horizontal p.width i j)),
        (half-rounds a.rounding, omega (arith, first-long g a.first, mul_comm p.width p.height)),
      )

      -- the block: the list that it is written to has no more room
      pub along-leaves : {k : List ℤ} → k ≡ block p.width p.height (λ x y. shifted (to_z w32 (of_z w32 half)) last (line_sum held (columns * y) 2 t (2 * p.width) pairs x)) ++ drop (p.height * p.width) l
          → k ≡ inverse_block p c
      unfolding inverse_block residual
      along-leaves q =
          q ∙ all-written (p.height * p.width) _ l (omega (arith, first-long g a.first, mul_comm p.width p.height))
          ∙ lines_are rows-laid along-laid (to_z w32 (of_z w32 half)) last
          ∙ block_cong p.width p.height _ _ (λ x y k v. (λ i. shifted (half_is a.rounding i) last (sum (e i) (λ i. middle_of i y *ℤ weight p.horizontal p.width i x)))
          ∙ (λ i. nearest (a.shift i) ((sum-cong columns _ _ (λ i _. *ℤ_comm (middle_of i y) (weight p.horizontal p.width i x))
          ∙ row_is p (keeps g) c columns rows g.live g.kept x y) i)))

-- ---- all of the block
pub whole : {sh : Shape} {rows columns : ℕ} {c r : List ℤ} → GivenStages sh rows columns c r → GivenStages sh sh.height sh.width c r
whole {sh} g =
    record {
      block = g.block;
      size-rows = g.block.taken.height;
      size-columns = g.block.taken.width;
      live = record { narrow = omega arith; low = omega arith; right = λ x y l k. absurd (omega arith); below = λ x y k l v. absurd (omega arith) };
      kept = g.kept;
    }

-- room for the largest
pub all-rooms : {sh : Shape} {rows columns : ℕ} {c r : List ℤ} → GivenStages sh rows columns c r → Room 1024 (plan_of sh) rows columns
all-rooms {sh} {rows} {columns} g =
    let w = size_in sh.width g.block.taken.width in
    let h = size_in sh.height g.block.taken.height in
    let a : rows * sh.height ≤ 32 * 32 = mul-le-mul (size_in rows g.size-rows) h in
    let b : columns * sh.width ≤ 32 * 32 = mul-le-mul (size_in columns g.size-columns) w in
    let d : sh.height * columns ≤ 32 * 32 = mul-le-mul h (size_in columns g.size-columns) in
    record { down = a; along = b; between = d }
