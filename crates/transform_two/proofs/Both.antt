-- Both stages of a block with a side of 2 are those of its plan. Assumes nothing.
use native.Mathlib.Omega.{arith}
use mathlib.Core.Path.{◌≡◌, refl, sym, ap, ◌∙◌, subst}
use mathlib.Core.Bool.{Bool, true, false}
use mathlib.Core.Logic.{◌⊎◌, inl, inr}
use mathlib.Core.List.{List, ◌++◌}
use Prim.Native.Nat.{ℕ, ◌+◌, ◌*◌, ◌-◌, ◌/◌, ◌^◌, ◌≤◌, ◌<◌, min}
use native.Mathlib.Nat.{mul_comm, mul-le-mul, mul-le-mul_right}
use borrow.Author.Tests.{ltb-true, ltb-false, le-ltb}
use lib.Dec.{ltb}
use lib.IntN.{ℤ, pos, ◌*ℤ◌}
use lib.ListN.{length, take, drop, length-append, length-drop, get_or-append}
use lib.Seq.{get_or-take}
use native.Mathlib.Decide.{ℕ_discrete}
use mir.Syntax.{w16, w32}
use mir.Val.{SFits, to_z, of_z}
use Rattle.algebra.specs.Sum.{sum, sumℕ}
use Rattle.algebra.specs.Clip.{Range, clip}
use Rattle.algebra.specs.Shift.{nearest}
use Rattle.algebra.specs.Lists.{at, tabulate, block}
use Rattle.algebra.proofs.Sum.{sum-cong, sumℕ-cong, sumℕ-swap}
use Rattle.algebra.proofs.Lists.{block-ext, block_at, block-length, block_cong, tab-at, tab-length, place_in, part-long}
use Rattle.meaning.specs.Weights.{weight}
use Rattle.meaning.specs.Line.{inverse_sum}
use Rattle.meaning.specs.Shape.{has_line}
use Rattle.meaning.specs.Plan.{Plan, short_range}
use Rattle.meaning.specs.Inverse.{column_sum, rounded, middle_at, railed, count, rails, row_sum, residual, inverse_block}
use Rattle.meaning.proofs.Cases.{has-cases, le-or-lt}
use Rattle.kernel_steps.specs.Written.{WroteFrom}
use Rattle.product.specs.Product.{shifted, Rounding}
use Rattle.product.proofs.Laid.{half_is, half-rounds}
use Rattle.layout.proofs.Alive.{column-is, mid, middle-is, row_is, rails-are}
use Rattle.inverse_stage.specs.Given.{Paired, GivenPlan}
use Rattle.inverse_stage.specs.Settled.{rails_of}
use Rattle.inverse_stage.proofs.Blocks.{block-count}
use Rattle.inverse_stage.proofs.Work.{keeps, sums, sums-long, middles, middle-at, settled, counted}
use Rattle.narrowing.specs.Narrow.{GivenNarrow, Narrowed}
use Rattle.narrowing.proofs.Unread.{rails-same, block_same}
use Rattle.transform_pairs.specs.Pairs.{short_plan, GivenPairs, cleared_at, cleared_block}
use Rattle.transform_pairs.proofs.Whole.{short-range, read-in, read_right, read_below, block_read, part}
use Rattle.transform_line.specs.Lines.{lines_of, two_at, GivenRun, GivenTwoPoints}
use Rattle.transform_two.specs.Two.{GivenSides, GivenColumn, Crossed}

-- as many inputs of a line as are taken at most
pair_of : (n : ℕ) → 2 ≤ n → n ≤ 32 → 2 * (n / 2) ≡ n → Paired n
pair_of n some few even = record { some = some; few = few; even = even }

pub two : Paired 2
two = pair_of 2 (omega arith) (omega arith) refl

four : Paired 4
four = pair_of 4 (omega arith) (omega arith) refl

eight : Paired 8
eight = pair_of 8 (omega arith) (omega arith) refl

sixteen : Paired 16
sixteen = pair_of 16 (omega arith) (omega arith) refl

thirty_two : Paired 32
thirty_two = pair_of 32 (omega arith) (omega arith) refl

pub paired : (kind n : ℕ) → has_line kind n ≡ true → Paired (min n 32)
paired = has-cases (λ kind n. Paired (min n 32)) four eight sixteen thirty_two four eight sixteen thirty_two two four eight sixteen thirty_two thirty_two

-- ---- what is read of a plan, as far as its lines take it
module _ (p : Plan) (short : p.range ≡ short_range) (c : List ℤ) (g : GivenSides p c) (wide high : ℕ) (C : Paired wide) (R : Paired high)
    (narrow : wide ≤ p.width) (low : high ≤ p.height) (columns : p.columns ≤ wide) (rows : p.rows ≤ high) where
  abbrev pub read : List ℤ
  read = cleared_block p c

  pub plan : GivenPlan p high wide read c
  plan =
      record {
        short = short;
        paired-rows = R;
        paired-columns = C;
        room = g.pairs.long;
        live = part p c wide high narrow low columns rows;
        kept = part p c p.columns p.rows g.pairs.sized.columns g.pairs.sized.rows (omega arith) (omega arith);
      }

  pub same : (x y : ℕ) → x < p.columns → y < p.rows → at read (x + y * p.width) ≡ at c (x + y * p.width)
  same x y a b = block_read p c x y (omega (arith, g.pairs.sized.columns)) (omega (arith, g.pairs.sized.rows)) ∙ read-in p c x y a b

  pub rails-back : rails p read ≡ rails p c
  rails-back = rails-same p read c same

  pub block_back : inverse_block p read ≡ inverse_block p c
  block_back = block_same p read c same

  abbrev pub middle_of : ℕ → ℕ → ℤ
  middle_of i y = mid p (keeps plan) read wide high plan.live plan.kept i y

  -- a place of a room of what is read
  pub narrowed_at : {s : List ℤ} → Narrowed 64 c p.width p.columns p.rows wide s → (x i : ℕ) → x < wide → i < high → at s (x + i * wide) ≡ at read (x + i * p.width)
  narrowed_at {s} n x i l k = each (ltb x p.columns) refl (ltb i p.rows) refl
    where
      there : at read (x + i * p.width) ≡ cleared_at p c x i
      there = block_read p c x i (omega (arith, narrow)) (omega (arith, low))

      each : (a : Bool) → ltb x p.columns ≡ a → (b : Bool) → ltb i p.rows ≡ b → at s (x + i * wide) ≡ at read (x + i * p.width)
      each true e true f = n.inside x i (ltb-true x p.columns e) (ltb-true i p.rows f) ∙ sym (there ∙ read-in p c x i (ltb-true x p.columns e) (ltb-true i p.rows f))
      each true e false f =
          let o : p.rows ≤ i = ltb-false i p.rows f in
          n.below (x + i * wide) (omega (arith, mul-le-mul_right wide o)) ∙ sym (there ∙ read_below p c x i o)
      each false e b f = n.right x i (ltb-false x p.columns e) l ∙ sym (there ∙ read_right p c x i (ltb-false x p.columns e))

  -- a column that is not kept
  pub none_kept : (i y : ℕ) → p.columns ≤ i → middle_at p read i y ≡ pos 0
  unfolding middle_at
  none_kept i y h = rw (le-ltb i p.columns h) refl

  pub middle-of : (i y : ℕ) → i < wide → middle_of i y ≡ middle_at p read i y
  middle-of i y h = middle-is p (keeps plan) read wide high plan.live plan.kept i y (omega (arith, narrow))

-- ---- two rows: columns of two points, then lines along them
module _ (w horizontal columns rows last : ℕ) (c : List ℤ) (g : GivenSides (short_plan w 2 horizontal 0 columns rows last) c) (step : ℕ) (C : Paired step) (narrow : step ≤ w) (within : columns ≤ step) where
  abbrev pub p : Plan
  p = short_plan w 2 horizontal 0 columns rows last

  pub few-rows : rows ≤ 2
  few-rows = g.pairs.sized.rows

  abbrev pub laid : GivenPlan p 2 step (cleared_block p c) c
  laid = plan p short-range c g step 2 C two narrow (omega arith) within few-rows

  pub narrow-given : {room : List ℤ} → length room ≡ 64 → ((k : ℕ) → at room k ≡ pos 0) → GivenNarrow c w columns rows step room
  narrow-given long clear =
      let tile : rows * step ≤ 2 * 32 = mul-le-mul few-rows C.few in
      record {
        few = within;
        within = narrow;
        there = omega (arith, g.pairs.long, mul-le-mul_right w few-rows);
        low = omega (arith, tile, long);
        clear = clear;
        fits = g.pairs.fits;
      }

  -- the sums that are settled
  pub cross-sums : {e : List ℤ} (s : List ℤ) → Narrowed 64 c w columns rows step s → Crossed step step s e → take (2 * step - 0) e ≡ sums laid
  unfolding inverse_sum
  cross-sums {e} s n r =
      block-ext step 2 (λ x y. rounded (column_sum p (cleared_block p c) x y)) (take (2 * step - 0) e) (part-long (2 * step) e (omega (arith, r.long, C.few)))
      (λ x y h l. get_or-take (2 * step - 0) e (x + y * step) (pos 0) (omega (arith, place_in {x = x} {y = y} {w = step} {h = 2} h l))
      ∙ r.done x y h l
      ∙ ap rounded (sum-cong 2 _ _ (λ i k. ap (λ (z : ℤ). weight 0 2 i y *ℤ z) (narrowed_at p short-range c g step 2 C two narrow (omega arith) within few-rows n x i h k))
      ∙ column-is p (keeps laid) (cleared_block p c) step 2 laid.live laid.kept x y (omega (arith, narrow))))

  module _ {l m : List ℤ} {r : ℕ} (s : List ℤ) (e : l ≡ sums laid) (q : (m ≡ tabulate (length l) (λ k. clip short_range (at l k))) × (r ≡ rails_of (length l) l m)) (long : length s ≡ 64) where
    abbrev pub held : List ℤ
    held = m ++ drop (2 * step - 0) s

    pub cross-rails : r ≡ rails p c
    cross-rails = counted laid e q ∙ rails-back p short-range c g step 2 C two narrow (omega arith) within few-rows

    pub m-long : length m ≡ 2 * step
    m-long = ap length (settled laid e q) ∙ tab-length _ _ ∙ sums-long laid

    pub held-long : length held ≡ 64
    held-long = length-append m (drop (2 * step - 0) s) ∙ omega (arith, m-long, length-drop (2 * step - 0) s, long, C.few)

    pub held_at : (i y : ℕ) → i < step → y < 2 → at held (i + y * step) ≡ middle_of p short-range c g step 2 C two narrow (omega arith) within few-rows i y
    held_at i y k v =
        get_or-append m (drop (2 * step - 0) s) (pos 0) (i + y * step) (omega (arith, m-long, place_in {x = i} {y = y} {w = step} {h = 2} k v))
        ∙ ap (λ (l : List ℤ). at l (i + y * step)) (settled laid e q) ∙ middle-at laid i y k v

    module _ {half : ℤ} (d : (half ≡ pos (2 ^ (last - 1))) × Rounding half last) (more : 2 < w) (all : step ≡ min w 32) where
      pub there : (i y : ℕ) → i < step → y < 2 → at held (step * y + i) ≡ middle_at p (cleared_block p c) i y
      there i y k v =
          ap (at held) (omega (arith, mul_comm step y)) ∙ held_at i y k v
          ∙ middle-of p short-range c g step 2 C two narrow (omega arith) within few-rows i y k

      pub lying-given : GivenRun horizontal w (length c / 2) columns 2 step (to_z w32 (of_z w32 half)) last held c
      lying-given =
          record {
            given = record { same = omega (arith, g.pairs.long); few = omega arith; near = C.few; held = held-long; rounding = half-rounds d; room = omega (arith, g.pairs.long) };
            line = g.pairs.sized.along;
            more = more;
            kept = g.along;
            clear = λ i l h k v. there i l (omega (arith, all, k)) v ∙ none_kept p short-range c g step 2 C two narrow (omega arith) within few-rows i l h;
          }

      pub lying-done : {o : List ℤ} → o ≡ lines_of horizontal w columns 2 step (to_z w32 (of_z w32 half)) last held → o ≡ inverse_block p c
      unfolding inverse_block residual row_sum inverse_sum
      lying-done t =
          t
          ∙ block_cong w 2 _ (residual p (cleared_block p c)) (λ x y k v. (λ i. shifted (half_is d i) last
          (sum-cong columns (λ i. weight horizontal w i x *ℤ at held (step * y + i)) (λ i. weight horizontal w i x *ℤ middle_at p (cleared_block p c) i y)
          (λ i h. ap (λ (z : ℤ). weight horizontal w i x *ℤ z) (there i y (omega (arith, within)) v)) i)))
          ∙ block_back p short-range c g step 2 C two narrow (omega arith) within few-rows

-- ---- two columns: rows of two points behind any first stage
module _ (h vertical columns rows last : ℕ) (c : List ℤ) (g : GivenSides (short_plan 2 h 0 vertical columns rows last) c) (step : ℕ) (R : Paired step) (low : step ≤ h) (within : rows ≤ step) where
  abbrev pub q : Plan
  q = short_plan 2 h 0 vertical columns rows last

  pub few-columns : columns ≤ 2
  few-columns = g.pairs.sized.columns

  abbrev pub standing : GivenPlan q step 2 (cleared_block q c) c
  standing = plan q short-range c g 2 step two R (omega arith) low few-columns within

  pub rows-done : {half : ℤ} {o : List ℤ} (z : List ℤ) (far apart : ℕ) → (half ≡ pos (2 ^ (last - 1))) × Rounding half last
      → ((i y : ℕ) → i < 2 → y < h → at z (y * far + i * apart) ≡ middle_of q short-range c g 2 step two R (omega arith) low few-columns within i y)
      → o ≡ block 2 h (two_at z far apart (to_z w32 (of_z w32 half)) last) → o ≡ inverse_block q c
  unfolding inverse_block residual inverse_sum
  rows-done {half} z far apart d are t =
      t
      ∙ block_cong 2 h _ (residual q (cleared_block q c)) (λ x y k v. (λ i. shifted (half_is d i) last
      ((sum-cong 2 (λ i. weight 0 2 i x *ℤ at z (y * far + i * apart)) (λ i. weight 0 2 i x *ℤ middle_of q short-range c g 2 step two R (omega arith) low few-columns within i y)
      (λ i h. ap (λ (z : ℤ). weight 0 2 i x *ℤ z) (are i y h v))
      ∙ row_is q (keeps standing) (cleared_block q c) 2 step standing.live standing.kept x y) i)))
      ∙ block_back q short-range c g 2 step two R (omega arith) low few-columns within

  -- ---- the two columns, one behind the other
  pub column-given : (x : ℕ) → x < columns → {s : List ℤ} (o : ℕ) → o ≤ 32 → length s ≡ 64 → GivenColumn x rows o c s
  column-given x l o near room =
      record {
        there = λ y h. omega (arith, g.pairs.long, few-columns, g.pairs.sized.rows);
        fits = λ y h. let here : x + y * 2 ≡ 2 * y + x = omega arith in subst (λ (k : ℕ). SFits w16 (at c k)) here (g.pairs.fits x y l h);
        low = g.pairs.rows;
        near = near;
        room = room;
      }

  there-read : (x i : ℕ) → x < columns → i < rows → at c (2 * i + x) ≡ at (cleared_block q c) (x + i * 2)
  there-read x i h k =
      let here : 2 * i + x ≡ x + i * 2 = omega arith in
      ap (at c) here ∙ sym (block_read q c x i (omega (arith, few-columns)) (omega (arith, g.pairs.sized.rows)) ∙ read-in q c x i h k)

  below-read : (x i : ℕ) → x < 2 → rows ≤ i → i < step → pos 0 ≡ at (cleared_block q c) (x + i * 2)
  below-read x i h k l = sym (block_read q c x i h (omega (arith, low)) ∙ read_below q c x i k)

  module _ {s₀ s₁ : List ℤ} (zeros : (k : ℕ) → at s₀ k ≡ pos 0) (one : WroteFrom 0 rows s₁ s₀ (λ y. at c (2 * y + 0))) where
    first-stood : (i : ℕ) → i < step → at s₁ i ≡ at (cleared_block q c) (0 + i * 2)
    first-stood i l = each (le-or-lt rows i)
      where
        each : (rows ≤ i) ⊎ (i < rows) → at s₁ i ≡ at (cleared_block q c) (0 + i * 2)
        each (inl k) = one.after i (omega arith) ∙ zeros i ∙ below-read 0 i (omega arith) k l
        each (inr k) = ap (at s₁) (omega arith) ∙ one.done i k ∙ there-read 0 i g.some k

    second_none : (i : ℕ) → (columns ≡ 2 → ⊥) → i < step → at s₁ (step + i) ≡ at (cleared_block q c) (1 + i * 2)
    second_none i n l =
        one.after (step + i) (omega (arith, within)) ∙ zeros (step + i)
        ∙ sym (block_read q c 1 i (omega arith) (omega (arith, low)) ∙ read_right q c 1 i (omega (arith, n, few-columns, g.some)))

    second-stood : {s : List ℤ} → columns ≡ 2 → WroteFrom step rows s s₁ (λ y. at c (2 * y + 1)) → (i : ℕ) → i < step → at s (step + i) ≡ at (cleared_block q c) (1 + i * 2)
    second-stood {s} e w i l = each (le-or-lt rows i)
      where
        each : (rows ≤ i) ⊎ (i < rows) → at s (step + i) ≡ at (cleared_block q c) (1 + i * 2)
        each (inl k) = w.after (step + i) (omega arith) ∙ one.after (step + i) (omega arith) ∙ zeros (step + i) ∙ below-read 1 i (omega arith) k l
        each (inr k) = w.done i k ∙ there-read 1 i (omega (arith, e)) k

    -- one column, or both
    by-column : (s : List ℤ) → ((i : ℕ) → i < step → at s i ≡ at (cleared_block q c) (0 + i * 2)) → ((i : ℕ) → i < step → at s (step + i) ≡ at (cleared_block q c) (1 + i * 2))
        → (x i : ℕ) → x < 2 → i < step → at s (step * x + i) ≡ at (cleared_block q c) (x + i * 2)
    by-column s f t x i h l = each (ℕ_discrete x 0)
      where
        each : Dec (x ≡ 0) → at s (step * x + i) ≡ at (cleared_block q c) (x + i * 2)
        each (yes e) = ap (λ (x : ℕ). at s (step * x + i)) e ∙ ap (at s) (omega arith) ∙ f i l ∙ ap (λ (x : ℕ). at (cleared_block q c) (x + i * 2)) (sym e)
        each (no n) =
            let e : x ≡ 1 = omega (arith, n) in
            ap (λ (x : ℕ). at s (step * x + i)) e ∙ ap (at s) (omega arith) ∙ t i l ∙ ap (λ (x : ℕ). at (cleared_block q c) (x + i * 2)) (sym e)

    pub stood-one : (columns ≡ 2 → ⊥) → (x i : ℕ) → x < 2 → i < step → at s₁ (step * x + i) ≡ at (cleared_block q c) (x + i * 2)
    stood-one n = by-column s₁ first-stood (λ i l. second_none i n l)

    pub stood-both : {s : List ℤ} → columns ≡ 2 → WroteFrom step rows s s₁ (λ y. at c (2 * y + 1)) → (x i : ℕ) → x < 2 → i < step → at s (step * x + i) ≡ at (cleared_block q c) (x + i * 2)
    stood-both {s} e w = by-column s (λ i l. w.before i l ∙ first-stood i l) (second-stood e w)

  pub upright-given : (s : List ℤ) → 2 < h → step ≡ min h 32 → length s ≡ 64 → ((x i : ℕ) → x < 2 → i < step → at s (step * x + i) ≡ at (cleared_block q c) (x + i * 2)) → GivenRun vertical h (length c / 2) rows 2 step (pos 64) 7 s c
  upright-given s more all long stood =
      record {
        given = record { same = omega (arith, g.pairs.long); few = omega arith; near = R.few; held = long; rounding = record { small = omega arith; short = omega arith }; room = omega (arith, g.pairs.long) };
        line = g.pairs.sized.down;
        more = more;
        kept = g.down;
        clear = λ i l k j v. let here : i < step = omega (arith, all, j) in stood l i v here ∙ sym (below-read l i v k here);
      }

  -- ---- .. behind lines down the columns, one after the other
  abbrev pub flipped : List ℤ
  flipped = block h 2 (λ y x. rounded (column_sum q (cleared_block q c) x y))

  pub lines-sums : {l : List ℤ} (s : List ℤ) → ((x i : ℕ) → x < 2 → i < rows → at s (step * x + i) ≡ at (cleared_block q c) (x + i * 2)) → l ≡ lines_of vertical h rows 2 step (pos 64) 7 s → l ≡ flipped
  unfolding column_sum inverse_sum
  lines-sums s at-s t =
      t ∙ block_cong h 2 _ _ (λ y x k v. ap rounded (sum-cong rows _ _ (λ i j. ap (λ (z : ℤ). weight vertical h i y *ℤ z) (at-s x i v j))))

  module _ {l m : List ℤ} {r : ℕ} (z : List ℤ) (e : l ≡ flipped) (s : (m ≡ tabulate (length l) (λ k. clip short_range (at l k))) × (r ≡ rails_of (length l) l m)) (long : length z ≡ 128) (all : ℕ) (here : all ≡ 2 * h) where
    pub l-long : length l ≡ 2 * h
    l-long = ap length e ∙ block-length h 2 _

    pub m-is : m ≡ tabulate (length flipped) (λ k. clip short_range (at flipped k))
    m-is = s.0 ∙ ap (λ (l : List ℤ). tabulate (length l) (λ k. clip short_range (at l k))) e

    pub lines-rails : r ≡ rails q c
    unfolding rails_of
    lines-rails =
        s.1 ∙ (λ i. rails_of (length (e i)) (e i) (m-is i))
        ∙ sumℕ-cong (length flipped) _ _ (λ k j. ap (λ (z : ℤ). count (railed (at flipped k) z)) (tab-at (length flipped) (λ k. clip short_range (at flipped k)) k j))
        ∙ block-count h 2 (λ y x. rounded (column_sum q (cleared_block q c) x y)) (λ z. count (railed z (clip short_range z)))
        ∙ ap (λ (r : Range). sumℕ 2 (λ x. sumℕ h (λ y. count (railed (rounded (column_sum q (cleared_block q c) x y)) (clip r (rounded (column_sum q (cleared_block q c) x y))))))) (sym short-range)
        ∙ sumℕ-swap 2 h _
        ∙ rails-are q (keeps standing) (cleared_block q c) 2 step standing.live standing.kept
        ∙ rails-back q short-range c g 2 step two R (omega arith) low few-columns within

    pub made-long : length m ≡ 2 * h
    made-long = ap length s.0 ∙ tab-length _ _ ∙ l-long

    pub behind-long : h ≤ 64 → length (m ++ drop all z) ≡ 128
    behind-long most = length-append m (drop all z) ∙ omega (arith, made-long, length-drop all z, long)

    pub behind-at : (i y : ℕ) → i < 2 → y < h → at (m ++ drop all z) (y * 1 + i * h) ≡ middle_of q short-range c g 2 step two R (omega arith) low few-columns within i y
    behind-at i y k v =
        let inside = place_in {x = y} {y = i} {w = h} {h = 2} v k in
        ap (at (m ++ drop all z)) (omega arith)
        ∙ get_or-append m (drop all z) (pos 0) (y + i * h) (omega (arith, made-long, inside))
        ∙ ap (λ (l : List ℤ). at l (y + i * h)) m-is
        ∙ tab-at (length flipped) (λ k. clip short_range (at flipped k)) (y + i * h) (omega (arith, block-length h 2 (λ y x. rounded (column_sum q (cleared_block q c) x y)), inside))
        ∙ ap (clip short_range) (block_at h 2 (λ y x. rounded (column_sum q (cleared_block q c) x y)) y i v k)
        ∙ ap (λ (r : Range). clip r (rounded (column_sum q (cleared_block q c) i y))) (sym short-range)

-- the block is as long as the numbers that it was written over
pub block-long : (w h horizontal vertical columns rows last : ℕ) (c : List ℤ) → GivenSides (short_plan w h horizontal vertical columns rows last) c → {o : List ℤ}
    → o ≡ inverse_block (short_plan w h horizontal vertical columns rows last) c → length o ≡ length c
unfolding inverse_block
block-long w h horizontal vertical columns rows last c g e = ap length e ∙ block-length w h _ ∙ mul_comm h w ∙ sym g.pairs.long
