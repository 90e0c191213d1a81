-- Both stages by pairs are those of the plan: what they are given, and that what is not read counts as 0. Assumes nothing.
use native.Mathlib.Omega.{arith}
use mathlib.Core.Path.{◌≡◌, refl, sym, ap, ◌∙◌, subst}
use mathlib.Core.Bool.{Bool, true, false, cond, ◌&&◌}
use mathlib.Core.List.{List}
use Prim.Native.Nat.{ℕ, ◌+◌, ◌*◌, ◌/◌, ◌≤◌, ◌<◌}
use native.Mathlib.Nat.{mul_assoc, mul_comm, mul-le-mul, mul-le-mul_right}
use borrow.Author.Tests.{ltb-true, ltb-false, lt-ltb, le-ltb}
use lib.Dec.{ltb}
use lib.IntN.{ℤ, pos}
use lib.ListN.{length}
use Rattle.algebra.specs.Lists.{at, block}
use Rattle.algebra.proofs.Lists.{block_at, block-length}
use Rattle.meaning.specs.Weights.{weight}
use Rattle.meaning.specs.Shape.{has_line}
use Rattle.meaning.specs.Plan.{Plan, range_of, short_range}
use Rattle.meaning.specs.Inverse.{rails, inverse_block}
use Rattle.meaning.proofs.Cases.{line-in}
use Rattle.product.specs.Product.{Laid}
use Rattle.product.proofs.Laid.{laid-less}
use Rattle.layout.specs.Part.{Part}
use Rattle.layout.specs.Zip.{Rows}
use Rattle.inverse_stage.specs.Given.{Paired, GivenPlan, Room}
use Rattle.narrowing.specs.Narrow.{GivenNarrow, Narrowed}
use Rattle.narrowing.proofs.Unread.{rails-same, block_same}
use Rattle.transform_stages.specs.Work.{LineWeights}
use Rattle.transform_pairs.specs.Pairs.{short_plan, GivenPairs, pairs_of, cleared_at, cleared_block}
use Rattle.transform_pairs.proofs.Pairing.{within, paired, few-pairs, some_pairs, in-side}

pub short-range : range_of 15 ≡ short_range
unfolding short_range
short-range = refl

-- ---- what is read of a plan
module _ (p : Plan) (c : List ℤ) where
  pub read-in : (x y : ℕ) → x < p.columns → y < p.rows → cleared_at p c x y ≡ at c (x + y * p.width)
  unfolding cleared_at
  read-in x y h l = rw (lt-ltb x p.columns h, lt-ltb y p.rows l) refl

  pub read_right : (x y : ℕ) → p.columns ≤ x → cleared_at p c x y ≡ pos 0
  unfolding cleared_at
  read_right x y h = rw (le-ltb x p.columns h) refl

  pub read_below : (x y : ℕ) → p.rows ≤ y → cleared_at p c x y ≡ pos 0
  unfolding cleared_at
  read_below x y h = either (ltb x p.columns)
    where
      either : (b : Bool) → cond (b && ltb y p.rows) (at c (x + y * p.width)) (pos 0) ≡ pos 0
      either true = rw (le-ltb y p.rows h) refl
      either false = refl

  pub block_read : (x y : ℕ) → x < p.width → y < p.height → at (cleared_block p c) (x + y * p.width) ≡ cleared_at p c x y
  unfolding cleared_block
  block_read x y h l = block_at p.width p.height (cleared_at p c) x y h l

  -- outside of at least as many columns and rows it is 0
  pub part : (columns rows : ℕ) → columns ≤ p.width → rows ≤ p.height → p.columns ≤ columns → p.rows ≤ rows → Part p.width p.height columns rows (cleared_block p c)
  part columns rows narrow low wide high =
      record {
        narrow = narrow;
        low = low;
        right = λ x y h l g. block_read x y l g ∙ read_right x y (omega arith);
        below = λ x y l h g. block_read x y l g ∙ read_below x y (omega arith);
      }

module _ (w h horizontal vertical columns rows last : ℕ) (c : List ℤ) (g : GivenPairs (short_plan w h horizontal vertical columns rows last) c)
    (high wide : ℕ) (down : high ≡ pairs_of rows) (along : wide ≡ pairs_of columns) where
  abbrev pub p : Plan
  p = short_plan w h horizontal vertical columns rows last

  abbrev pub read : List ℤ
  read = cleared_block p c

  pub tall-in : 2 * high ≤ h
  tall-in = omega (arith, down, in-side vertical h rows g.sized.down g.sized.rows g.rows)

  pub broad-in : 2 * wide ≤ w
  broad-in = omega (arith, along, in-side horizontal w columns g.sized.along g.sized.columns g.columns)

  pub tall-few : (1 ≤ high) × (high ≤ 16)
  tall-few = (omega (arith, down, some_pairs rows g.rows), omega (arith, down, few-pairs rows g.rows))

  pub broad-few : (1 ≤ wide) × (wide ≤ 16)
  broad-few = (omega (arith, along, some_pairs columns g.columns), omega (arith, along, few-pairs columns g.columns))

  tall-most : 2 * high ≤ 32
  tall-most = omega (arith, tall-few)

  broad-most : 2 * wide ≤ 32
  broad-most = omega (arith, broad-few)

  rows_in : rows ≤ 2 * high
  rows_in = omega (arith, down, within rows g.rows)

  columns-in : columns ≤ 2 * wide
  columns-in = omega (arith, along, within columns g.columns)

  pub width-in : w ≤ 64
  width-in = line-in horizontal w g.sized.along

  pub height-in : h ≤ 64
  height-in = line-in vertical h g.sized.down

  pub given : GivenPlan p (2 * high) (2 * wide) read c
  given =
      record {
        short = short-range;
        paired-rows = record { some = omega (arith, tall-few); few = omega (arith, tall-few); even = omega arith };
        paired-columns = record { some = omega (arith, broad-few); few = omega (arith, broad-few); even = omega arith };
        room = g.long;
        live = part p c (2 * wide) (2 * high) broad-in tall-in columns-in rows_in;
        kept = part p c columns rows g.sized.columns g.sized.rows (omega arith) (omega arith);
      }

  pub rooms : Room 2048 p (2 * high) (2 * wide)
  rooms =
      let a : 2 * high * h ≤ 32 * 64 = mul-le-mul tall-most height-in in
      let b : 2 * wide * w ≤ 32 * 64 = mul-le-mul broad-most width-in in
      let d : h * (2 * wide) ≤ 64 * 32 = mul-le-mul height-in broad-most in
      record { down = a; along = b; between = d }

  pub small-rooms : w ≤ 16 → h ≤ 16 → Room 256 p (2 * high) (2 * wide)
  small-rooms k l =
      let t : 2 * high ≤ 16 = omega (arith, tall-in) in
      let u : 2 * wide ≤ 16 = omega (arith, broad-in) in
      let a : 2 * high * h ≤ 16 * 16 = mul-le-mul t l in
      let b : 2 * wide * w ≤ 16 * 16 = mul-le-mul u k in
      let d : h * (2 * wide) ≤ 16 * 16 = mul-le-mul l u in
      record { down = a; along = b; between = d }

  -- ---- what is read, narrowed and zipped, in rooms of so many numbers
  pub record Tiled (size : ℕ) : Type 0 where
    pub narrow : rows * (2 * wide) ≤ size
    pub tile : 2 * high * (2 * wide) ≤ size

  pub tiled : Tiled 1024
  tiled =
      let a : rows * (2 * wide) ≤ 32 * 32 = mul-le-mul g.rows broad-most in
      let b : 2 * high * (2 * wide) ≤ 32 * 32 = mul-le-mul tall-most broad-most in
      record { narrow = a; tile = b }

  pub small-tiled : w ≤ 16 → h ≤ 16 → Tiled 256
  small-tiled k l =
      let t : 2 * high ≤ 16 = omega (arith, tall-in) in
      let r : rows ≤ 16 = omega (arith, rows_in, tall-in) in
      let u : 2 * wide ≤ 16 = omega (arith, broad-in) in
      let a : rows * (2 * wide) ≤ 16 * 16 = mul-le-mul r u in
      let b : 2 * high * (2 * wide) ≤ 16 * 16 = mul-le-mul t u in
      record { narrow = a; tile = b }

  pub narrow-given : {size : ℕ} {room : List ℤ} → Tiled size → length room ≡ size → ((k : ℕ) → at room k ≡ pos 0) → GivenNarrow c w columns rows (2 * wide) room
  narrow-given t long clear =
      record {
        few = columns-in;
        within = broad-in;
        there = omega (arith, g.long, mul_comm w h, mul-le-mul_right w g.sized.rows);
        low = omega (arith, long, t.narrow);
        clear = clear;
        fits = g.fits;
      }

  pub zip-given : {size room : ℕ} {s z : List ℤ} → Tiled size → size ≤ room → length s ≡ size → length z ≡ room → Rows high (2 * wide) (2 * wide) s z
  zip-given t more long room =
      let e : high * (2 * (2 * wide)) ≡ 2 * high * (2 * wide) = sym (mul_assoc high 2 (2 * wide)) ∙ ap (λ (k : ℕ). k * (2 * wide)) (mul_comm high 2) in
      record { some = tall-few.0; wide = omega (arith, broad-few); narrow = omega arith; there = omega (arith, long, t.tile); room = omega (arith, room, t.tile, e) }

  -- a place of the room holds what is read
  held : {size : ℕ} {s : List ℤ} → Narrowed size c w columns rows (2 * wide) s → (i x : ℕ) → x < 2 * wide → i < 2 * high → at s (x + i * (2 * wide)) ≡ at read (x + i * w)
  held {size} {s} n i x l k = each (ltb x columns) refl (ltb i rows) refl
    where
      there : at read (x + i * w) ≡ cleared_at p c x i
      there = block_read p c x i (omega (arith, broad-in)) (omega (arith, tall-in))

      each : (a : Bool) → ltb x columns ≡ a → (b : Bool) → ltb i rows ≡ b → at s (x + i * (2 * wide)) ≡ at read (x + i * w)
      each true e true f = n.inside x i (ltb-true x columns e) (ltb-true i rows f) ∙ sym (there ∙ read-in p c x i (ltb-true x columns e) (ltb-true i rows f))
      each true e false f =
          let o : rows ≤ i = ltb-false i rows f in
          n.below (x + i * (2 * wide)) (omega (arith, mul-le-mul_right (2 * wide) o)) ∙ sym (there ∙ read_below p c x i o)
      each false e b f = n.right x i (ltb-false x columns e) l ∙ sym (there ∙ read_right p c x i (ltb-false x columns e))

  pub zipped : {size : ℕ} {s z : List ℤ} → Narrowed size c w columns rows (2 * wide) s → Laid (2 * wide) high 2 (2 * (2 * wide)) (λ i x. at s (x + i * (2 * wide))) z
      → Laid (2 * wide) (2 * high / 2) 2 (2 * (2 * wide)) (λ i x. at read (x + i * w)) z
  zipped n z = laid-less (omega arith) (omega arith) (λ i x k l. held n i x l (omega arith)) z

  -- ---- the weights, of as many inputs as are taken
  pub down-weights : {t : List ℤ} → LineWeights vertical h t → (pairs : ℕ) → 2 * pairs ≡ 2 * high → Laid h pairs 2 (2 * h) (λ i y. weight vertical h i y) t
  down-weights u pairs e = u pairs (omega (arith, tall-in, tall-few))

  pub along-weights : {t : List ℤ} → LineWeights horizontal w t → (pairs : ℕ) → 2 * pairs ≡ 2 * wide → Laid w pairs 2 (2 * w) (λ i x. weight horizontal w i x) t
  along-weights u pairs e = u pairs (omega (arith, broad-in, broad-few))

  -- ---- what is not read does not matter
  same : (x y : ℕ) → x < columns → y < rows → at read (x + y * w) ≡ at c (x + y * w)
  same x y a b = block_read p c x y (omega (arith, g.sized.columns)) (omega (arith, g.sized.rows)) ∙ read-in p c x y a b

  pub rails-read : rails p read ≡ rails p c
  rails-read = rails-same p read c same

  pub block-is : inverse_block p read ≡ inverse_block p c
  block-is = block_same p read c same
