-- Blocks of document 01: numbers that were narrowed stand as they were, all else is 0, and its call and its stages give the block.
-- Assumes nothing.
use native.Mathlib.Omega.{arith}
use mathlib.Core.Path.{◌≡◌, refl, sym, ap, ◌∙◌, subst}
use mathlib.Core.Bool.{Bool, true, true≢false}
use mathlib.Core.List.{List}
use Prim.Native.Nat.{ℕ, ◌+◌, ◌*◌, ◌-◌, ◌≤◌, ◌<◌}
use native.Mathlib.Nat.{mul_comm, mul-le-mul, mul-le-mul_right, lt_of_lt_of_le}
use borrow.Author.Tests.{le-ltb}
use lib.IntN.{ℤ, pos}
use lib.ListN.{length, take}
use lib.Seq.{get_or-take, length-take-le}
use Rattle.algebra.specs.Lists.{at, block}
use Rattle.algebra.proofs.Lists.{place_in}
use Rattle.meaning.specs.declared.Shape.{Shape}
use Rattle.meaning.specs.Shape.{is_size, is_depth}
use Rattle.meaning.specs.Plan.{plan_of}
use Rattle.meaning.specs.Taken.{Taken}
use Rattle.meaning.specs.Answer.{accepted}
use Rattle.meaning.specs.Inverse.{first_outside, rails, inverse_block, inverse_outcome}
use Rattle.meaning.proofs.AcceptedCalls.{inverse-done}
use Rattle.meaning.proofs.Cases.{size-cases, size-some, size_in}
use Rattle.meaning.proofs.KeptPart.{columns-kept, rows-kept}
use Rattle.layout.proofs.Inside.{none-outside}
use Rattle.inverse_stage.specs.Given.{GivenStages}
use Rattle.dct2_block.specs.Stages.{middle_of, residual_by, Inner}
use Rattle.dct2_block.proofs.Block.{worked-block, worked-rails}
use Rattle.narrowing.specs.Narrow.{GivenNarrow, Narrowed}
use Rattle.narrowing.proofs.Unread.{rails-same, block_same}
use Rattle.transform_short.specs.Short.{dct2_shape, GivenRead, GivenQuick, GivenStaged, Quick}

-- what `clip_read` takes
pub to-clip : (sh : Shape) (c : List ℤ) → Taken sh → length c ≡ sh.width * sh.height → (room : List ℤ) → length c ≤ length room → ((k : ℕ) → at room k ≡ pos 0)
    → (sh.columns ≤ sh.width) × ((sh.rows * sh.width ≤ length c) × ((sh.rows * sh.width ≤ length room) × ((k : ℕ) → at room k ≡ pos 0)))
to-clip sh c t long room enough zeros =
    let low : sh.rows * sh.width ≤ length c = omega (arith, mul-le-mul_right sh.width (rows-kept sh t).within, long, mul_comm sh.width sh.height) in
    ((columns-kept sh t).within, (low, (omega (arith, low, enough), zeros)))

module _ (sh : Shape) (c : List ℤ) (g : GivenRead sh c) where
  turned : length c ≡ sh.height * sh.width
  turned = g.long ∙ mul_comm sh.width sh.height

  -- the largest room has enough for all
  pub few : length c ≤ 1024
  few = omega (arith, turned, mul-le-mul (size_in sh.height g.taken.height) (size_in sh.width g.taken.width))

  -- what `narrow` takes
  pub given-rows : (room : List ℤ) → length c ≤ length room → ((k : ℕ) → at room k ≡ pos 0) → GivenNarrow c sh.width sh.columns sh.rows sh.width room
  given-rows room enough zeros =
      let low : sh.rows * sh.width ≤ length c = omega (arith, mul-le-mul_right sh.width (rows-kept sh g.taken).within, turned) in
      record { few = (columns-kept sh g.taken).within; within = omega arith; there = low; low = omega (arith, low, enough); clear = zeros; fits = g.fits }

  -- ---- a room that has enough, behind `narrow`
  module _ (n : ℕ) (enough : length c ≤ n) (room : List ℤ) (s : Narrowed n c sh.width sh.columns sh.rows sh.width room) where
    abbrev l : List ℤ
    l = take (length c) room

    l-at : (x y : ℕ) → x < sh.width → y < sh.height → at l (x + y * sh.width) ≡ at room (x + y * sh.width)
    l-at x y h v = get_or-take (length c) room (x + y * sh.width) (pos 0) (omega (arith, turned, place_in {x = x} {y = y} {w = sh.width} {h = sh.height} h v))

    pub there : length c ≤ length room
    there = omega (arith, s.long, enough)

    pub long : length l ≡ length c
    long = length-take-le (length c) room there

    zero-below : (x y : ℕ) → x < sh.width → sh.rows ≤ y → y < sh.height → at l (x + y * sh.width) ≡ pos 0
    zero-below x y h u v = l-at x y h v ∙ s.below (x + y * sh.width) (omega (arith, mul-le-mul_right sh.width u))

    -- what its stages are given
    pub given : GivenStaged sh l c
    given =
        record {
          block = record { taken = g.taken; long = long ∙ g.long; room = g.long };
          part = record {
            narrow = (columns-kept sh g.taken).within;
            low = (rows-kept sh g.taken).within;
            right = λ x y o h v. l-at x y h v ∙ s.right x y o h;
            below = zero-below;
          };
        }

    -- what they give is the block
    same : (x y : ℕ) → x < sh.columns → y < sh.rows → at l (x + y * sh.width) ≡ at c (x + y * sh.width)
    same x y h v = l-at x y (lt_of_lt_of_le h (columns-kept sh g.taken).within) (lt_of_lt_of_le v (rows-kept sh g.taken).within) ∙ s.inside x y h v

    pub told : (k : ℕ) (out : List ℤ) → (k ≡ rails (plan_of sh) l) × (out ≡ inverse_block (plan_of sh) l) → (k ≡ rails (plan_of sh) c) × (out ≡ inverse_block (plan_of sh) c)
    told k out e = (e.0 ∙ rails-same (plan_of sh) l c same, e.1 ∙ block_same (plan_of sh) l c same)

    -- by the quick way too
    pub worked-quick : (k : ℕ) (out : List ℤ) → (k ≡ rails (plan_of sh) l) × (out ≡ inverse_block (plan_of sh) l) → Quick sh c true k out
    worked-quick k out e = record { left = λ f. absurd (true≢false f); fits = λ _. g.fits; done = λ _. told k out e }

-- ---- what the stages of 16-bit numbers take: the smallest sizes that what is read fits in
abbrev pub Least : ℕ → ℕ → Type 0
Least n r = (is_size r ≡ true) × ((n ≤ r) × ((m : ℕ) → is_size m ≡ true → n ≤ m → r ≤ m))

pub given-stages : (sh : Shape) (c r : List ℤ) → GivenStaged sh c r → (rows columns : ℕ) → Least sh.rows rows → Least sh.columns columns → GivenStages sh rows columns c r
given-stages sh c r g rows columns lr lc =
    record {
      block = g.block;
      size-rows = lr.0;
      size-columns = lc.0;
      live = record {
        narrow = lc.1.1 sh.width g.block.taken.width g.part.narrow;
        low = lr.1.1 sh.height g.block.taken.height g.part.low;
        right = λ x y o h v. g.part.right x y (omega (arith, o, lc.1.0)) h v;
        below = λ x y h u v. g.part.below x y h (omega (arith, u, lr.1.0)) v;
      };
      kept = g.part;
    }

-- the same where the output has been written to
pub given-again : (sh : Shape) (c r r₁ : List ℤ) → length r₁ ≡ length r → GivenStaged sh c r → GivenStaged sh c r₁
given-again sh c r r₁ e g = record { block = record { taken = g.block.taken; long = g.block.long; room = e ∙ g.block.room }; part = g.part }

-- document 01's call refuses none of them
pub called : (sh : Shape) (c r : List ℤ) → GivenStaged sh c r → inverse_outcome sh c r ≡ (accepted (rails (plan_of sh) c), inverse_block (plan_of sh) c)
called sh c r g =
    let p = plan_of sh in
    inverse-done sh c r (g.block, le-ltb (first_outside p c) (length c) (omega (arith, none-outside p c g.block.long {columns = sh.columns} {rows = sh.rows} g.part (omega arith) (omega arith))))

-- ---- 4 by 4
four-by-four : (w h : ℕ) → is_size w ≡ true → is_size h ≡ true → w * h ≤ 16 → (w ≡ 4) × (h ≡ 4)
four-by-four w h sw sh =
    size-cases (λ w. w * h ≤ 16 → (w ≡ 4) × (h ≡ 4))
    (size-cases (λ h. 4 * h ≤ 16 → (◌≡◌ {A = ℕ} 4 4) × (h ≡ 4)) (λ _. (refl, refl)) (λ l. absurd (omega (arith, l))) (λ l. absurd (omega (arith, l))) (λ l. absurd (omega (arith, l))) h sh)
    (λ l. absurd (omega (arith, l, size-some h sh))) (λ l. absurd (omega (arith, l, size-some h sh))) (λ l. absurd (omega (arith, l, size-some h sh))) w sw

module _ (sh : Shape) (c r : List ℤ) (g : GivenStaged sh c r) (few : length c ≤ 16) where
  pub square : (sh.width ≡ 4) × (sh.height ≡ 4)
  square = four-by-four sh.width sh.height g.block.taken.width g.block.taken.height (omega (arith, few, g.block.long))

  pub sixteen : length c ≡ 16
  sixteen = g.block.long ∙ (λ i. square.0 i * square.1 i)

  -- of kind 0 both ways, without a middle value at an end of its range
  module _ (across : sh.horizontal ≡ 0) (down : sh.vertical ≡ 0) where
    four-stages : GivenStages sh sh.height sh.width c r
    four-stages =
        record {
          block = g.block;
          size-rows = g.block.taken.height;
          size-columns = g.block.taken.width;
          live = record { narrow = omega arith; low = omega arith; right = λ x y o h v. absurd (omega (arith, o, h)); below = λ x y h u v. absurd (omega (arith, u, v)) };
          kept = g.part;
        }

    pub four-block : (out : List ℤ) → out ≡ block 4 4 (residual_by 4 4 (20 - sh.depth) 4 4 4 c) → out ≡ inverse_block (plan_of sh) c
    four-block out e =
        e ∙ (λ i. block (sym square.0 i) (sym square.1 i) (residual_by (sym square.0 i) (sym square.1 i) (20 - sh.depth) (sym square.0 i) (sym square.1 i) (sym square.0 i) c))
        ∙ worked-block four-stages across down

    pub four-rails : ((x y : ℕ) → x < 4 → y < 4 → Inner (middle_of 4 4 4 c x y)) → 0 ≡ rails (plan_of sh) c
    four-rails n =
        sym (worked-rails four-stages across down
        (λ x y h v. subst (λ (k : ℕ). Inner (middle_of k sh.width k c x y)) (sym square.1) (subst (λ (k : ℕ). Inner (middle_of 4 k 4 c x y)) (sym square.0) (n x y (omega (arith, square.0)) (omega (arith, square.1))))))

-- ---- a shape of kind 0 both ways is that of the quick way
module _ (sh : Shape) (c : List ℤ) (across : sh.horizontal ≡ 0) (down : sh.vertical ≡ 0) where
  same_shape : sh ≡ dct2_shape sh.width sh.height sh.depth sh.columns sh.rows
  same_shape = λ i. record { width = sh.width; height = sh.height; horizontal = across i; vertical = down i; depth = sh.depth; columns = sh.columns; rows = sh.rows }

  pub dct2-given : {n : ℕ} → GivenRead sh c → length c ≤ n → GivenQuick (dct2_shape sh.width sh.height sh.depth sh.columns sh.rows) n c
  dct2-given {n} g few = subst (λ (s : Shape). GivenQuick s n c) same_shape (record { taken = g.taken; long = g.long; few = few })

  pub dct2-quick : {t : Bool} {r : ℕ} {out : List ℤ} → Quick (dct2_shape sh.width sh.height sh.depth sh.columns sh.rows) c t r out → Quick sh c t r out
  dct2-quick {t} {r} {out} q = subst (λ (s : Shape). Quick s c t r out) (sym same_shape) q
