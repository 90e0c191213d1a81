-- Two stages over all of a block: what `long_stages` gives with the switch off, with middle values a whole row apart. Assumes nothing.
use mathlib.Core.Path.{◌≡◌, sym, ap, ◌∙◌, subst}
use mathlib.Core.Bool.{false}
use mathlib.Core.List.{List, ◌++◌, append-nil}
use Prim.Native.Nat.{ℕ, ◌+◌, ◌*◌, ◌-◌, ◌/◌, ◌≤◌}
use native.Mathlib.Omega.{arith}
use native.Mathlib.Nat.{mul_comm}
use lib.IntN.{ℤ}
use lib.ListN.{length, drop, drop_of_length-le}
use Rattle.algebra.specs.Sum.{sumℕ}
use Rattle.algebra.specs.Shift.{nearest}
use Rattle.algebra.specs.Lists.{block}
use Rattle.meaning.specs.declared.Shape.{Shape}
use Rattle.meaning.specs.Shape.{is_long_depth}
use Rattle.meaning.specs.Plan.{short_range, range_of, reach, plan_of}
use Rattle.meaning.specs.Inverse.{middle, middle_at, rails, inverse_block}
use Rattle.stage_weights.specs.Stage.{Weights}
use Rattle.layout.proofs.Zipping.{size-even}
use Rattle.long_stages.specs.Work.{column_at, rail_of, Down, row_at, Along, GivenLong}
use Rattle.long_stages.proofs.Whole.{columns-given, rails-read, middles-read, rows-given, block_read}
use Rattle.thin_block.specs.Given.{Double}

-- the coefficients in 32 bits are l, R is r
module _ {sh : Shape} {c first second l : List ℤ} {r : ℕ} (g : Double sh c first second) (same : l ≡ c) (far : r ≡ reach false sh.depth) where
  abbrev w : ℕ
  w = sh.width

  abbrev h : ℕ
  h = sh.height

  pairs : 2 * (w / 2) ≡ w
  pairs = (size-even w g.block.taken.width).1

  rows : 2 * (h / 2) ≡ h
  rows = (size-even h g.block.taken.height).1

  -- all of it is live
  given : GivenLong false sh (h / 2) (w / 2) c second
  unfolding is_long_depth
  given =
      record {
        block = g.block;
        live = record {
          narrow = omega (arith, pairs);
          low = omega (arith, rows);
          right = λ x y l g. absurd (omega (arith, pairs));
          below = λ x y g l v. absurd (omega (arith, rows));
        };
        kept = g.kept;
      }

  module _ {down : List ℤ} (stored : Weights 1024 h false sh.vertical h down) where
    -- the middle values
    abbrev mids : ℕ → List ℤ → ℕ → ℕ → ℤ
    mids r l x y = middle (range_of r) (column_at down h l w (h / 2) x y)

    pub down-given : Down down h l w (h / 2) w r
    down-given = subst (λ (A : Type 0). A) (λ t. Down down h (sym same t) w (h / 2) (pairs t) (sym far t)) (columns-given false sh (h / 2) (w / 2) c second given down stored)

    pub rails-are : sumℕ h (λ y. sumℕ w (λ x. rail_of r (column_at down h l w (h / 2) x y))) ≡ rails (plan_of sh) c
    unfolding reach short_range
    rails-are =
        (λ t. sumℕ h (λ y. sumℕ (sym pairs t) (λ x. rail_of (far t) (column_at down h (same t) w (h / 2) x y))))
        ∙ rails-read false sh (h / 2) (w / 2) c second given down stored

    module _ {m : List ℤ} (made : m ≡ block w h (mids r l) ++ drop (h * w) first) where
      made' : m ≡ block (2 * (w / 2)) h (mids (reach false sh.depth) c) ++ drop (h * w) first
      made' = made ∙ (λ t. block (sym pairs t) h (mids (far t) (same t)) ++ drop (h * w) first)

      pub middles-are : m ≡ block w h (middle_at (plan_of sh) c)
      unfolding reach short_range
      middles-are =
          let full : length first ≤ h * w = omega (arith, g.room, mul_comm w h) in
          made' ∙ (λ t. middles-read false sh (h / 2) (w / 2) c second given down stored t ++ drop_of_length-le first full t) ∙ append-nil _
          ∙ ap (λ (n : ℕ). block n h (middle_at (plan_of sh) c)) pairs

      module _ {last : ℕ} (shift : last ≡ 5 + reach false sh.depth - sh.depth) {along : List ℤ} (stored' : Weights 1024 w false sh.horizontal w along) where
        pub along-given : Along along w h m w (w / 2) last
        along-given =
            subst (λ (A : Type 0). A) (λ t. Along along w h m (pairs t) (w / 2) (sym shift t))
            (rows-given false sh (h / 2) (w / 2) c second given down stored m (drop (h * w) first) made' along stored')

        pub block-are : block w h (λ x y. nearest last (row_at along w m w (w / 2) x y)) ≡ inverse_block (plan_of sh) c
        unfolding reach short_range
        block-are =
            (λ t. block w h (λ x y. nearest (shift t) (row_at along w m (sym pairs t) (w / 2) x y)))
            ∙ block_read false sh (h / 2) (w / 2) c second given down stored m (drop (h * w) first) made' along stored'
