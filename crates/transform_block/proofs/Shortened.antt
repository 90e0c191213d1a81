-- A block with extended precision whose numbers are small gives what the same block gives with the switch off. Assumes nothing.
use native.Mathlib.Omega.{arith}
use mathlib.Core.Path.{◌≡◌, refl, sym, ap, ◌∙◌}
use mathlib.Core.Bool.{Bool, true, false, cond, true≢false}
use mathlib.Core.List.{List}
use Prim.Native.Nat.{ℕ, ◌+◌, ◌*◌, ◌-◌, ◌≤◌, ◌<◌, max, min}
use borrow.Author.Tests.{le-ltb, le-leb}
use lib.Dec.{ltb, leb}
use lib.IntN.{ℤ, pos, negsuc, nat_abs}
use Rattle.algebra.specs.Lists.{at}
use Rattle.meaning.specs.Answer.{Outcome, accepted}
use Rattle.meaning.specs.Shape.{is_depth_to}
use Rattle.meaning.specs.Plan.{range_of, reach}
use Rattle.meaning.specs.Long.{beyond}
use Rattle.meaning.specs.Inverse.{rails, inverse_block}
use Rattle.transform_stages.specs.Work.{worked}
use Rattle.transform_calm.specs.Calm.{read_sizes}
use Rattle.transform_calm.proofs.Calm.{number_size, calm-rails, calm-block}
use Rattle.transform_block.specs.declared.TransformBlock.{TransformBlock}
use Rattle.transform_block.specs.TransformBlock.{is_on, is_thin, has_low, is_corner, takes_low, is_low, reach_of, last_of, transform_plan, side_block, transformed}
use Rattle.transform_block.specs.Given.{GivenWork, shortened}
use Rattle.transform_block.proofs.Taken.{deep}

-- a number of 16 bits
pub near : (z : ℤ) → nat_abs z ≤ 32767 → beyond (range_of 15) z ≡ false
near (pos n) h = le-ltb 32767 n h
near (negsuc n) h = rw (le-ltb 32767 n (omega arith))

-- R and the last shift, with the switch on and two stages
pub last_on : (b : TransformBlock) → is_on b ≡ true → is_thin b ≡ false → 8 ≤ b.depth → b.depth ≤ 16 → (9 ≤ last_of b) × (last_of b ≤ 12)
unfolding reach
last_on b on two low high = rw (on, two) (bounds b.depth low high)
  where
    bounds : (d : ℕ) → 8 ≤ d → d ≤ 16 → (9 ≤ 5 + max 15 (min 20 (d + 6)) - d) × (5 + max 15 (min 20 (d + 6)) - d ≤ 12)
    bounds d l h = (omega arith, omega arith)

module _ (b : TransformBlock) (c : List ℤ) (g : GivenWork b c) (on : is_on b ≡ true) (two : is_thin b ≡ false) (calm : read_sizes b.width b.columns b.rows c ≤ 32767) where
  abbrev s : TransformBlock
  s = shortened b

  d : (8 ≤ b.depth) × (b.depth ≤ 16)
  d = deep b c g.taken

  l : (9 ≤ last_of b) × (last_of b ≤ 12)
  l = last_on b on two d.0 d.1

  depth-there : is_depth_to 16 (20 - last_of b) ≡ true
  depth-there = rw (le-leb 8 (20 - last_of b) (omega (arith, l)), le-leb (20 - last_of b) 16 (omega (arith, l)))

  corner-there : is_corner s ≡ true
  unfolding is_corner has_low
  corner-there = g.taken.corner

  low-there : is_low s ≡ true
  unfolding is_low has_low takes_low
  low-there = g.taken.low

  reach-15 : reach_of s ≡ 15
  unfolding reach is_on
  reach-15 = refl

  thin-same : is_thin s ≡ false
  unfolding is_thin
  thin-same = two

  last-same : last_of s ≡ last_of b
  last-same = rw (thin-same, reach-15) (back (last_of b) l.1)
    where
      back : (n : ℕ) → n ≤ 12 → 20 - (20 - n) ≡ n
      back n h = omega arith

  pub short-given : GivenWork s c
  short-given =
      let t = g.taken in
      record {
        taken = record {
          width = t.width;
          pair = t.pair;
          horizontal = t.horizontal;
          vertical = t.vertical;
          along = t.along;
          down = t.down;
          depth = depth-there;
          kept = t.kept;
          corner = corner-there;
          low = low-there;
          long = t.long;
        };
        inside = λ x y h k. rw reach-15 (near (at c (x + y * b.width)) (number_size b.width b.height b.horizontal b.vertical b.columns b.rows (last_of b) c calm x y h k));
      }

  far : 15 ≤ reach_of b
  unfolding reach
  far = rw on (big b.depth)
    where
      big : (d : ℕ) → 15 ≤ max 15 (min 20 (d + 6))
      big d = omega arith

  same-rails : rails (transform_plan s) c ≡ rails (transform_plan b) c
  same-rails =
      (λ i. rails (worked b.width b.height b.horizontal b.vertical b.columns b.rows (reach-15 i) (last-same i)) c)
      ∙ calm-rails b.width b.height b.horizontal b.vertical b.columns b.rows (last_of b) c calm 15 (omega arith)
      ∙ sym (calm-rails b.width b.height b.horizontal b.vertical b.columns b.rows (last_of b) c calm (reach_of b) far)

  same_block : inverse_block (transform_plan s) c ≡ inverse_block (transform_plan b) c
  same_block =
      (λ i. inverse_block (worked b.width b.height b.horizontal b.vertical b.columns b.rows (reach-15 i) (last-same i)) c)
      ∙ sym (calm-block b.width b.height b.horizontal b.vertical b.columns b.rows (last_of b) c calm (reach_of b) far)

  pub short-same : ◌≡◌ {A = Outcome} (transformed s c) (transformed b c)
  short-same = second (accepted 0, side_block s c) (accepted (rails (transform_plan s) c), inverse_block (transform_plan s) c) (is_thin s) thin-same ∙ (λ i. (accepted (same-rails i), same_block i)) ∙ sym (second (accepted 0, side_block b c) (accepted (rails (transform_plan b) c), inverse_block (transform_plan b) c) (is_thin b) two)
    where
      second : (x y : Outcome) (t : Bool) → t ≡ false → cond t x y ≡ y
      second x y true e = absurd (true≢false e)
      second x y false e = refl
