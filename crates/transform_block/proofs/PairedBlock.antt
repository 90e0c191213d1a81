-- Blocks of two stages with the switch off: what is read has 16 bits, and their plan is the short one. Assumes nothing.
use native.Mathlib.Omega.{arith}
use mathlib.Core.Path.{◌≡◌, sym, subst}
use mathlib.Core.Bool.{true, false, not}
use mathlib.Core.List.{List}
use Prim.Native.Nat.{ℕ, ◌+◌, ◌*◌}
use borrow.Author.Tests.{not-true}
use lib.IntN.{ℤ}
use Rattle.algebra.specs.Lists.{at}
use Rattle.meaning.specs.Plan.{Plan, range_of, reach}
use Rattle.meaning.specs.Long.{beyond}
use Rattle.meaning.proofs.Cases.{and_cases}
use Rattle.transform_stages.specs.Work.{worked}
use Rattle.narrowing.proofs.Reading.{sixteen}
use Rattle.transform_pairs.specs.Pairs.{short_plan, GivenPairs}
use Rattle.transform_two.specs.Two.{GivenSides}
use Rattle.transform_block.specs.declared.TransformBlock.{TransformBlock}
use Rattle.transform_block.specs.TransformBlock.{is_on, is_thin, reach_of, last_of, transform_plan}
use Rattle.transform_block.specs.Given.{GivenWork, is_paired, GivenPaired}
use Rattle.transform_block.proofs.Taken.{columns-read, rows-read, columns-most, rows-most, sized, last-two, last-short}

module _ (b : TransformBlock) (paired : is_paired b ≡ true) where
  parts : (not (is_on b) ≡ true) × (not (is_thin b) ≡ true)
  unfolding is_paired
  parts = and_cases (not (is_on b)) (not (is_thin b)) paired

  off : is_on b ≡ false
  off = not-true (is_on b) parts.0

  pub two-stages : is_thin b ≡ false
  two-stages = not-true (is_thin b) parts.1

  reach-15 : reach_of b ≡ 15
  unfolding reach
  reach-15 = rw off

  pub same-plan : short_plan b.width b.height b.horizontal b.vertical b.columns b.rows (last_of b) ≡ transform_plan b
  same-plan = λ i. worked b.width b.height b.horizontal b.vertical b.columns b.rows (sym reach-15 i) (last_of b)

  pub given-pairs : (c : List ℤ) → GivenWork b c → GivenPairs (short_plan b.width b.height b.horizontal b.vertical b.columns b.rows (last_of b)) c
  given-pairs c g =
      let t = g.taken in
      let z = sized b c t two-stages in
      record {
        sized = record { along = z.along; down = z.down; columns = z.columns; rows = z.rows };
        columns = (columns-read b c t).short;
        rows = (rows-read b c t).short;
        some = omega (arith, last-two b c t two-stages);
        short = last-short b c t two-stages;
        long = t.long;
        fits = λ x y h l. sixteen (at c (x + y * b.width)) (subst (λ (r : ℕ). beyond (range_of r) (at c (x + y * b.width)) ≡ false) reach-15 (g.inside x y h l));
      }

  -- .. and no more is read than a kind has
  pub given-sides : (c : List ℤ) → GivenWork b c → GivenSides (short_plan b.width b.height b.horizontal b.vertical b.columns b.rows (last_of b)) c
  given-sides c g = let t = g.taken in record { pairs = given-pairs c g; some = (columns-read b c t).some; along = columns-most b c t; down = rows-most b c t }
