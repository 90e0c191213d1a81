-- Blocks of document 01: what is read has 16 bits, and their plan is that of a shape. Assumes nothing.
use native.Mathlib.Omega.{arith}
use mathlib.Core.Path.{◌≡◌, refl, sym, ap, ◌∙◌, subst}
use mathlib.Core.Bool.{true, false, not, ◌&&◌}
use mathlib.Core.List.{List}
use Prim.Native.Nat.{ℕ, ◌+◌, ◌*◌}
use borrow.Author.Tests.{ne_eqb, not-true}
use lib.Dec.{eqb}
use lib.IntN.{ℤ}
use Rattle.algebra.specs.Lists.{at}
use Rattle.meaning.specs.declared.Shape.{Shape}
use Rattle.meaning.specs.Shape.{is_size, is_depth, keeps}
use Rattle.meaning.specs.Plan.{plan_of, range_of, short_range, reach}
use Rattle.meaning.specs.Long.{beyond}
use Rattle.meaning.proofs.Cases.{and_cases, size-some}
use Rattle.narrowing.proofs.Reading.{sixteen}
use Rattle.transform_short.specs.Short.{GivenRead}
use Rattle.transform_block.specs.declared.TransformBlock.{TransformBlock}
use Rattle.transform_block.specs.TransformBlock.{is_on, is_thin, reach_of, transform_plan}
use Rattle.transform_block.specs.Given.{GivenWork, is_short}

abbrev pub shaped : TransformBlock → Shape
shaped b =
    record {
      width = b.width;
      height = b.height;
      horizontal = b.horizontal;
      vertical = b.vertical;
      depth = b.depth;
      columns = b.columns;
      rows = b.rows;
    }

module _ (b : TransformBlock) (short : is_short b ≡ true) where
  parts : (not (is_on b) ≡ true) × ((is_size b.width ≡ true) × ((is_size b.height ≡ true) × (is_depth b.depth ≡ true)))
  unfolding is_short
  parts =
      let a = and_cases (not (is_on b)) (is_size b.width && (is_size b.height && is_depth b.depth)) short in
      let c = and_cases (is_size b.width) (is_size b.height && is_depth b.depth) a.1 in
      (a.0, (c.0, and_cases (is_size b.height) (is_depth b.depth) c.1))

  off : is_on b ≡ false
  off = not-true (is_on b) parts.0

  pub two : is_thin b ≡ false
  unfolding is_thin
  two = rw (other b.width parts.1.0, other b.height parts.1.1.0)
    where
      other : (n : ℕ) → is_size n ≡ true → eqb n 1 ≡ false
      other n s = ne_eqb n 1 (λ e. omega (arith, size-some n s))

  pub reach-15 : reach_of b ≡ 15
  unfolding reach
  reach-15 = rw off

  pub same-plan : transform_plan b ≡ plan_of (shaped b)
  unfolding short_range reach
  same-plan = rw (off, two)

  pub given-read : (c : List ℤ) → GivenWork b c → GivenRead (shaped b) c
  unfolding keeps
  given-read c g =
      let t = g.taken in
      let p = parts.1 in
      record {
        taken = record { width = p.0; height = p.1.0; horizontal = t.horizontal; vertical = t.vertical; depth = p.1.1; kept = t.kept };
        long = t.long;
        fits = λ x y h v. sixteen (at c (x + y * b.width)) (subst (λ (r : ℕ). beyond (range_of r) (at c (x + y * b.width)) ≡ false) reach-15 (g.inside x y h v));
      }
