-- Blocks with a side of 1 and the switch off: what is read of their line has 16 bits. Assumes nothing.
use native.Mathlib.Omega.{arith}
use mathlib.Core.Path.{◌≡◌, refl, subst}
use mathlib.Core.Bool.{true, false}
use mathlib.Core.List.{List}
use Prim.Native.Nat.{ℕ, ◌≤◌}
use lib.IntN.{ℤ}
use Rattle.algebra.specs.Lists.{at, tabulate}
use Rattle.meaning.specs.Plan.{range_of, reach}
use Rattle.meaning.specs.Long.{beyond}
use Rattle.meaning.specs.Answer.{Outcome, accepted}
use Rattle.narrowing.proofs.Reading.{sixteen}
use Rattle.transform_stages.specs.Work as stage
use Rattle.transform_line.specs.Lines.{GivenSide}
use Rattle.transform_block.specs.declared.TransformBlock.{TransformBlock}
use Rattle.transform_block.specs.TransformBlock.{is_on, is_thin, reach_of, last_of, transformed}
use Rattle.transform_block.specs.Given.{GivenWork}
use Rattle.transform_block.proofs.Taken.{columns-read, rows-read, columns-most, rows-most, last-few}
use Rattle.transform_block.proofs.Ways.{read-upright, read_lying, given-upright, given-lying, staged}

module _ (b : TransformBlock) (c : List ℤ) (g : GivenWork b c) (thin : is_thin b ≡ true) (off : is_on b ≡ false) where
  reach-15 : reach_of b ≡ 15
  unfolding reach
  reach-15 = rw off

  pub upright-given : b.width ≡ 1 → GivenSide b.vertical b.height b.rows (last_of b) c
  upright-given e =
      let o = given-upright b c g e in
      record {
        line = o.line;
        some = (rows-read b c g.taken).some;
        kept = rows-most b c g.taken;
        shift = omega (arith, o.some);
        short = last-few b c g.taken thin;
        long = o.long;
        fits = λ k h. sixteen (at c k) (subst (λ (r : ℕ). beyond (range_of r) (at c k) ≡ false) reach-15 (read-upright b c g e k h));
      }

  pub lying-given : (b.width ≡ 1 → ⊥) → b.height ≡ 1 → GivenSide b.horizontal b.width b.columns (last_of b) c
  lying-given n e =
      let o = given-lying b c g n e in
      record {
        line = o.line;
        some = (columns-read b c g.taken).some;
        kept = columns-most b c g.taken;
        shift = omega (arith, o.some);
        short = last-few b c g.taken thin;
        long = o.long;
        fits = λ k h. sixteen (at c k) (subst (λ (r : ℕ). beyond (range_of r) (at c k) ≡ false) reach-15 (read_lying b c g k h));
      }

  -- the line is the block
  pub upright-done : {out : List ℤ} → b.width ≡ 1 → out ≡ tabulate b.height (stage.rounded_sum b.vertical b.height b.rows (last_of b) c) → ◌≡◌ {A = Outcome} (accepted 0, out) (transformed b c)
  upright-done {out} e q = staged b c g 0 out (record { upright = λ _. (refl, q); lying = λ n _. absurd (n e); two = λ n _. absurd (n e) })

  pub lying-done : {out : List ℤ} → (b.width ≡ 1 → ⊥) → b.height ≡ 1 → out ≡ tabulate b.width (stage.rounded_sum b.horizontal b.width b.columns (last_of b) c) → ◌≡◌ {A = Outcome} (accepted 0, out) (transformed b c)
  lying-done {out} n e q = staged b c g 0 out (record { upright = λ w. absurd (n w); lying = λ _ _. (refl, q); two = λ _ m. absurd (m e) })
