-- What an accepted call was handed and hands back. Assumes nothing.
--   transform-accepted: number 0 says that no test applied
--   transform-done:     and then the outcome is number 0, place 0, the rail count, and the block
--   plain_done, behind-done: which is what columns and rows make of the numbers, or of what LFNST left
use native.Mathlib.Omega.{arith}
use mathlib.Core.Path.{◌≡◌, refl, ap, ◌∙◌}
use mathlib.Core.Bool.{true, false, not, ◌&&◌, ◌||◌}
use mathlib.Core.List.{List, [], ◌∷◌}
use Prim.Native.Nat.{ℕ, ◌*◌}
use native.Mathlib.Nat.{mul_comm}
use borrow.Author.Tests.{eq-eqb, le-ltb, ltb-false}
use lib.Dec.{eqb, ltb}
use lib.IntN.{ℤ}
use lib.ListN.{length}
use Rattle.algebra.specs.Refusals.{Test}
use Rattle.algebra.proofs.Refusals.{Clear, clear-split, none-applies}
use Rattle.meaning.specs.Answer.{Outcome, refused, test_at}
use Rattle.meaning.proofs.AcceptedCalls.{no-refusal}
use Rattle.transform_block.specs.declared.TransformBlock.{TransformBlock}
use Rattle.transform_block.specs.TransformBlock.{reach_of, transform_plan, first_read_beyond, handed_tests, transform_tests, has_low, low_numbers, behind_low, transformed, inverted, transform_outcome}
use Rattle.transform_block.specs.Given.{TakenFields, GivenWork}
use Rattle.transform_block.proofs.Taken.{fields_split, columns-read, rows-read}
use Rattle.transform_hunt.proofs.Hunting.{none_inside, none_at_all, inside-none}

module _ (b : TransformBlock) (c : List ℤ) where
  turned : TakenFields b c → length c ≡ b.height * b.width
  turned t = t.long ∙ mul_comm b.width b.height

  pub transform-accepted : (transform_outcome b c).0.number ≡ 0 → GivenWork b c
  transform-accepted e =
      let both = clear-split (handed_tests b (length c)) (test_at (first_read_beyond (transform_plan b) c) (length c) 27 ∷ []) (no-refusal (transform_tests b c) c (inverted b c) tt e) in
      let t = fields_split b c both.0 in
      record {
        taken = t;
        inside = inside-none b.width b.height b.columns b.rows (reach_of b) c (turned t) (ltb-false (first_read_beyond (transform_plan b) c) (length c) both.1.0) (columns-read b c t).within (rows-read b c t).within;
      }

  pub transform-done : GivenWork b c → transform_outcome b c ≡ inverted b c
  transform-done g =
      let t = g.taken in
      let none = none_at_all b.width b.height b.columns b.rows (reach_of b) c (turned t) (none_inside b.width b.height b.columns b.rows (reach_of b) c (turned t) g.inside) in
      none-applies (λ number place. (refused number place, c)) (inverted b c) (transform_tests b c) (
        ap not t.width,
        (
          ap not t.pair,
          (
            ap not t.horizontal,
            (
              ap not t.vertical,
              (
                (λ i. t.along i || t.down i),
                (
                  ap not t.depth,
                  (
                    (λ i. not (t.kept i && t.corner i)),
                    (
                      ap not t.low,
                      (
                        ap not (eq-eqb (length c) (b.width * b.height) t.long),
                        (le-ltb (first_read_beyond (transform_plan b) c) (length c) (omega (arith, none)), tt),
                      ),
                    ),
                  ),
                ),
              ),
            ),
          ),
        ),
      )

  pub plain_done : GivenWork b c → has_low b ≡ false → transform_outcome b c ≡ transformed b c
  plain_done g none = transform-done g ∙ rw none

  pub behind-done : GivenWork b c → has_low b ≡ true → transform_outcome b c ≡ transformed (behind_low b) (low_numbers b c)
  behind-done g low = transform-done g ∙ rw low
