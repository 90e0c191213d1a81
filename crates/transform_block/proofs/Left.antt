-- Columns and rows on numbers that hold what LFNST left, as far as they read: they may be given these, and the outcome is that of the
-- definition (`after-low`); so it is on the numbers themselves where a block has none (`after_none`). Assumes nothing.
use mathlib.Core.Path.{◌≡◌, refl, sym, ap, ◌∙◌, subst}
use mathlib.Core.Bool.{true, false}
use mathlib.Core.List.{List}
use Prim.Native.Nat.{ℕ, ◌+◌, ◌*◌, ◌<◌}
use lib.IntN.{ℤ}
use lib.ListN.{length}
use Rattle.algebra.specs.Lists.{at}
use Rattle.transform_block.specs.declared.TransformBlock.{TransformBlock}
use Rattle.transform_block.specs.TransformBlock.{has_low, low_side, low_numbers, behind_low, transformed, inverted}
use Rattle.transform_block.specs.Given.{GivenWork, LowDone, AfterLow}
use Rattle.transform_block.proofs.Behind.{behind-given}
use Rattle.transform_block.proofs.NotRead.{given-same, transformed-same}

module _ (b : TransformBlock) (c : List ℤ) {d : List ℤ} (g : GivenWork b c) (low : has_low b ≡ true) (left : LowDone b c d) where
  behind : GivenWork (behind_low b) (low_numbers b c)
  behind = behind-given b c g.taken low

  long : length (low_numbers b c) ≡ length d
  long = behind.taken.long ∙ sym (left.long ∙ g.taken.long)

  same : (x y : ℕ) → x < low_side b → y < low_side b → at (low_numbers b c) (x + y * b.width) ≡ at d (x + y * b.width)
  same x y h l = sym (left.same x y h l)

  left-given : GivenWork (behind_low b) d
  left-given = given-same (behind_low b) (low_numbers b c) d long same behind

  left-same : transformed (behind_low b) d ≡ transformed (behind_low b) (low_numbers b c)
  left-same = sym (transformed-same (behind_low b) (low_numbers b c) d long same behind.taken)

  pub after-low : {r : TransformBlock} → r ≡ behind_low b → AfterLow b c r d
  after-low {r} e =
      record {
        long = left.long;
        given = subst (λ (r : TransformBlock). GivenWork r d) (sym e) left-given;
        same = ap (λ (r : TransformBlock). transformed r d) e ∙ left-same ∙ rw low;
      }

pub after_none : (b : TransformBlock) (c : List ℤ) → GivenWork b c → has_low b ≡ false → AfterLow b c b c
after_none b c g none = record { long = refl; given = g; same = rw none }
