-- Two outcomes that the contract of `inverse`, or of `TransformBlock::new`, allows are equal. Assumes nothing.
use mathlib.Core.Path.{◌≡◌}
use mathlib.Core.List.{List}
use Prim.Native.Nat.{ℕ}
use lib.IntN.{ℤ}
use Rattle.algebra.proofs.Unique.{one}
use Rattle.meaning.specs.Answer.{Outcome}
use Rattle.transform_block.specs.declared.TransformBlock.{TransformBlock}
use Rattle.transform_block.specs.TransformBlock.{block_of, transform_outcome}

pub transform-one : (b : TransformBlock) (c : List ℤ) {o p : Outcome} → o ≡ transform_outcome b c → p ≡ transform_outcome b c → o ≡ p
transform-one b c = one

pub block-of-one : (w h a b d : ℕ) {r s : TransformBlock} → r ≡ block_of w h a b d → s ≡ block_of w h a b d → r ≡ s
block-of-one w h a b d = one
