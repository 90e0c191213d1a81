-- How long the stretches of blocks are, one and several. Assumes nothing.
use mathlib.Core.Path.{◌≡◌, refl}
use mathlib.Core.Bool.{Bool, true, false}
use mathlib.Core.List.{List}
use Prim.Native.Nat.{ℕ, suc, ◌+◌, ◌*◌, ◌<◌, ◌≤◌}
use native.Mathlib.Nat.{mul-le-mul}
use native.Mathlib.Omega.{arith}
use lib.ListN.{length, drop, get_or, drop_of_length-le}
use lib.Seq.{drop-cons}
use Rattle.meaning.specs.declared.Shape.{Shape}
use Rattle.meaning.specs.Shape.{is_size}
use Rattle.meaning.proofs.Cases.{size_in}
use Rattle.block_row.specs.Row.{span, spans}

-- both sides are sizes, the width is none, the height is none
pub span-sized : (sh : Shape) → is_size sh.width ≡ true → is_size sh.height ≡ true → span sh ≡ sh.width * sh.height
unfolding span
span-sized sh w h = rw (w, h)

pub span-wide : (sh : Shape) → is_size sh.width ≡ false → span sh ≡ 0
unfolding span
span-wide sh w = rw w

pub span-high : (sh : Shape) → is_size sh.width ≡ true → is_size sh.height ≡ false → span sh ≡ 0
unfolding span
span-high sh w h = rw (w, h)

-- at most 32 * 32
pub span_small : (sh : Shape) → span sh ≤ 1024
span_small sh = by (is_size sh.width) (is_size sh.height) refl refl
  where
    by : (a b : Bool) → is_size sh.width ≡ a → is_size sh.height ≡ b → span sh ≤ 1024
    by true true w h = rw (span-sized sh w h) (mul-le-mul (size_in sh.width w) (size_in sh.height h))
    by true false w h = omega (arith, span-high sh w h)
    by false b w h = omega (arith, span-wide sh w)

module _ (T : List Shape) (k : ℕ) where
  pub spans-more : (d : Shape) → k < length T → spans (drop k T) ≡ span (get_or T k d) + spans (drop (suc k) T)
  unfolding spans
  spans-more d h = rw (drop-cons T k d h)

  pub spans-end : length T ≤ k → spans (drop k T) ≡ 0
  unfolding spans
  spans-end h = rw (drop_of_length-le T h)
