-- `row_pairs` meets its contract: as many pairs of rows as reach to the last number that is not 0. Assumes nothing.
use native.Mathlib.Omega.{arith}
use mathlib.Core.Path.{◌≡◌, sym, ap, ◌∙◌}
use Prim.Native.Nat.{ℕ, ◌*◌, ◌/◌, ◌≤◌, ◌<◌}
use lib.ListN.{length}
use Rattle.meaning.proofs.Cases.{size_in, size-some}
use Rattle.long_stages.proofs.Ceil.{size-even, ceil, twice}
use Rattle.long_stages.proofs.live.row_pairs.Goals as goal

pub overflow_mul-w : goal.overflow_mul-w
overflow_mul-w c = omega (arith, size_in c.args.w c.requires.0)

pub div_ceil-requires : goal.div_ceil-requires
div_ceil-requires c = omega (arith, size-some c.args.w c.requires.0)

pub returns : goal.returns
returns c =
    let s = c.args in
    let by-pairs : length s.c.now ≡ s.h / 2 * (2 * s.w) = c.requires.1.1 ∙ ap (λ (h : ℕ). h * s.w) (sym (size-even s.h c.requires.1.0)) ∙ sym (twice (s.h / 2) s.w) in
    let some : 0 < 2 * s.w = omega (arith, size-some s.w c.requires.0) in
    let both : (c.div_ceil.result ≤ s.h / 2) × (c.used.result ≤ c.div_ceil.result * (2 * s.w)) = rw c.div_ceil.ensures (ceil c.used.result (2 * s.w) (s.h / 2) some (omega (arith, c.used.ensures.0))) in
    (omega (arith, both.0, size-even s.h c.requires.1.0), λ k h g. c.used.ensures.1 k (omega (arith, both.1, twice c.div_ceil.result s.w)) (omega (arith, c.requires.1.1)))
