-- One coefficient, the first, and all others 0.
use Rattle.std.specs.Prelude.{ℕ, ℤ, pos, ◌*ℤ◌}
use Rattle.algebra.specs.Shift.{nearest}
use Rattle.meaning.specs.Inverse.{rounded}

-- every residual of such a block: weight 64 in both stages
abbrev pub flat_of : ℕ → ℤ → ℤ
flat_of last v = nearest last (pos 64 *ℤ rounded (pos 64 *ℤ v))
