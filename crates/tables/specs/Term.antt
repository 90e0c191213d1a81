-- Document 01, "Lines": "T[i][j]*x[j]" forward, "T[i][j]*x[i]" inverse. The weight by which a line takes one of its inputs.
use Rattle.std.specs.Prelude.{Bool, cond, ℕ, ℤ}
use Rattle.meaning.specs.Weights.{weight}

-- the weight of input i in output k: T[k][i] forward, T[i][k] inverse
abbrev pub term : Bool → ℕ → ℕ → ℕ → ℕ → ℤ
term forward kind n k i = cond forward (weight kind n k i) (weight kind n i k)
