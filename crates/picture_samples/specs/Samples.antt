-- Document 02, Wish 11: "each sample being the residual plus 32768, high byte first".
use Rattle.std.specs.Prelude.{Bool, false, ◌||◌, List, [], ◌∷◌, ℕ, ◌/◌, ◌%◌, ℤ, pos, nat_abs, ◌+ℤ◌, ◌-ℤ◌}
use Rattle.meaning.specs.Plan.{short_range}
use Rattle.meaning.specs.Long.{beyond}
use Rattle.file_numbers.specs.Numbers.{pairs}

-- "a residual outside -32768..32767"
unfoldable pub any_beyond : List ℤ → Bool
any_beyond [] = false
any_beyond (z ∷ zs) = beyond short_range z || any_beyond zs

-- "the residual plus 32768", for a residual in that range
abbrev pub sample_of : ℤ → ℕ
sample_of z = nat_abs (z +ℤ pos 32768)

-- "high byte first"
unfoldable pub samples : List ℤ → List ℕ
samples [] = []
samples (z ∷ zs) = sample_of z / 256 ∷ sample_of z % 256 ∷ samples zs

-- reading: the sample less 32768
unfoldable pub residual_of : ℕ → ℤ
residual_of sample = pos sample -ℤ pos 32768

abbrev pub residuals : List ℕ → List ℤ
residuals bytes = pairs residual_of bytes
