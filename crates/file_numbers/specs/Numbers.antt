-- Document 01, "The block file and its program": "High byte first throughout; data numbers are two's complement". The numbers of
-- a body, two bytes each.
use Rattle.std.specs.Prelude.{cond, List, [], ◌∷◌, ℕ, ◌+◌, ◌*◌, ltb, ℤ, pos, ◌-ℤ◌}

-- two's complement in 16 bits: from 32,768 on a number stands for itself less 65,536
unfoldable pub signed16 : ℕ → ℤ
signed16 n = cond (ltb n 32768) (pos n) (pos n -ℤ pos 65536)

-- two bytes to a number, "High byte first"; an odd byte at the end is no number
abbrev pub pairs : (ℕ → ℤ) → List ℕ → List ℤ
pairs f [] = []
pairs f (high ∷ []) = []
pairs f (high ∷ low ∷ rest) = f (high * 256 + low) ∷ pairs f rest

abbrev pub numbers : List ℕ → List ℤ
numbers bytes = pairs signed16 bytes
