-- Document 01, "Numbers handed back when a call is turned down": "stops at the first bad place, row by row". The first place
-- of a list at which a test of the place and the number holds.
use Rattle.std.specs.Prelude.{Bool, cond, List, [], ◌∷◌, ℕ, suc, ltb, ℤ, Option, None, Some}

-- l is what stands from place k on; past the end where no place passes
unfoldable pub first_at : (ℕ → ℤ → Bool) → ℕ → List ℤ → ℕ
first_at test k [] = k
first_at test k (z ∷ l) = cond (test k z) k (first_at test (suc k) l)

-- that place among `count` numbers, where it is below their count, and none otherwise
abbrev pub found : ℕ → ℕ → Option ℕ
found count place = cond (ltb place count) (Some place) None
