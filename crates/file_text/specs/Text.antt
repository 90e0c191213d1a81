-- Document 01, "The block file and its program": "one space between, one line each". The lines that a run prints, as bytes.
use Rattle.std.specs.Prelude.{cond, List, [], ◌∷◌, ◌++◌, ℕ, zero, suc, ◌+◌, ◌/◌, ◌%◌, ltb, ℤ, pos, negsuc, nat_abs}

-- the digits of n, which has at most k + 1
unfoldable pub digits : ℕ → ℕ → List ℕ
digits zero n = (48 + n) ∷ []
digits (suc k) n = cond (ltb n 10) ((48 + n) ∷ []) (digits k (n / 10) ++ ((48 + n % 10) ∷ []))

-- n has at most n + 1 digits
unfoldable pub decimal : ℕ → List ℕ
decimal n = digits n n

-- a minus sign before a negative number, and none before another
abbrev pub sign : ℤ → List ℕ
sign (pos n) = []
sign (negsuc n) = 45 ∷ []

abbrev pub integer : ℤ → List ℕ
integer z = sign z ++ decimal (nat_abs z)

-- numbers, a space before each
abbrev pub spaced : List ℤ → List ℕ
spaced [] = []
spaced (z ∷ zs) = 32 ∷ (integer z ++ spaced zs)

-- a letter and numbers, one space between, and the end of the line
unfoldable pub line : ℕ → List ℤ → List ℕ
line letter zs = letter ∷ (spaced zs ++ (10 ∷ []))

-- "An inverse prints "I w h railcount" and the residuals"
abbrev pub inverse_text : ℕ → ℕ → ℕ → List ℤ → List ℕ
inverse_text w h rails residuals = line 73 (pos w ∷ pos h ∷ pos rails ∷ residuals)

-- "a forward prints "F w h" and the coefficients"
abbrev pub forward_text : ℕ → ℕ → List ℤ → List ℕ
forward_text w h coefficients = line 70 (pos w ∷ pos h ∷ coefficients)

-- "It prints "R number offset""
abbrev pub refusal_text : ℕ → ℕ → List ℕ
refusal_text number offset = line 82 (pos number ∷ pos offset ∷ [])
