-- Document 02, Wish 9: "running sums wrap modulo 2^32 on purpose": the bits of a whole number, the number that bits are read as, and
-- what an adder holds.
use Rattle.std.specs.Prelude.{ℕ, suc, ◌+◌, ◌-◌, ◌%◌, ◌^◌, cond, List, [], ◌∷◌, ℤ, pos, negsuc, nat_lt}

-- a number modulo 2^32
abbrev pub wrap : ℤ → ℕ
wrap (pos n) = n % 2 ^ 32
wrap (negsuc n) = 2 ^ 32 - suc (n % 2 ^ 32)

-- 32 bits, read as a signed number
abbrev pub signed_of : ℕ → ℤ
signed_of n = cond (nat_lt n (2 ^ 31)) (pos n) (negsuc (2 ^ 32 - suc n))

-- "It feeds products in any order, starts from the number left in its adder": what the adder holds at the end
unfoldable pub adder : ℕ → List ℕ → (ℕ → ℤ) → ℕ
adder start [] p = start
adder start (i ∷ l) p = adder ((start + wrap (p i)) % 2 ^ 32) l p
