-- Document 01, "Blocks": ""a >> n" is the floor of a over 2^n, for negative a too." The kit's `shr_z` is the division that rounds
-- down.
use Rattle.std.specs.Prelude.{ℕ, ◌^◌, ◌-◌, ℤ, pos, ◌+ℤ◌}
use Rattle.std.specs.Int.Signed.{shr_z}

infixl 6 ◌>>◌
abbrev pub ◌>>◌ : ℤ → ℕ → ℤ
a >> n = shr_z a (2 ^ n)

-- (a + 2^(n-1)) >> n: a over 2^n, to the nearest
abbrev pub nearest : ℕ → ℤ → ℤ
nearest n a = (a +ℤ pos (2 ^ (n - 1))) >> n
