-- Document 02, Wish 13, "How far a round trip can stray": the round trip of a line with nothing rounded, and D.
use Rattle.std.specs.Prelude.{Bool, cond, ◌&&◌, ℕ, ◌*◌, eqb, ltb, ℤ, pos, nat_abs, ◌-ℤ◌, ◌*ℤ◌}
use Rattle.algebra.specs.Sum.{sum, sumℕ}
use Rattle.meaning.specs.Weights.{weight}
use Rattle.meaning.specs.Line.{forward_sum, inverse_sum}
use Rattle.meaning.specs.Shape.{is_size, is_kind}

-- "take the exact forward sums and then the exact inverse sums, with nothing rounded": result j
unfoldable pub round_trip : ℕ → ℕ → (ℕ → ℤ) → ℕ → ℤ
round_trip kind n x j = inverse_sum kind n n (forward_sum kind n x) j

-- "G(j,k) is the product of weight columns j and k"
unfoldable pub G : ℕ → ℕ → ℕ → ℕ → ℤ
G kind n j k = sum n (λ i. weight kind n i j *ℤ weight kind n i k)

-- "less 4096*N at k=j"
unfoldable pub less : ℕ → ℕ → ℕ → ℕ → ℤ
less kind n j k = G kind n j k -ℤ cond (eqb k j) (pos (4096 * n)) (pos 0)

-- "D(j) is the sum over k of the sizes of G(j,k), less 4096*N at k=j before the size is taken"
unfoldable pub D : ℕ → ℕ → ℕ → ℕ
D kind n j = sumℕ n (λ k. nat_abs (less kind n j k))

-- D of a kind, a size and a place that there are, and 0 outside
abbrev pub is_column : ℕ → ℕ → ℕ → Bool
is_column kind n j = is_kind kind && (is_size n && ltb j n)

abbrev pub stray_or_zero : ℕ → ℕ → ℕ → ℕ
stray_or_zero kind n j = cond (is_column kind n j) (D kind n j) 0
