-- Document 01, "How much a contract has to settle": "Demand 3 is stated of demand 2's values". The words of demand 3: the exact
-- double sum, A, and the four parts of a residual, over any plan.
use Rattle.std.specs.Prelude.{List, ℕ, ◌^◌, ℤ, pos, nat_abs, ◌-ℤ◌, ◌*ℤ◌}
use Rattle.algebra.specs.Sum.{sum, sumℕ}
use Rattle.meaning.specs.Weights.{weight}
use Rattle.meaning.specs.Plan.{Plan}
use Rattle.meaning.specs.Inverse.{column_sum, rounded, middle_at, row_sum, residual}

-- a number for each kept column, carried through the horizontal weights to column x
unfoldable pub carried : Plan → ℕ → (ℕ → ℤ) → ℤ
carried p x f = sum p.columns (λ i. weight p.horizontal p.width i x *ℤ f i)

-- demand 3: "the exact double sum", with nothing rounded
unfoldable pub exact : Plan → List ℤ → ℕ → ℕ → ℤ
exact p c x y = carried p x (λ i. column_sum p c i y)

-- demand 3: A, the sum of the sizes of the horizontal weights used for a residual's column
unfoldable pub weight_sizes : Plan → ℕ → ℕ
weight_sizes p x = sumℕ p.columns (λ i. nat_abs (weight p.horizontal p.width i x))

-- document 02, Wish 4: "Put over 2^(27-d)". What stands behind ">>7" stands over 2^(20-d), and 2^7 times it over 2^(27-d)
abbrev pub scaled : ℤ → ℤ
scaled z = pos 128 *ℤ z

-- what the middle roundings added
unfoldable pub middle_roundings : Plan → List ℤ → ℕ → ℕ → ℤ
middle_roundings p c x y = carried p x (λ i. scaled (rounded (column_sum p c i y)) -ℤ column_sum p c i y)

-- what clipping added
unfoldable pub clippings : Plan → List ℤ → ℕ → ℕ → ℤ
clippings p c x y = carried p x (λ i. scaled (middle_at p c i y -ℤ rounded (column_sum p c i y)))

-- what the last rounding added
unfoldable pub last_rounding : Plan → List ℤ → ℕ → ℕ → ℤ
last_rounding p c x y = scaled (pos (2 ^ p.last) *ℤ residual p c x y -ℤ row_sum p c x y)
