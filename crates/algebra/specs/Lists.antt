-- Document 01, "Blocks": "Numbers stand row by row. Place x + y*w is column x, row y." Lists by index: the number at a place, a
-- list of n values, a block of h rows of w values, and rows joined.
use Rattle.std.specs.Prelude.{List, [], ◌∷◌, ◌++◌, ℕ, zero, suc, get_or, length, drop, ℤ, pos}

-- what stands at place k, and 0 past the end
abbrev pub at : List ℤ → ℕ → ℤ
at xs k = get_or xs k (pos 0)

-- f 0, .., f (n - 1)
unfoldable pub tabulate : ℕ → (ℕ → ℤ) → List ℤ
tabulate zero f = []
tabulate (suc n) f = tabulate n f ++ (f n ∷ [])

-- row by row: f x y stands in column x of row y
unfoldable pub block : ℕ → ℕ → (ℕ → ℕ → ℤ) → List ℤ
block w zero f = []
block w (suc h) f = block w h f ++ tabulate w (λ x. f x h)

-- what is written at the start of a buffer; what it held behind that stays
abbrev pub over : {A : Type 0} → List A → List A → List A
over l held = l ++ drop (length l) held

-- rows, one after the other
unfoldable pub flat : List (List ℤ) → List ℤ
flat [] = []
flat (row ∷ rows) = row ++ flat rows
