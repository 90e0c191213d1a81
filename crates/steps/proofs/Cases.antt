-- Wish 6's refusals in numbers: small lists, most of which meet two refusals at once, and the one that is told; the output stays.
-- Assumes nothing.
use mathlib.Core.Path.{◌≡◌, refl}
use mathlib.Core.List.{List, [], ◌∷◌, map}
use Prim.Native.Nat.{ℕ}
use lib.IntN.{ℤ, pos, negsuc}
use Rattle.steps.specs.Steps.{Step, add, sub, mul, StepList, run, outputs}
use Rattle.steps.specs.Outcome.{Result, steps_outcome}

-- a list over three cells, whose input is 1
abbrev listed : List Step → List ℕ → StepList
listed steps outs = record { inputs = 1; cells = 3; steps = steps; outs = outs }

-- two inputs for one cell; its step would meet 29
abbrev crowded : StepList
crowded = record { inputs = 2; cells = 1; steps = mul 0 0 (pos 2147483648) ∷ []; outs = 0 ∷ [] }

-- cell 1 is -2^31
abbrev lowest : Step
lowest = mul 1 0 (negsuc 2147483647)

-- a list, its inputs, and the number
abbrev Case : Type 0
Case = StepList × (List ℤ × ℕ)

abbrev pub cases : List Case
cases =
    -- 6 before 28 of more inputs than cells, and that before any step
    (crowded, (pos 1 ∷ [], 6))
    ∷ (crowded, (pos 1 ∷ pos 1 ∷ [], 28))
    -- 28 before 17: cell 3 is outside, cell 1 was not written
    ∷ (listed (add 1 1 3 ∷ []) [], (pos 1 ∷ [], 28))
    -- 17 before 29: cell 2 was not written and counts as 0, and 0 - (-2^31) is outside, as 1 - (-2^31) is
    ∷ (listed (lowest ∷ sub 1 2 1 ∷ []) [], (pos 1 ∷ [], 17))
    ∷ (listed (lowest ∷ sub 1 0 1 ∷ []) [], (pos 1 ∷ [], 29))
    -- the first output cell that meets one, behind one that could be written
    ∷ (listed [] (0 ∷ 1 ∷ 3 ∷ []), (pos 1 ∷ [], 17))
    ∷ (listed [] (0 ∷ 3 ∷ 1 ∷ []), (pos 1 ∷ [], 28))
    ∷ []

-- what the output holds before
abbrev held : Case → List ℤ
held v = map (λ (o : ℕ). pos 9) v.0.outs

abbrev got : Case → Result
got v = steps_outcome v.0 v.1.0 (held v)

-- "output untouched and count 0"
abbrev told : Case → Result
told v = (record { number = v.1.1; count = 0 }, held v)

pub cases-hold : map got cases ≡ map told cases
unfolding steps_outcome run outputs
cases-hold = refl
