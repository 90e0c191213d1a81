-- Document 02, Wish 6: a run of whole numbers, its refusals, and what comes back.
use Rattle.std.specs.Prelude.{Bool, ◌||◌, List, [], ◌∷◌, ℕ, ◌^◌, ◌≤◌, ◌<◌, ltb, ℤ, pos, neg_ℤ, nat_abs, ◌+ℤ◌, ◌-ℤ◌, ◌*ℤ◌, length}
use Rattle.std.specs.Int.Signed.{mag}
use Rattle.algebra.specs.Lists.{at}
use Rattle.algebra.specs.Refusals.{Test, first_of}
use Rattle.meaning.specs.Answer.{test, input_test, output_test}
use Rattle.steps.specs.declared.StepCount.{StepCount}
use Rattle.steps.specs.Steps.{StepList, Carrier, Done, Run, refused, ran, whole_run, limit}

-- "29 for a result outside 32 bits": `mag z` is n both for n and for -(n + 1)
abbrev pub fits32 : ℤ → Bool
fits32 z = ltb (mag z) (2 ^ 31)

abbrev pub whole_numbers : Carrier ℤ
whole_numbers = record { none = pos 0; plus = ◌+ℤ◌; minus = ◌-ℤ◌; less = neg_ℤ; times = ◌*ℤ◌; fits = fits32 }

-- "every 16-bit input"
abbrev pub Sixteen : List ℤ → Type 0
Sixteen xs = (k : ℕ) → k < length xs → nat_abs (at xs k) ≤ 32768

-- what a run hands back, and what its output holds then
abbrev pub Result : Type 0
Result = StepCount × List ℤ

-- "output untouched and count 0"
abbrev pub untouched : List ℤ → ℕ → Result
untouched out number = (record { number = number; count = 0 }, out)

-- "18 for more than 2,048 steps or cells; 6 and 7 for lengths other than the list's own"; "more inputs than cells is 28, before any
-- step"
abbrev pub list_tests : (steps cells inputs outs input output : ℕ) → List Test
list_tests steps cells inputs outs input output =
    test (ltb limit steps || ltb limit cells) 18
    ∷ input_test inputs input
    ∷ output_test outs output
    ∷ test (ltb cells inputs) 28
    ∷ []

abbrev pub given : List ℤ → Run (Done ℤ) → Result
given out (refused number) = untouched out number
given out (ran d) = (record { number = 0; count = d.count }, d.outs)

unfoldable pub steps_outcome : StepList → List ℤ → List ℤ → Result
steps_outcome p xs out =
    first_of (list_tests (length p.steps) p.cells p.inputs (length p.outs) (length xs) (length out))
    (λ number place. untouched out number)
    (given out (whole_run whole_numbers p xs))
