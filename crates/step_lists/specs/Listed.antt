-- Document 02, Wish 6: "Give such lists for 4, 16 and 32 points", and "the fact that a run equals the full product on every 16-bit
-- input". The list of n points as numbers, and the forward line by it.
use Rattle.std.specs.Prelude.{Bool, not, cond, ◌||◌, List, [], ◌∷◌, map, ℕ, ◌/◌, eqb, ℤ, pos, length}
use Rattle.algebra.specs.Lists.{at}
use Rattle.algebra.specs.Refusals.{Test, first_of}
use Rattle.meaning.specs.Answer.{test, output_test, length_tests}
use Rattle.meaning.specs.Line.{forward_line}
use Rattle.steps.specs.Steps.{StepList}
use Rattle.steps.specs.Numbers.{encode}
use Rattle.steps.specs.Outcome.{Result, untouched}
use Rattle.steps.specs.Lists.{list4, list16, list32}
use Rattle.step_lists.specs.declared.Listed.{Listed}

-- "for 4, 16 and 32 points"
abbrev pub is_listed : ℕ → Bool
is_listed n = eqb n 4 || (eqb n 16 || eqb n 32)

abbrev pub list_for : ℕ → StepList
list_for n = cond (eqb n 4) list4 (cond (eqb n 16) list16 list32)

-- ---- the list as numbers
-- what is told, and what the two buffers hold then
abbrev pub HandedList : Type 0
HandedList = Listed × (List ℤ × List ℤ)

abbrev pub listed : ℕ → ℕ → ℕ → List ℤ → List ℤ → Listed
listed number inputs cells s o = record { number = number; inputs = inputs; cells = cells; steps = length s / 4; outs = length o }

-- numbers s and output cells o into buffers that hold `steps` and `outs`: 7 for a length other than the list's own
abbrev pub handed_list : ℕ → ℕ → List ℤ → List ℤ → List ℤ → List ℤ → HandedList
handed_list inputs cells s o steps outs =
    first_of (output_test (length s) (length steps) ∷ output_test (length o) (length outs) ∷ [])
    (λ number place. (listed number inputs cells s o, (steps, outs)))
    (listed 0 inputs cells s o, (s, o))

-- 1 where n has no list
unfoldable pub list_outcome : ℕ → List ℤ → List ℤ → HandedList
list_outcome n steps outs =
    let p = list_for n in
    cond (is_listed n) (handed_list p.inputs p.cells (encode p.steps) (map pos p.outs) steps outs) (listed 1 0 0 [] [], (steps, outs))

-- ---- the forward line by its list
abbrev pub step_line_tests : ℕ → ℕ → ℕ → List Test
step_line_tests n input output = test (not (is_listed n)) 1 ∷ length_tests n input output

-- "The multiplying steps in the lists number at most 8, 127 and 620"
abbrev pub count_of : ℕ → ℕ
count_of n = cond (eqb n 4) 8 (cond (eqb n 16) 127 620)

-- the full product, and as many multiplying steps as the list has
abbrev pub step_line : ℕ → List ℤ → Result
step_line n x = (record { number = 0; count = count_of n }, forward_line 1 n (at x))

unfoldable pub step_line_outcome : ℕ → List ℤ → List ℤ → Result
step_line_outcome n x y = first_of (step_line_tests n (length x) (length y)) (λ number place. untouched y number) (step_line n x)
