-- What the runner's functions are to give, part by part: one step from its four numbers, the states between, the output cells.
use Rattle.std.specs.Prelude.{Bool, false, cond, ◌||◌, List, [], ◌∷◌, Result, Ok, Err, ℕ, zero, suc, ◌+◌, ltb, get_or, ℤ, pos, neg_ℤ, ◌+ℤ◌, ◌-ℤ◌, ◌*ℤ◌}
use Rattle.algebra.specs.Equal.{eq_z}
use Rattle.algebra.specs.Lists.{at}
use Rattle.meaning.specs.declared.refusal.Refusal.{Refusal}
use Rattle.meaning.specs.Refusal.{refusal_number}
use Rattle.steps.specs.Steps.{Step, State, Run, refused, ran}
use Rattle.steps.specs.Numbers.{cell_of, step_from}

abbrev pub reads_two : ℤ → Bool
reads_two o = eq_z o (pos 0) || eq_z o (pos 1)

-- what a step makes of the first number it reads, and of the second or the constant
abbrev pub combined : ℤ → ℤ → ℤ → ℤ
combined o x y = cond (eq_z o (pos 0)) (x +ℤ y) (cond (eq_z o (pos 1)) (x -ℤ y) (cond (eq_z o (pos 2)) (neg_ℤ x) (y *ℤ x)))

-- the step that starts at place i
abbrev pub step_at : List ℤ → ℕ → Step
step_at s i = step_from (at s i) (cell_of (at s (i + 1))) (cell_of (at s (i + 2))) (at s (i + 3))

abbrev pub state : List ℤ → List Bool → ℕ → State ℤ
state v w c = record { values = v; written = w; count = c }

-- 0 and the state, or the number that refuses
abbrev pub tell : {A : Type 0} → ℕ → A → Run A
tell zero st = ran st
tell (suc k) st = refused (suc k)

-- the same with the count of the multiplying steps, or the refusal
abbrev pub tell_count : {A : Type 0} → Result ℕ Refusal → (ℕ → A) → Run A
tell_count (Ok count) st = ran (st count)
tell_count (Err refusal) st = refused (refusal_number refusal)

-- the first output cell that is refused; 0 where none is
unfoldable pub outs_refusal : ℕ → List Bool → List ℤ → ℕ
outs_refusal n w [] = 0
outs_refusal n w (o ∷ os) = cond (ltb (cell_of o) n) (cond (get_or w (cell_of o) false) (outs_refusal n w os) 17) 28

-- what the output cells hold
unfoldable pub readings : List ℤ → List ℤ → List ℤ
readings v [] = []
readings v (o ∷ os) = at v (cell_of o) ∷ readings v os
