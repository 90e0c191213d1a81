-- Document 02, Wish 6: "read our forward DST-VII as data". A list of steps as numbers, four to a step: the operation, the cell
-- written, the cell read, and the second cell read or the constant. Any numbers are a list.
use Rattle.std.specs.Prelude.{cond, List, [], ◌∷◌, map, ℕ, ℤ, pos, negsuc}
use Rattle.algebra.specs.Equal.{eq_z}
use Rattle.steps.specs.Steps.{Step, add, sub, neg, mul, StepList, limit}

-- a negative number names no cell
abbrev pub cell_of : ℤ → ℕ
cell_of (pos k) = k
cell_of (negsuc k) = limit

-- 0 adds, 1 subtracts, 2 negates, any other operation multiplies
abbrev pub step_from : ℤ → ℕ → ℕ → ℤ → Step
step_from o t a d =
    cond (eq_z o (pos 0)) (add t a (cell_of d)) (cond (eq_z o (pos 1)) (sub t a (cell_of d)) (cond (eq_z o (pos 2)) (neg t a) (mul t a d)))

-- fewer than four numbers at the end are no step
unfoldable pub decode : List ℤ → List Step
decode [] = []
decode (o ∷ []) = []
decode (o ∷ t ∷ []) = []
decode (o ∷ t ∷ a ∷ []) = []
decode (o ∷ t ∷ a ∷ d ∷ s) = step_from o (cell_of t) (cell_of a) d ∷ decode s

abbrev pub list_of : ℕ → ℕ → List ℤ → List ℤ → StepList
list_of inputs cells s outs = record { inputs = inputs; cells = cells; steps = decode s; outs = map cell_of outs }

-- the other way: the numbers of a list; a step that negates has 0 for its fourth
unfoldable pub encode : List Step → List ℤ
encode [] = []
encode (add t a b ∷ ss) = pos 0 ∷ pos t ∷ pos a ∷ pos b ∷ encode ss
encode (sub t a b ∷ ss) = pos 1 ∷ pos t ∷ pos a ∷ pos b ∷ encode ss
encode (neg t a ∷ ss) = pos 2 ∷ pos t ∷ pos a ∷ pos 0 ∷ encode ss
encode (mul t a c ∷ ss) = pos 3 ∷ pos t ∷ pos a ∷ c ∷ encode ss
