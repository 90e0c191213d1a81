-- Linear forms as the contents of cells, and by them a test of a list alone: form u stands for u0*x0 + u1*x1 + .. at inputs x; places past its end are 0.
use mathlib.Core.Bool.{Bool, true, false, ◌&&◌}
use mathlib.Core.List.{List, [], ◌∷◌}
use Prim.Native.Nat.{ℕ, zero, suc, ◌+◌}
use lib.Dec.{ltb, eqb}
use lib.IntN.{ℤ, pos, neg_ℤ, nat_abs, ◌+ℤ◌, ◌*ℤ◌}
use lib.ListN.{length}
use Rattle.algebra.specs.Equal.{eq_z}
use Rattle.algebra.specs.Lists.{at}
use Rattle.algebra.specs.Refusals.{number_of}
use Rattle.algebra.proofs.Table.{all_to}
use Rattle.steps.specs.Steps.{StepList, Carrier, Done, Run, refused, ran, whole_run}
use Rattle.steps.specs.Outcome.{list_tests}

abbrev pub Form : Type 0
Form = List ℤ

abbrev pub plus_f : Form → Form → Form
plus_f [] v = v
plus_f (a ∷ u) [] = a ∷ u
plus_f (a ∷ u) (b ∷ v) = (a +ℤ b) ∷ plus_f u v

abbrev pub less_f : Form → Form
less_f [] = []
less_f (a ∷ u) = neg_ℤ a ∷ less_f u

abbrev pub times_f : ℤ → Form → Form
times_f c [] = []
times_f c (a ∷ u) = (c *ℤ a) ∷ times_f c u

-- the sum of the sizes
abbrev pub sizes : Form → ℕ
sizes [] = 0
sizes (a ∷ u) = nat_abs a + sizes u

-- sizes below this, times 32768, stay below 2^31
abbrev pub bound : ℕ
bound = 65536

abbrev pub forms : Carrier Form
forms = record { none = []; plus = plus_f; minus = λ u v. plus_f u (less_f v); less = less_f; times = times_f; fits = λ u. ltb (sizes u) bound }

-- the forms of n inputs: input i alone
abbrev pub unit : ℕ → Form
unit zero = pos 1 ∷ []
unit (suc i) = pos 0 ∷ unit i

abbrev pub units : ℕ → ℕ → List Form
units i zero = []
units i (suc n) = unit i ∷ units (suc i) n

-- what a form is worth at the inputs xs
abbrev pub worth : Form → List ℤ → ℤ
worth [] xs = pos 0
worth (a ∷ u) [] = pos 0
worth (a ∷ u) (x ∷ xs) = a *ℤ x +ℤ worth u xs

-- "a run equals the full product", as a test of the list alone: followed by forms the list is not refused, and output i is row i of W
unfoldable pub rows_are : (ℕ → ℕ → ℤ) → ℕ → ℕ → List Form → Bool
rows_are W n i [] = true
rows_are W n i (u ∷ us) = all_to n (λ j. eq_z (at u j) (W i j)) && rows_are W n (suc i) us

abbrev pub is_product : (ℕ → ℕ → ℤ) → ℕ → Run (Done Form) → Bool
is_product W n (refused k) = false
is_product W n (ran d) = eqb (length d.outs) n && rows_are W n 0 d.outs

-- no refusal before the first step, with n inputs and n outputs; then the product
unfoldable pub gives : (ℕ → ℕ → ℤ) → ℕ → StepList → Bool
gives W n p =
    eqb (number_of (list_tests (length p.steps) p.cells p.inputs (length p.outs) n n)) 0 && is_product W n (whole_run forms p (units 0 n))
