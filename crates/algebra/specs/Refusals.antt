-- Document 01, "Numbers handed back when a call is turned down": "Checked in this order; the first that applies is given". Tests
-- in a fixed order, each with the number and the place that it hands back.
use Rattle.std.specs.Prelude.{Bool, cond, List, [], ◌∷◌, ℕ}

pub record Test : Type 0 where
  pub applies : Bool
  pub number : ℕ
  pub place : ℕ

-- the first refusal that applies, as `refused` makes it; where none applies, what is done
abbrev pub first_of : {A : Type 0} → List Test → (ℕ → ℕ → A) → A → A
first_of [] refused done = done
first_of (t ∷ ts) refused done = cond t.applies (refused t.number t.place) (first_of ts refused done)

-- its number alone, and 0 where none applies
abbrev pub number_of : List Test → ℕ
number_of tests = first_of tests (λ number place. number) 0
