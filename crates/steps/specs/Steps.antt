-- Document 02, Wish 6: "a list where each step adds, subtracts, negates or multiplies by a constant, on numbered cells". A list of
-- steps and its run, over whatever the cells hold.
use Rattle.std.specs.Prelude.{Bool, true, false, ◌&&◌, cond, List, [], ◌∷◌, ◌++◌, ℕ, ◌+◌, ◌-◌, ltb, ℤ, length, get_or, set, replicate}

-- the cell that is written, then the cell or cells that are read
pub data Step : Type 0 where
  add : ℕ → ℕ → ℕ → Step
  sub : ℕ → ℕ → ℕ → Step
  neg : ℕ → ℕ → Step
  mul : ℕ → ℕ → ℤ → Step

-- "The inputs stand in the first cells, the list names the output cells"
pub record StepList : Type 0 where
  pub inputs : ℕ
  pub cells : ℕ
  pub steps : List Step
  pub outs : List ℕ

-- what cells hold, and what a step does to it
pub record Carrier (A : Type 0) : Type 0 where
  pub none : A
  pub plus : A → A → A
  pub minus : A → A → A
  pub less : A → A
  pub times : ℤ → A → A
  pub fits : A → Bool

-- what the cells hold, which of them were written, and how many multiplying steps were taken
pub record State (A : Type 0) : Type 0 where
  pub values : List A
  pub written : List Bool
  pub count : ℕ

pub data Run (A : Type 0) : Type 0 where
  refused : ℕ → Run A
  ran : A → Run A

abbrev pub and_then : {A B : Type 0} → Run A → (A → Run B) → Run B
and_then (refused k) f = refused k
and_then (ran a) f = f a

abbrev pub target : Step → ℕ
target (add t a b) = t
target (sub t a b) = t
target (neg t a) = t
target (mul t a c) = t

-- every cell of the step is one of the list's n
abbrev pub inside : ℕ → Step → Bool
inside n (add t a b) = ltb t n && (ltb a n && ltb b n)
inside n (sub t a b) = ltb t n && (ltb a n && ltb b n)
inside n (neg t a) = ltb t n && ltb a n
inside n (mul t a c) = ltb t n && ltb a n

-- every cell that the step reads was written
abbrev pub known : List Bool → Step → Bool
known w (add t a b) = get_or w a false && get_or w b false
known w (sub t a b) = get_or w a false && get_or w b false
known w (neg t a) = get_or w a false
known w (mul t a c) = get_or w a false

-- 1 where the step multiplies
abbrev pub multiplies : Step → ℕ
multiplies (add t a b) = 0
multiplies (sub t a b) = 0
multiplies (neg t a) = 0
multiplies (mul t a c) = 1

-- "the number in the list"
unfoldable pub multiplying : List Step → ℕ
multiplying [] = 0
multiplying (s ∷ ss) = multiplies s + multiplying ss

module _ {A : Type 0} (K : Carrier A) (n : ℕ) where
  abbrev pub result : List A → Step → A
  result v (add t a b) = K.plus (get_or v a K.none) (get_or v b K.none)
  result v (sub t a b) = K.minus (get_or v a K.none) (get_or v b K.none)
  result v (neg t a) = K.less (get_or v a K.none)
  result v (mul t a c) = K.times c (get_or v a K.none)

  abbrev pub wrote : State A → Step → A → State A
  wrote st s z = record { values = set st.values (target s) z; written = set st.written (target s) true; count = st.count + multiplies s }

  -- "in this order: 28 for a cell outside the list's number; 17 for reading a cell not yet written; 29 for a result outside 32 bits"
  abbrev pub step : State A → Step → Run (State A)
  step st s =
      let z = result st.values s in
      cond (inside n s) (cond (known st.written s) (cond (K.fits z) (ran (wrote st s z)) (refused 29)) (refused 17)) (refused 28)

  -- "at the first step that meets one"
  unfoldable pub run : List Step → State A → Run (State A)
  run [] st = ran st
  run (s ∷ ss) st = and_then (step st s) (λ st'. run ss st')

  -- "After the last step, 28 and 17 likewise at the first output cell that meets one"
  unfoldable pub outputs : List ℕ → State A → Run (List A)
  outputs [] st = ran []
  outputs (o ∷ os) st =
      cond (ltb o n) (cond (get_or st.written o false)
      (and_then (outputs os st) (λ r. ran (get_or st.values o K.none ∷ r)))
      (refused 17)) (refused 28)

-- "18 for more than 2,048 steps or cells": no list uses a cell from here on
abbrev pub limit : ℕ
limit = 2048

-- "The inputs stand in the first cells"; the others hold nothing yet
abbrev pub first_state : {A : Type 0} → Carrier A → List A → State A
first_state K xs =
    record { values = xs ++ replicate (limit - length xs) K.none; written = replicate (length xs) true ++ replicate (limit - length xs) false; count = 0 }

-- the outputs, and how many multiplying steps were taken
pub record Done (A : Type 0) : Type 0 where
  pub outs : List A
  pub count : ℕ

abbrev pub finished : {A : Type 0} → Carrier A → ℕ → List ℕ → State A → Run (Done A)
finished K n outs st = and_then (outputs K n outs st) (λ r. ran (record { outs = r; count = st.count }))

-- every step from the inputs on, then the output cells
abbrev pub whole_run : {A : Type 0} → Carrier A → StepList → List A → Run (Done A)
whole_run K p xs = and_then (run K p.cells p.steps (first_state K xs)) (λ st. finished K p.cells p.outs st)
