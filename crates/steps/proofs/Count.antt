-- What holds along a run, over any carrier and any list; and by it "the runner reports how many it took, and that is the number in
-- the list". Assumes nothing.
use mathlib.Core.Path.{◌≡◌, sym, ◌∙◌}
use mathlib.Core.Bool.{Bool, true, false, cond}
use mathlib.Core.List.{List, [], ◌∷◌}
use Prim.Native.Nat.{ℕ, ◌+◌}
use native.Mathlib.Nat.{add-zero, add_assoc, zero-add}
use lib.Dec.{T}
use Rattle.steps.specs.Steps.{Step, StepList, Carrier, State, Done, Run, refused, ran, and_then, inside, known, multiplies, multiplying, result, wrote, step, run, outputs, first_state, finished, whole_run}

-- what holds of a run that is not refused
abbrev pub Holds : {A : Type 0} → (A → Type 0) → Run A → Type 0
Holds P (refused k) = Unit {0}
Holds P (ran a) = P a

pub after_holds : {A B : Type 0} (P : A → Type 0) (Q : B → Type 0) (r : Run A) (f : A → Run B) → ((a : A) → P a → Holds Q (f a)) → Holds P r → Holds Q (and_then r f)
after_holds P Q (refused k) f h p = tt
after_holds P Q (ran a) f h p = h a p

module _ {A : Type 0} (K : Carrier A) (n : ℕ) where
  step-holds : (P : State A → Type 0) (s : State A) (e : Step) → (T (K.fits (result K n s.values e)) → P (wrote K n s e (result K n s.values e))) → Holds P (step K n s e)
  step-holds P s e p = go (inside n e) (known s.written e) (K.fits (result K n s.values e)) p
    where
      go : (i k f : Bool) → (T f → P (wrote K n s e (result K n s.values e)))
          → Holds P (cond i (cond k (cond f (ran (wrote K n s e (result K n s.values e))) (refused 29)) (refused 17)) (refused 28))
      go false k f p = tt
      go true false f p = tt
      go true true false p = tt
      go true true true p = p tt

  -- P speaks of the steps that are left and the state: each step that is taken keeps it
  pub run_holds : (P : List Step → State A → Type 0)
      → ((e : Step) (es : List Step) (s : State A) → T (K.fits (result K n s.values e)) → P (e ∷ es) s → P es (wrote K n s e (result K n s.values e)))
      → (es : List Step) (s : State A) → P es s → Holds (P []) (run K n es s)
  unfolding run
  run_holds P next [] s p = p
  run_holds P next (e ∷ es) s p = after_holds (P es) (P []) (step K n s e) (λ t. run K n es t) (λ t q. run_holds P next es t q) (step-holds (P es) s e (λ f. next e es s f p))

  run-count : (es : List Step) (s : State A) (m : ℕ) → s.count + multiplying es ≡ m → Holds (λ t. t.count + multiplying [] ≡ m) (run K n es s)
  unfolding multiplying
  run-count es s m e = run_holds (λ es t. t.count + multiplying es ≡ m) more es s e
    where
      more : (e : Step) (es : List Step) (s : State A) → T (K.fits (result K n s.values e)) → s.count + multiplying (e ∷ es) ≡ m → s.count + multiplies e + multiplying es ≡ m
      more e es s f p = add_assoc s.count (multiplies e) (multiplying es) ∙ p

pub whole-count : {A : Type 0} (K : Carrier A) (p : StepList) (xs : List A) → Holds (λ d. d.count ≡ multiplying p.steps) (whole_run K p xs)
unfolding multiplying
whole-count {A} K p xs =
    after_holds (λ t. t.count + 0 ≡ multiplying p.steps) (λ d. d.count ≡ multiplying p.steps) (run K p.cells p.steps (first_state K xs)) (λ st. finished K p.cells p.outs st)
    (λ t q. any t (outputs K p.cells p.outs t) (sym (add-zero t.count) ∙ q))
    (run-count K p.cells p.steps (first_state K xs) (multiplying p.steps) (zero-add (multiplying p.steps)))
  where
    any : (t : State A) (r : Run (List A)) → t.count ≡ multiplying p.steps → Holds (λ (d : Done A). d.count ≡ multiplying p.steps) (and_then r (λ l. ran (record { outs = l; count = t.count })))
    any t (refused k) e = tt
    any t (ran r) e = e
