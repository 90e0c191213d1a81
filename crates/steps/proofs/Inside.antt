-- "with every cell inside 32 bits": at every moment of a run that is not refused each cell fits. Any list, any carrier. Assumes
-- nothing.
use mathlib.Core.Path.{◌≡◌, refl, subst}
use mathlib.Core.List.{List, [], ◌∷◌, ◌++◌}
use Prim.Native.Nat.{ℕ, zero, suc}
use lib.Dec.{T}
use lib.ListN.{get_or, set}
use Rattle.steps.specs.Steps.{Step, Carrier, State, Run, refused, ran, and_then, target, result, step, run}
use Rattle.steps.proofs.Count.{Holds, run_holds}

-- not refused, and what holds then
abbrev pub Ran : {A : Type 0} → (A → Type 0) → Run A → Type 0
Ran P (refused k) = ⊥
Ran P (ran a) = P a

pub ran_first : {A B : Type 0} (P : A → Type 0) (Q : B → Type 0) (r : Run A) (f : A → Run B) → Holds P r → Ran Q (and_then r f) → Ran P r
ran_first P Q (refused k) f h q = q
ran_first P Q (ran a) f h q = h

pub any : {A : Type 0} (r : Run A) → Holds (λ a. Unit {0}) r
any (refused k) = tt
any (ran a) = tt

module _ {A : Type 0} (K : Carrier A) (n : ℕ) where
  pub record Fit (s : State A) : Type 0 where
    pub fit : (k : ℕ) → T (K.fits (get_or s.values k K.none))

  set-fit : (l : List A) (t : ℕ) (z : A) → T (K.fits z) → ((k : ℕ) → T (K.fits (get_or l k K.none))) → (k : ℕ) → T (K.fits (get_or (set l t z) k K.none))
  set-fit [] t z f h k = h k
  set-fit (x ∷ l) zero z f h zero = f
  set-fit (x ∷ l) zero z f h (suc k) = h (suc k)
  set-fit (x ∷ l) (suc t) z f h zero = h 0
  set-fit (x ∷ l) (suc t) z f h (suc k) = set-fit l t z f (λ k. h (suc k)) k

  run-fit : (es : List Step) (s : State A) → Fit s → Holds Fit (run K n es s)
  run-fit es s h = run_holds K n (λ es s. Fit s) (λ e es s f h. record { fit = set-fit s.values (target e) (result K n s.values e) f h.fit }) es s h

  run-split : (es fs : List Step) (s : State A) → run K n (es ++ fs) s ≡ and_then (run K n es s) (λ t. run K n fs t)
  unfolding run
  run-split [] fs s = refl
  run-split (e ∷ es) fs s = go (λ t. run-split es fs t) (step K n s e)
    where
      go : ((t : State A) → run K n (es ++ fs) t ≡ and_then (run K n es t) (λ u. run K n fs u)) → (r : Run (State A))
          → and_then r (λ t. run K n (es ++ fs) t) ≡ and_then (and_then r (λ t. run K n es t)) (λ u. run K n fs u)
      go h (refused k) = refl
      go h (ran t) = h t

  -- after any of its first steps
  pub each-moment : (es fs : List Step) (s : State A) → Fit s → Ran (λ t. Unit {0}) (run K n (es ++ fs) s) → Ran Fit (run K n es s)
  each-moment es fs s h r =
      ran_first Fit (λ t. Unit {0}) (run K n es s) (λ t. run K n fs t) (run-fit es s h) (subst (λ (r : Run (State A)). Ran (λ t. Unit {0}) r) (run-split es fs s) r)
