-- One list run over two carriers: what is related before the run is related after it. Any list; assumes nothing.
use mathlib.Core.Path.{◌≡◌, refl, ap, subst}
use mathlib.Core.Bool.{Bool, true, false, cond}
use mathlib.Core.List.{List, [], ◌∷◌, ◌++◌}
use Prim.Native.Nat.{ℕ, zero, suc, ◌+◌, ◌-◌}
use lib.Dec.{T, ltb}
use lib.IntN.{ℤ}
use lib.ListN.{length, get_or, set, replicate}
use Rattle.steps.specs.Steps.{Step, add, sub, neg, mul, StepList, Carrier, State, Done, Run, refused, ran, and_then, target, inside, known, result, wrote, step, run, outputs, first_state, finished, whole_run, limit}

module _ {A B : Type 0} (K : Carrier A) (L : Carrier B) (R : A → B → Type 0) where
  -- the operations keep the relation, and what fits over K fits over L
  pub record Keeps : Type 0 where
    pub none : R K.none L.none
    pub plus : {a a' : A} {b b' : B} → R a b → R a' b' → R (K.plus a a') (L.plus b b')
    pub minus : {a a' : A} {b b' : B} → R a b → R a' b' → R (K.minus a a') (L.minus b b')
    pub less : {a : A} {b : B} → R a b → R (K.less a) (L.less b)
    pub times : (c : ℤ) {a : A} {b : B} → R a b → R (K.times c a) (L.times c b)
    pub fits : {a : A} {b : B} → R a b → T (K.fits a) → T (L.fits b)

  -- place by place
  pub data Alike : List A → List B → Type 0 where
    nil : Alike [] []
    cons : {a : A} {b : B} {u : List A} {v : List B} → R a b → Alike u v → Alike (a ∷ u) (b ∷ v)

  pub record Like (s : State A) (t : State B) : Type 0 where
    pub alike : Alike s.values t.values
    pub written : s.written ≡ t.written

  abbrev pub Same : Done A → Done B → Type 0
  Same d e = Alike d.outs e.outs

  -- where the first is not refused, neither is the second
  abbrev pub Follows : {C D : Type 0} → (C → D → Type 0) → Run C → Run D → Type 0
  Follows Q (refused k) r = Unit {0}
  Follows Q (ran c) (refused k) = ⊥
  Follows Q (ran c) (ran d) = Q c d

  pub after : {C D C' D' : Type 0} (Q : C → D → Type 0) (Q' : C' → D' → Type 0) (r : Run C) (s : Run D) (f : C → Run C') (g : D → Run D')
      → ((c : C) (d : D) → Q c d → Follows Q' (f c) (g d)) → Follows Q r s → Follows Q' (and_then r f) (and_then s g)
  after Q Q' (refused k) s f g h p = tt
  after Q Q' (ran c) (refused k) f g h p = absurd p
  after Q Q' (ran c) (ran d) f g h p = h c d p

  module _ (keeps : Keeps) where
    pub alike_at : {u : List A} {v : List B} → Alike u v → (k : ℕ) → R (get_or u k K.none) (get_or v k L.none)
    alike_at nil k = keeps.none
    alike_at (cons r p) zero = r
    alike_at (cons r p) (suc k) = alike_at p k

    alike_set : {u : List A} {v : List B} → Alike u v → (k : ℕ) {a : A} {b : B} → R a b → Alike (set u k a) (set v k b)
    alike_set nil k q = nil
    alike_set (cons r p) zero q = cons q p
    alike_set (cons r p) (suc k) q = cons r (alike_set p k q)

    pub alike-more : {u : List A} {v : List B} → Alike u v → (n : ℕ) → Alike (u ++ replicate n K.none) (v ++ replicate n L.none)
    alike-more nil n = rest n
      where
        rest : (n : ℕ) → Alike (replicate n K.none) (replicate n L.none)
        rest zero = nil
        rest (suc n) = cons keeps.none (rest n)
    alike-more (cons r p) n = cons r (alike-more p n)

    pub alike-length : {u : List A} {v : List B} → Alike u v → length u ≡ length v
    alike-length nil = refl
    alike-length (cons r p) = ap suc (alike-length p)

    result-like : (n : ℕ) {u : List A} {v : List B} → Alike u v → (s : Step) → R (result K n u s) (result L n v s)
    result-like n p (add t a b) = keeps.plus (alike_at p a) (alike_at p b)
    result-like n p (sub t a b) = keeps.minus (alike_at p a) (alike_at p b)
    result-like n p (neg t a) = keeps.less (alike_at p a)
    result-like n p (mul t a c) = keeps.times c (alike_at p a)

    -- the three tests, of which the first two are the same on both sides
    tests : (i k f g : Bool) (s : State A) (t : State B) → (T f → T g) → Like s t
        → Follows Like (cond i (cond k (cond f (ran s) (refused 29)) (refused 17)) (refused 28)) (cond i (cond k (cond g (ran t) (refused 29)) (refused 17)) (refused 28))
    tests false k f g s t h p = tt
    tests true false f g s t h p = tt
    tests true true false g s t h p = tt
    tests true true true false s t h p = absurd (h tt)
    tests true true true true s t h p = p

    step-like : (n : ℕ) (s : State A) (t : State B) → Like s t → (e : Step) → Follows Like (step K n s e) (step L n t e)
    step-like n s t p e =
        let r = result-like n p.alike e in
        let y = result L n t.values e in
        let next : Like (wrote K n s e (result K n s.values e)) (wrote L n t e y) =
        record { alike = alike_set p.alike (target e) r; written = ap (λ w. set w (target e) true) p.written } in
        subst (λ (k : Bool). Follows Like (step K n s e) (cond (inside n e) (cond k (cond (L.fits y) (ran (wrote L n t e y)) (refused 29)) (refused 17)) (refused 28)))
        (ap (λ w. known w e) p.written)
        (tests (inside n e) (known s.written e) (K.fits (result K n s.values e)) (L.fits y) (wrote K n s e (result K n s.values e)) (wrote L n t e y) (keeps.fits r) next)

    pub run-like : (n : ℕ) (es : List Step) (s : State A) (t : State B) → Like s t → Follows Like (run K n es s) (run L n es t)
    unfolding run
    run-like n [] s t p = p
    run-like n (e ∷ es) s t p = after Like Like (step K n s e) (step L n t e) (λ s'. run K n es s') (λ t'. run L n es t') (λ c d q. run-like n es c d q) (step-like n s t p e)

    pub outputs-like : (n : ℕ) (os : List ℕ) (s : State A) (t : State B) → Like s t → Follows Alike (outputs K n os s) (outputs L n os t)
    unfolding outputs
    outputs-like n [] s t p = nil
    outputs-like n (o ∷ os) s t p =
        let x = and_then (outputs K n os s) (λ r. ran (get_or s.values o K.none ∷ r)) in
        let y = and_then (outputs L n os t) (λ r. ran (get_or t.values o L.none ∷ r)) in
        subst (λ (k : Bool). Follows Alike (outputs K n (o ∷ os) s) (cond (ltb o n) (cond k y (refused 17)) (refused 28)))
        (ap (λ w. get_or w o false) p.written)
        (both (ltb o n) (get_or s.written o false) x y
        (after Alike Alike (outputs K n os s) (outputs L n os t) (λ r. ran (get_or s.values o K.none ∷ r)) (λ r. ran (get_or t.values o L.none ∷ r))
        (λ c d q. cons (alike_at p.alike o) q) (outputs-like n os s t p)))
      where
        both : (i k : Bool) (x : Run (List A)) (y : Run (List B)) → Follows Alike x y → Follows Alike (cond i (cond k x (refused 17)) (refused 28)) (cond i (cond k y (refused 17)) (refused 28))
        both false k x y q = tt
        both true false x y q = tt
        both true true x y q = q

    start-like : {u : List A} {v : List B} → Alike u v → Like (first_state K u) (first_state L v)
    start-like {u} {v} p =
        record {
          alike = rw (alike-length p) (alike-more p (limit - length v));
          written = ap (λ n. replicate n true ++ replicate (limit - n) false) (alike-length p);
        }

    -- the theorem: a list that is not refused over K is not refused over L, and its outputs are related
    pub whole_like : (p : StepList) {u : List A} {v : List B} → Alike u v → Follows Same (whole_run K p u) (whole_run L p v)
    whole_like p {u} {v} q =
        after Like Same (run K p.cells p.steps (first_state K u)) (run L p.cells p.steps (first_state L v))
        (λ st. finished K p.cells p.outs st) (λ st. finished L p.cells p.outs st)
        (λ s t l.
        after Alike Same (outputs K p.cells p.outs s) (outputs L p.cells p.outs t)
        (λ r. ran (record { outs = r; count = s.count })) (λ r. ran (record { outs = r; count = t.count })) (λ c d a. a) (outputs-like p.cells p.outs s t l))
        (run-like p.cells p.steps (first_state K u) (first_state L v) (start-like q))
