-- Signed tests read back, a step as its parts, and a list that is decoded four numbers at a time. Assumes nothing.
use mathlib.Core.Path.{◌≡◌, refl, sym, ap, subst, ◌∙◌}
use mathlib.Core.Bool.{Bool, true, false, cond, ◌&&◌, ◌||◌, true≢false, false≢true, and_self, and-eq-true_iff}
use mathlib.Core.List.{List, [], ◌∷◌, map}
use Prim.Native.Nat.{ℕ, zero, suc, ◌+◌, ◌*◌, ◌≤◌, ◌<◌, ◌^◌}
use native.Mathlib.Omega.{arith}
use native.Mathlib.Nat.{not-suc-le-zero, le_of_suc-le-suc}
use native.Mathlib.Numerals.{add-one}
use lib.Dec.{ltb}
use lib.IntN.{ℤ, pos, negsuc, nat_abs, neg_ℤ, ◌+ℤ◌, ◌-ℤ◌, ◌*ℤ◌}
use lib.ListN.{length, drop, get_or, set, length-drop, drop_of_length-le}
use lib.Seq.{drop-cons}
use lib.Signed.{lt_z}
use mir.Syntax.{w32}
use mir.Val.{SFits, of_z, to_z}
use mir.ValLaws.{to_z-of_z}
use borrow.Author.Tests.{le-ltb, lt-ltb, ltb-true, ltb-false, eq-eqb}
use Rattle.algebra.specs.Equal.{eq_z}
use Rattle.algebra.specs.Lists.{at, tabulate}
use Rattle.algebra.proofs.Lists.{tabulated}
use Rattle.algebra.proofs.Table.{eq_z-no}
use Rattle.steps.specs.Steps.{Step, add, sub, neg, mul, State, Run, refused, ran, and_then, multiplies, step, run, outputs}
use Rattle.steps.specs.Outcome.{fits32, whole_numbers}
use Rattle.steps.specs.Numbers.{cell_of, step_from, decode}
use Rattle.step_run.specs.Parts.{step_at, reads_two, combined, state, tell, outs_refusal, readings}

-- ---- signed tests
pub is-of : (o : ℤ) (k : ℕ) → SFits w32 o → to_z w32 k ≡ pos k → of_z w32 o ≡ k → eq_z o (pos k) ≡ true
is-of o k f e h = ap (λ (z : ℤ). eq_z z (pos k)) (sym (to_z-of_z w32 o f) ∙ ap (to_z w32) h ∙ e) ∙ eq-eqb k k refl

pub not-of : (o : ℤ) (k : ℕ) → (of_z w32 o ≡ k → ⊥) → eq_z o (pos k) ≡ false
not-of o k n = eq_z-no o (pos k) (λ e. n (ap (of_z w32) e))

pub cell_below : (x : ℤ) → lt_z x (pos 0) ≡ true → 2048 ≡ cell_of x
cell_below (pos n) e = absurd (omega (arith, ltb-true n 0 e))
cell_below (negsuc n) e = refl

pub cell-from : (x : ℤ) → lt_z x (pos 0) ≡ false → nat_abs x ≡ cell_of x
cell-from (pos n) e = refl
cell-from (negsuc n) e = absurd (true≢false e)

pub count_fits : (z : ℤ) → SFits w32 z → nat_abs z < 2 ^ 64
count_fits (pos n) h = omega (arith, h.sfits)
count_fits (negsuc n) h = omega (arith, h.sfits)

pub too-low : (z : ℤ) → lt_z z (negsuc 2147483647) ≡ true → false ≡ fits32 z
too-low (pos n) e = absurd (false≢true e)
too-low (negsuc n) e = sym (le-ltb n 2147483648 (omega (arith, ltb-true 2147483647 n e)))

pub too-high : (z : ℤ) → lt_z (pos 2147483647) z ≡ true → false ≡ fits32 z
too-high (pos n) e = sym (le-ltb n 2147483648 (omega (arith, ltb-true 2147483647 n e)))
too-high (negsuc n) e = absurd (false≢true e)

pub between : (z : ℤ) → lt_z z (negsuc 2147483647) ≡ false → lt_z (pos 2147483647) z ≡ false → true ≡ fits32 z
between (pos n) e f = sym (lt-ltb n 2147483648 (omega (arith, ltb-false 2147483647 n f)))
between (negsuc n) e f = sym (lt-ltb n 2147483648 (omega (arith, ltb-false 2147483647 n e)))

-- ---- a step, by its parts
-- what the step is to be, from its four tests
abbrev pub stepped : ℕ → List ℤ → List Bool → ℕ → ℕ → ℕ → ℤ → ℕ → Run (State ℤ)
stepped n v w t a b z c =
    cond (ltb t n && (ltb a n && ltb b n)) (cond (get_or w a false && get_or w b false) (cond (fits32 z) (ran (state (set v t z) (set w t true) c)) (refused 29)) (refused 17)) (refused 28)

pub step-parts : (o : ℤ) (t a : ℕ) (d : ℤ) (n : ℕ) (v : List ℤ) (w : List Bool) (c : ℕ)
    → step whole_numbers n (state v w c) (step_from o t a d)
    ≡ stepped n v w t a (cond (reads_two o) (cell_of d) a) (combined o (at v a) (cond (reads_two o) (at v (cond (reads_two o) (cell_of d) a)) d)) (c + multiplies (step_from o t a d))
step-parts o t a d n v w c = go (eq_z o (pos 0)) (eq_z o (pos 1)) (eq_z o (pos 2))
  where
    go : (x y z : Bool)
        → step whole_numbers n (state v w c) (cond x (add t a (cell_of d)) (cond y (sub t a (cell_of d)) (cond z (neg t a) (mul t a d))))
        ≡ stepped n v w t a (cond (x || y) (cell_of d) a)
        (cond x (at v a +ℤ cond (x || y) (at v (cond (x || y) (cell_of d) a)) d)
        (cond y (at v a -ℤ cond (x || y) (at v (cond (x || y) (cell_of d) a)) d) (cond z (neg_ℤ (at v a)) (cond (x || y) (at v (cond (x || y) (cell_of d) a)) d *ℤ at v a))))
        (c + multiplies (cond x (add t a (cell_of d)) (cond y (sub t a (cell_of d)) (cond z (neg t a) (mul t a d)))))
    go true y z = refl
    go false true z = refl
    go false false true = rw (and_self (ltb a n), and_self (get_or w a false))
    go false false false = rw (and_self (ltb a n), and_self (get_or w a false))

pub three : (t a b n : ℕ) → ltb t n && (ltb a n && ltb b n) ≡ true → (t < n) × ((a < n) × (b < n))
three t a b n e =
    let one = (and-eq-true_iff (ltb t n) (ltb a n && ltb b n)).0 e in
    let two = (and-eq-true_iff (ltb a n) (ltb b n)).0 one.1 in
    (ltb-true t n one.0, (ltb-true a n two.0, ltb-true b n two.1))

-- ---- four numbers at a time
pub decode-next : (s : List ℤ) (i : ℕ) → i + 4 ≤ length s → decode (drop i s) ≡ step_at s i ∷ decode (drop (i + 4) s)
unfolding decode
decode-next s i h = ap decode (four s i h)
  where
    four : (s : List ℤ) (i : ℕ) → i + 4 ≤ length s → drop i s ≡ at s i ∷ at s (i + 1) ∷ at s (i + 2) ∷ at s (i + 3) ∷ drop (i + 4) s
    four s i h =
        drop-cons s i (pos 0) (omega arith)
        ∙ ap (λ l. at s i ∷ l) (ap (λ k. drop k s) (sym (add-one i)) ∙ drop-cons s (i + 1) (pos 0) (omega arith)
        ∙ ap (λ l. at s (i + 1) ∷ l) (ap (λ k. drop k s) (more 1) ∙ drop-cons s (i + 2) (pos 0) (omega arith)
        ∙ ap (λ l. at s (i + 2) ∷ l) (ap (λ k. drop k s) (more 2) ∙ drop-cons s (i + 3) (pos 0) (omega arith)
        ∙ ap (λ l. at s (i + 3) ∷ l) (ap (λ k. drop k s) (more 3)))))
      where
        more : (m : ℕ) → suc (i + m) ≡ i + suc m
        more m = omega arith

pub decode-end : (s : List ℤ) → length s < 4 → decode s ≡ []
unfolding decode
decode-end [] h = refl
decode-end (o ∷ []) h = refl
decode-end (o ∷ t ∷ []) h = refl
decode-end (o ∷ t ∷ a ∷ []) h = refl
decode-end (o ∷ t ∷ a ∷ d ∷ s) h = absurd (omega arith)

-- ---- the loop: the step at place i is refused, or is taken, or there is none left
module _ (n : ℕ) (s : List ℤ) (i : ℕ) (st : State ℤ) where
  ahead : i + 4 ≤ length s → run whole_numbers n (decode (drop i s)) st ≡ and_then (step whole_numbers n st (step_at s i)) (λ t. run whole_numbers n (decode (drop (i + 4) s)) t)
  unfolding run
  ahead h = ap (λ (es : List Step). run whole_numbers n es st) (decode-next s i h)

  pub stops : (r : ℕ) (x y : State ℤ) → i + 4 ≤ length s → (r ≡ 0 → ⊥) → tell r x ≡ step whole_numbers n st (step_at s i) → tell r y ≡ run whole_numbers n (decode (drop i s)) st
  stops zero x y h z e = absurd (z refl)
  stops (suc k) x y h z e = ap (λ (q : Run (State ℤ)). and_then q (λ t. run whole_numbers n (decode (drop (i + 4) s)) t)) e ∙ sym (ahead h)

  pub goes_on : (r : ℕ) (x : State ℤ) → i + 4 ≤ length s → r ≡ 0 → tell r x ≡ step whole_numbers n st (step_at s i) → run whole_numbers n (decode (drop (i + 4) s)) x ≡ run whole_numbers n (decode (drop i s)) st
  goes_on zero x h z e = ap (λ (q : Run (State ℤ)). and_then q (λ t. run whole_numbers n (decode (drop (i + 4) s)) t)) e ∙ sym (ahead h)
  goes_on (suc k) x h z e = absurd (omega arith)

  pub ends : length s < i + 4 → ran st ≡ run whole_numbers n (decode (drop i s)) st
  unfolding run
  ends h = sym (ap (λ (es : List Step). run whole_numbers n es st) (decode-end (drop i s) (omega (arith, length-drop i s))))

  -- the same, with the count as the code has it
  pub goes-counted : (r : ℕ) (v : List ℤ) (w : List Bool) (c m : ℕ) → i + 4 ≤ length s → r ≡ 0 → m ≡ multiplies (step_at s i)
      → tell r (state v w (c + multiplies (step_at s i))) ≡ step whole_numbers n st (step_at s i) → run whole_numbers n (decode (drop (i + 4) s)) (state v w (c + m)) ≡ run whole_numbers n (decode (drop i s)) st
  goes-counted r v w c m h z q e =
      ap (λ (k : ℕ). run whole_numbers n (decode (drop (i + 4) s)) (state v w (c + k))) q ∙ goes_on r (state v w (c + multiplies (step_at s i))) h z e

-- a step that is written in two ways
pub step-moved : (n : ℕ) (v v' : List ℤ) (w w' : List Bool) (r : ℕ) (e f : Step) → e ≡ f → ((k : ℕ) → tell r (state v' w' (k + multiplies e)) ≡ step whole_numbers n (state v w k) e)
    → (k : ℕ) → tell r (state v' w' (k + multiplies f)) ≡ step whole_numbers n (state v w k) f
step-moved n v v' w w' r e f p h k = subst (λ (g : Step). tell r (state v' w' (k + multiplies g)) ≡ step whole_numbers n (state v w k) g) p (h k)

-- ---- the output cells
pub unread-next : (n : ℕ) (w : List Bool) (os : List ℤ) (i : ℕ) → i < length os
    → outs_refusal n w (drop i os) ≡ cond (ltb (cell_of (at os i)) n) (cond (get_or w (cell_of (at os i)) false) (outs_refusal n w (drop (i + 1) os)) 17) 28
unfolding outs_refusal
unread-next n w os i h = ap (outs_refusal n w) (drop-cons os i (pos 0) h ∙ ap (λ k. at os i ∷ drop k os) (sym (add-one i)))

pub unread-end : (n : ℕ) (w : List Bool) (os : List ℤ) (i : ℕ) → length os ≤ i → outs_refusal n w (drop i os) ≡ 0
unfolding outs_refusal
unread-end n w os i h = ap (outs_refusal n w) (drop_of_length-le os h)

pub read-outs : (n : ℕ) (v : List ℤ) (w : List Bool) (c : ℕ) (os : List ℤ) → tell (outs_refusal n w os) (readings v os) ≡ outputs whole_numbers n (map cell_of os) (state v w c)
unfolding outs_refusal readings outputs
read-outs n v w c [] = refl
read-outs n v w c (o ∷ os) = go (ltb (cell_of o) n) (get_or w (cell_of o) false) (outs_refusal n w os) (outputs whole_numbers n (map cell_of os) (state v w c)) (read-outs n v w c os)
  where
    go : (x y : Bool) (r : ℕ) (q : Run (List ℤ)) → tell r (readings v os) ≡ q
        → tell (cond x (cond y r 17) 28) (at v (cell_of o) ∷ readings v os) ≡ cond x (cond y (and_then q (λ l. ran (at v (cell_of o) ∷ l))) (refused 17)) (refused 28)
    go false y r q e = refl
    go true false r q e = refl
    go true true zero q e = ap (λ (p : Run (List ℤ)). and_then p (λ l. ran (at v (cell_of o) ∷ l))) e
    go true true (suc k) q e = ap (λ (p : Run (List ℤ)). and_then p (λ l. ran (at v (cell_of o) ∷ l))) e

pub readings-long : (v os : List ℤ) → length (readings v os) ≡ length os
unfolding readings
readings-long v [] = refl
readings-long v (o ∷ os) = ap suc (readings-long v os)

pub readings-at : (v os : List ℤ) (k : ℕ) → k < length os → at (readings v os) k ≡ at v (cell_of (at os k))
unfolding readings
readings-at v [] k h = absurd (not-suc-le-zero h)
readings-at v (o ∷ os) zero h = refl
readings-at v (o ∷ os) (suc k) h = readings-at v os k (le_of_suc-le-suc h)

-- ---- "18 for more than 2,048 steps"
pub decoded : (s : List ℤ) → (4 * length (decode s) ≤ length s) × (length s < 4 * length (decode s) + 4)
unfolding decode
decoded [] = (omega arith, omega arith)
decoded (o ∷ []) = (omega arith, omega arith)
decoded (o ∷ t ∷ []) = (omega arith, omega arith)
decoded (o ∷ t ∷ a ∷ []) = (omega arith, omega arith)
decoded (o ∷ t ∷ a ∷ d ∷ s) = (omega (arith, (decoded s).0, (decoded s).1), omega (arith, (decoded s).0, (decoded s).1))

pub unread-at : (n : ℕ) (w : List Bool) (os : List ℤ) (i o : ℕ) → i < length os → o ≡ cell_of (at os i)
    → outs_refusal n w (drop i os) ≡ cond (ltb o n) (cond (get_or w o false) (outs_refusal n w (drop (i + 1) os)) 17) 28
unread-at n w os i o h e = unread-next n w os i h ∙ ap (λ (k : ℕ). cond (ltb k n) (cond (get_or w k false) (outs_refusal n w (drop (i + 1) os)) 17) 28) (sym e)

pub readings-are : (v os : List ℤ) → readings v os ≡ tabulate (length os) (λ k. at v (cell_of (at os k)))
readings-are v os = tabulated (length os) (readings v os) (λ k. at v (cell_of (at os k))) (readings-long v os) (λ k h. readings-at v os k h)
