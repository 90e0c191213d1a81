-- The refusals before the first step, the cells that a run starts from, and the ways in which it ends. Assumes nothing.
use mathlib.Core.Path.{◌≡◌, refl, sym, ap, ◌∙◌}
use mathlib.Core.Bool.{Bool, true, false, cond, not, ◌||◌}
use mathlib.Core.List.{List, [], ◌∷◌, ◌++◌, map}
use Prim.Native.Nat.{ℕ, zero, suc, ◌-◌, ◌/◌, ◌≤◌, ◌<◌}
use native.Mathlib.Omega.{arith}
use native.Mathlib.Nat.{sub-zero, zero-sub, suc-sub-suc}
use lib.Dec.{ltb, eqb}
use lib.IntN.{ℤ, pos}
use lib.ListN.{length, drop, replicate}
use borrow.Author.Tests.{ltb-false, eqb-true}
use Rattle.algebra.specs.Refusals.{number_of}
use Rattle.meaning.specs.declared.refusal.Refusal.{Refusal}
use Rattle.meaning.specs.Refusal.{refusal_number}
use Rattle.steps.specs.Steps.{Run, refused, ran, and_then, first_state, finished}
use Rattle.steps.specs.Numbers.{cell_of, decode, list_of}
use Rattle.steps.specs.Outcome.{Result, untouched, list_tests, given, whole_numbers}
use Rattle.step_run.specs.Parts.{state, tell, outs_refusal, readings}
use Rattle.step_run.proofs.Laws.{decoded, read-outs}
use Rattle.meaning.proofs.RefusalNumbers.{above}

-- ---- before the first step
map-long : (os : List ℤ) → length (map cell_of os) ≡ length os
map-long [] = refl
map-long (o ∷ os) = ap suc (map-long os)

-- the tests as the code has them: four numbers are a step
pub tests-are : (inputs cells : ℕ) (s outs : List ℤ) (a b : ℕ)
    → list_tests (length s / 4) cells inputs (length outs) a b ≡ list_tests (length (list_of inputs cells s outs).steps) cells inputs (length (list_of inputs cells s outs).outs) a b
tests-are inputs cells s outs a b =
    let d = decoded s in
    let e : length s / 4 ≡ length (decode s) = omega (arith, d.0, d.1) in
    λ i. list_tests (e i) cells inputs (sym (map-long outs) i) a b

pub passed : (steps cells inputs outs a b : ℕ) → number_of (list_tests steps cells inputs outs a b) ≡ 0 → ((steps ≤ 2048) × (cells ≤ 2048)) × ((a ≤ cells) × (b ≡ outs))
passed steps cells inputs outs a b e =
    let f = go (ltb 2048 steps) (ltb 2048 cells) (eqb a inputs) (eqb b outs) (ltb cells inputs) e in
    let i : a ≡ inputs = eqb-true a inputs f.1.0 in
    let k : inputs ≤ cells = ltb-false cells inputs f.1.1.1 in
    ((ltb-false 2048 steps f.0.0, ltb-false 2048 cells f.0.1), (omega arith, eqb-true b outs f.1.1.0))
  where
    go : (p q r s t : Bool) → ◌≡◌ {A = ℕ} (cond (p || q) 18 (cond (not r) 6 (cond (not s) 7 (cond t 28 0)))) 0
        → ((p ≡ false) × (q ≡ false)) × ((r ≡ true) × ((s ≡ true) × (t ≡ false)))
    go true q r s t e = absurd (omega arith)
    go false true r s t e = absurd (omega arith)
    go false false false s t e = absurd (omega arith)
    go false false true false t e = absurd (omega arith)
    go false false true true true e = absurd (omega arith)
    go false false true true false e = ((refl, refl), (refl, (refl, refl)))

-- ---- the cells at the start
drop-same : {A : Type 0} (k n : ℕ) (a : A) → drop k (replicate n a) ≡ replicate (n - k) a
drop-same zero n a = ap (λ m. replicate m a) (sym (sub-zero n))
drop-same (suc k) zero a = ap (λ m. replicate m a) (sym (zero-sub (suc k)))
drop-same (suc k) (suc n) a = drop-same k n a ∙ ap (λ m. replicate m a) (sym (suc-sub-suc n k))

pub started : (x v : List ℤ) (w : List Bool) → v ≡ x ++ drop (length x) (replicate 2048 (pos 0)) → w ≡ replicate (length x) true ++ drop (length x) (replicate 2048 false)
    → state v w 0 ≡ first_state whole_numbers x
started x v w e f =
    λ i. record {
      values = (e ∙ (λ j. x ++ drop-same (length x) 2048 (pos 0) j)) i;
      written = (f ∙ (λ j. replicate (length x) true ++ drop-same (length x) 2048 false j)) i;
      count = 0;
    }

-- ---- a number that is told, and one that is not
pub told : {A : Type 0} (q : ℕ) (a : A) → (q ≡ 0 → ⊥) → refused q ≡ tell q a
told zero a h = absurd (h refl)
told (suc k) a h = refl

untold : {A : Type 0} (q : ℕ) (a : A) → q ≡ 0 → ran a ≡ tell q a
untold zero a h = refl
untold (suc k) a h = absurd (omega arith)

-- 0 is the number of none
pub numbered : (refusal : Refusal) → refusal_number refusal ≡ 0 → ⊥
numbered refusal e = let p = above refusal in omega (arith, p, e)

module _ (n : ℕ) (outs y v : List ℤ) (w : List Bool) (c : ℕ) where
  -- the output cells: the first that is refused, or what they hold
  abbrev last : Run (List ℤ) → Result
  last r = given y (and_then r (λ l. ran (record { outs = l; count = c })))

  pub not-read : (q : ℕ) → q ≡ outs_refusal n w outs → (q ≡ 0 → ⊥) → untouched y q ≡ given y (finished whole_numbers n (map cell_of outs) (state v w c))
  not-read q u h = ap last (told q (readings v outs) h ∙ ap (λ m. tell m (readings v outs)) u ∙ read-outs n v w c outs)

  pub all_read : (q : ℕ) → q ≡ outs_refusal n w outs → q ≡ 0 → (record { number = 0; count = c }, readings v outs) ≡ given y (finished whole_numbers n (map cell_of outs) (state v w c))
  all_read q u z = ap last (untold q (readings v outs) z ∙ ap (λ m. tell m (readings v outs)) u ∙ read-outs n v w c outs)
