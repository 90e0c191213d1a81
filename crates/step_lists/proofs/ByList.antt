-- The stored numbers are a list again, and what is shown of it holds of a run on them. Assumes nothing.
use mathlib.Core.Path.{◌≡◌, refl, sym, ap, ◌∙◌}
use mathlib.Core.Bool.{Bool, true, false, cond, not}
use mathlib.Core.List.{List, [], ◌∷◌, map}
use Prim.Native.Nat.{ℕ}
use native.Mathlib.Omega.{arith}
use lib.Dec.{eqb}
use lib.IntN.{ℤ, pos}
use lib.ListN.{length}
use borrow.Author.Tests.{eqb-true, ne_eqb}
use Rattle.algebra.specs.Lists.{at}
use Rattle.algebra.specs.Refusals.{number_of}
use Rattle.meaning.specs.Line.{forward_line}
use Rattle.steps.specs.Steps.{Step, add, sub, neg, mul, multiplying}
use Rattle.steps.specs.Numbers.{cell_of, decode, encode, list_of}
use Rattle.steps.specs.Outcome.{Sixteen, steps_outcome}
use Rattle.steps.proofs.Computed.{Right}
use Rattle.step_lists.specs.Listed.{is_listed, list_for, handed_list, list_outcome, count_of, step_line_tests, step_line}

-- ---- from numbers back to the list
decode-encode : (ss : List Step) → decode (encode ss) ≡ ss
unfolding decode encode
decode-encode [] = refl
decode-encode (add t a b ∷ ss) = ap (λ l. add t a b ∷ l) (decode-encode ss)
decode-encode (sub t a b ∷ ss) = ap (λ l. sub t a b ∷ l) (decode-encode ss)
decode-encode (neg t a ∷ ss) = ap (λ l. neg t a ∷ l) (decode-encode ss)
decode-encode (mul t a c ∷ ss) = ap (λ l. mul t a c ∷ l) (decode-encode ss)

cells_of : (os : List ℕ) → map cell_of (map pos os) ≡ os
cells_of [] = refl
cells_of (o ∷ os) = ap (λ l. o ∷ l) (cells_of os)

module _ (n : ℕ) (s o : List ℤ) (e : s ≡ encode (list_for n).steps) (f : o ≡ map pos (list_for n).outs) where
  list_back : list_of (list_for n).inputs (list_for n).cells s o ≡ list_for n
  list_back =
      λ i. record { inputs = (list_for n).inputs; cells = (list_for n).cells; steps = (ap decode e ∙ decode-encode (list_for n).steps) i; outs = (ap (map cell_of) f ∙ cells_of (list_for n).outs) i }

  pub by-list : Right n (list_for n) → multiplying (list_for n).steps ≡ count_of n → (x y : List ℤ) → length x ≡ n → length y ≡ n → Sixteen x → steps_outcome (list_of (list_for n).inputs (list_for n).cells s o) x y ≡ step_line n x
  by-list r c x y l m h = ap (λ p. steps_outcome p x y) list_back ∙ r.runs x y l m h ∙ (λ i. (record { number = 0; count = c i }, forward_line 1 n (at x)))

  pub handed-list : is_listed n ≡ true → (steps outs : List ℤ) → handed_list (list_for n).inputs (list_for n).cells s o steps outs ≡ list_outcome n steps outs
  unfolding list_outcome
  handed-list l steps outs = rw (l, e, f)

-- ---- the tests of a line
third : (n : ℕ) → (n ≡ 4 → ⊥) → (n ≡ 16 → ⊥) → is_listed n ≡ eqb n 32
third n f g = rw (ne_eqb n 4 f, ne_eqb n 16 g)

pub is-third : (n : ℕ) → is_listed n ≡ true → (n ≡ 4 → ⊥) → (n ≡ 16 → ⊥) → n ≡ 32
is-third n l f g = eqb-true n 32 (sym (third n f g) ∙ l)

pub not_listed : (n : ℕ) → (n ≡ 4 → ⊥) → (n ≡ 16 → ⊥) → (n ≡ 32 → ⊥) → is_listed n ≡ false
not_listed n f g h = third n f g ∙ ne_eqb n 32 h

pub passed : (n a b : ℕ) → number_of (step_line_tests n a b) ≡ 0 → (is_listed n ≡ true) × ((a ≡ n) × (b ≡ n))
passed n a b e = let f = go (is_listed n) (eqb a n) (eqb b n) e in (f.0, (eqb-true a n f.1.0, eqb-true b n f.1.1))
  where
    go : (p q r : Bool) → ◌≡◌ {A = ℕ} (cond (not p) 1 (cond (not q) 6 (cond (not r) 7 0))) 0 → (p ≡ true) × ((q ≡ true) × (r ≡ true))
    go false q r e = absurd (omega arith)
    go true false r e = absurd (omega arith)
    go true true false e = absurd (omega arith)
    go true true true e = (refl, (refl, refl))
