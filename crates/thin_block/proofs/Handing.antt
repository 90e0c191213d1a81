-- What is handed back of an outcome, by its area; and that a call that was taken leaves room for it in both. Assumes nothing.
use mathlib.Core.Path.{◌≡◌, refl, sym, ap, ◌∙◌, subst}
use mathlib.Core.Bool.{Bool, true, false, cond}
use mathlib.Core.List.{List, [], ◌++◌}
use Prim.Native.Nat.{ℕ, ◌*◌, ◌≤◌}
use native.Mathlib.Omega.{arith}
use native.Mathlib.Nat.{mul_comm}
use borrow.Author.Tests.{eq-eqb, ne_eqb}
use lib.Dec.{eqb}
use lib.IntN.{ℤ}
use lib.ListN.{length, take, drop, length-append}
use Rattle.algebra.specs.Lists.{block}
use Rattle.algebra.proofs.Lists.{tab-length, block-length}
use Rattle.meaning.specs.declared.Shape.{Shape}
use Rattle.meaning.specs.Plan.{plan_of}
use Rattle.meaning.specs.Inverse.{middle_at, residual, inverse_block}
use Rattle.thin_block.specs.Thin.{one_stage, thin_residual, thin_block, Areas, after_one, after_two, thin_outcome}
use Rattle.thin_block.specs.Handed.{Handed, handed_of}
use Rattle.thin_block.proofs.Passed.{either_way}

-- ---- by the area
module _ {A : Type 0} (n : ℕ) (o : Areas) (p q : A) where
  abbrev back : List ℤ → A → Handed A
  back stretch start = record { number = o.answer.number; place = o.answer.place; rails = o.answer.rails; stretch = stretch; start = start }

  pub nothing-back : o.answer.area ≡ 0 → back [] p ≡ handed_of n o p q
  nothing-back z = rw (eq-eqb o.answer.area 0 z, ap (λ (k : ℕ). eqb k 2) z)

  pub second_back : (m : ℕ) → m ≡ n → o.answer.area ≡ 2 → back (take m o.second) q ≡ handed_of n o p q
  second_back m e z = rw (eq-eqb o.answer.area 2 z, ap (λ (k : ℕ). eqb k 0) z, e)

  pub first_back : (m : ℕ) → m ≡ n → (o.answer.area ≡ 0 → ⊥) → (o.answer.area ≡ 2 → ⊥) → back (take m o.first) p ≡ handed_of n o p q
  first_back m e z t = rw (ne_eqb o.answer.area 0 z, ne_eqb o.answer.area 2 t, e)

-- ---- room
pub thin-length : (sh : Shape) (c : List ℤ) → length (thin_block sh c) ≡ sh.width * sh.height
unfolding thin_block
thin-length sh c = tab-length (sh.width * sh.height) (thin_residual sh c)

pub inverse-length : (sh : Shape) (c : List ℤ) → length (inverse_block (plan_of sh) c) ≡ sh.width * sh.height
unfolding inverse_block
inverse-length sh c = block-length sh.width sh.height (residual (plan_of sh) c) ∙ mul_comm sh.height sh.width

pub middles-length : (sh : Shape) (c : List ℤ) → length (block sh.width sh.height (middle_at (plan_of sh) c)) ≡ sh.width * sh.height
middles-length sh c = block-length sh.width sh.height (middle_at (plan_of sh) c) ∙ mul_comm sh.height sh.width

module _ (sh : Shape) (c a b : List ℤ) where
  abbrev n : ℕ
  n = sh.width * sh.height

  abbrev Room : Areas → Type 0
  Room o = (o.answer.area ≡ 0 → ⊥) → (length c ≡ n) × ((n ≤ length o.first) × (n ≤ length o.second))

  front : (l r : List ℤ) → length l ≡ n → n ≤ length (l ++ r)
  front l r e = omega (arith, length-append l r)

  rooms : Room (thin_outcome sh c a b)
  rooms =
      either_way sh c a b Room (λ number place z. absurd (z refl))
      (λ t. done (one_stage sh) t.past.long t.past.second)
    where
      done : (one : Bool) → length c ≡ n → n ≤ length b → Room (cond one (after_one sh c a b) (after_two sh c a b))
      done true l r z = (l, (front (thin_block sh c) (drop n a) (thin-length sh c), r))
      done false l r z = (l, (front (block sh.width sh.height (middle_at (plan_of sh) c)) (drop n a) (middles-length sh c), front (inverse_block (plan_of sh) c) (drop n b) (inverse-length sh c)))

  pub room : (o : Areas) → o ≡ thin_outcome sh c a b → Room o
  room o e = subst Room (sym e) rooms
