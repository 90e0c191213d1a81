-- Folded inputs and the places of an inverse line, one after the other. Assumes nothing.
use mathlib.Core.Path.{◌≡◌, refl, sym, ap, ◌∙◌, subst}
use mathlib.Core.Bool.{Bool}
use mathlib.Core.List.{List}
use Prim.Native.Nat.{ℕ, ◌+◌, ◌≤◌, ◌<◌}
use native.Mathlib.Omega.{arith}
use native.Mathlib.Decide.{ℕ_discrete}
use native.Mathlib.Nat.{not-suc-le-zero}
use borrow.Author.Tests.{ne_eqb}
use lib.ListN.{length, set, replicate, length-set, length-replicate}
use lib.Seq.{get_or-set_same, get_or-set_other}
use lib.IntN.{ℤ, pos, nat_abs, ◌+ℤ◌}
use Rattle.algebra.specs.Lists.{at}
use Rattle.shared_steps.specs.Folds.{folded, half, width, into, periodic_into, leading, periodic}
use Rattle.shared_steps.specs.Lines.{turned}
use Rattle.shared_steps.specs.Steps.{Factored, Gathered, FilledTo, joined_sums}
use Rattle.shared_steps.proofs.Reading.{turned-in, turned_apart}

-- the third class
module _ (p q c : ℕ) (d : c ≡ 1 → ⊥) (e : c ≡ 2 → ⊥) where
  pub third-width : width p q c ≡ half p
  third-width = rw (ne_eqb c 1 d, ne_eqb c 2 e)

  pub third-into : (n g : ℕ) → into n p q c g ≡ periodic_into n p g
  third-into n g = rw (ne_eqb c 1 d, ne_eqb c 2 e)

-- before the first number
pub gather_none : {n p q c : ℕ} (X : ℕ → ℤ) → Factored n p q → Gathered n p q c X 0 (replicate (width p q c) (pos 0))
gather_none {n} {p} {q} {c} X s =
    record { size = s; long = length-replicate (width p q c) (pos 0); are = λ g h. absurd (not-suc-le-zero h); small = λ g h. absurd (not-suc-le-zero h) }

-- one number more
pub gather-next : {n p q c : ℕ} {X : ℕ → ℤ} {g : ℕ} {t : List ℤ} (z : ℤ) → Gathered n p q c X g t → g < width p q c → z ≡ folded X (into n p q c g) → nat_abs z ≤ 425984
    → Gathered n p q c X (g + 1) (set t g z)
gather-next {n} {p} {q} {c} {X} {g} {t} z s h e b =
    record {
      size = s.size;
      long = length-set t g z ∙ s.long;
      are = λ k l. one (λ k v. v ≡ folded X (into n p q c k)) k l e s.are;
      small = λ k l. one (λ k v. nat_abs v ≤ 425984) k l b s.small;
    }
  where
    one : (P : ℕ → ℤ → Type 0) (k : ℕ) → k < g + 1 → P g z → ((j : ℕ) → j < g → P j (at t j)) → P k (at (set t g z) k)
    one P k l here before = pick (ℕ_discrete k g)
      where
        pick : Dec (k ≡ g) → P k (at (set t g z) k)
        pick (yes q) = subst (λ (j : ℕ). P j (at (set t g z) j)) (sym q) (subst (P g) (sym (get_or-set_same t g z (pos 0) (omega (arith, s.long)))) here)
        pick (no d) = subst (P k) (sym (get_or-set_other t g k z (pos 0) d)) (before k (omega arith))

-- ---- inverse
pub front-none : {back : Bool} {n : ℕ} (f : ℕ → ℤ) {y : List ℤ} → length y ≡ n → FilledTo back n 0 f y
front-none f l = record { long = l; done = λ j h. absurd (not-suc-le-zero h) }

pub front-next : {back : Bool} {n k : ℕ} {f : ℕ → ℤ} {y : List ℤ} (i : ℕ) (z : ℤ) → FilledTo back n k f y → k < n → i ≡ turned back n k → z ≡ f k → FilledTo back n (k + 1) f (set y i z)
front-next {back} {n} {k} {f} {y} i z p h e v =
    record { long = length-set y i z ∙ p.long; done = λ j l. one j l (ℕ_discrete j k) }
  where
    inside : i < length y
    inside = omega (arith, e, turned-in back n k h, p.long)

    one : (j : ℕ) → j < k + 1 → Dec (j ≡ k) → at (set y i z) (turned back n j) ≡ f j
    one j l (yes q) =
        subst (λ (m : ℕ). at (set y i z) (turned back n m) ≡ f m) (sym q)
        (ap (at (set y i z)) (sym e) ∙ get_or-set_same y i z (pos 0) inside ∙ v)
    one j l (no d) =
        get_or-set_other y i (turned back n j) z (pos 0) (λ q. turned_apart back n j k (omega arith) h d (q ∙ e)) ∙ p.done j (omega arith)

pub joined_at : (p q : ℕ) (a c d : List ℤ) (k : ℕ) → folded (at a) (leading p q k) +ℤ (folded (at c) (periodic q k) +ℤ folded (at d) (periodic p k)) ≡ joined_sums p q a c d k
unfolding joined_sums
joined_at p q a c d k = refl
