-- A rule of a table, proved at all of its entries by one test that the checker computes. Assumes nothing.
use mathlib.Core.Path.{◌≡◌, refl, sym, ap, ◌∙◌, subst}
use mathlib.Core.Bool.{Bool, true, false, ◌&&◌}
use mathlib.Core.List.{List, [], ◌∷◌}
use Prim.Native.Nat.{ℕ, zero, suc, ◌+◌, ◌*◌, ◌/◌, ◌%◌, ◌<◌}
use native.Mathlib.Nat.{add-zero, zero-add, add-suc, suc-add, le_of_suc-le-suc, not-suc-le-zero}
use native.Mathlib.Decide.{ℕ_discrete}
use native.Mathlib.Omega.{arith}
use lib.Arith.{digits_lt, digits_div, digits_mod}
use lib.Dec.{T, eqb→eq, eqb_refl}
use lib.IntN.{ℤ, pos, negsuc}
use lib.ListN.{length}
use Rattle.algebra.specs.Equal.{eq_z}
use Rattle.algebra.specs.Lists.{at}

pub and_left : (a b : Bool) → T (a && b) → T a
and_left true b t = tt
and_left false b t = t

pub and_right : (a b : Bool) → T (a && b) → T b
and_right true b t = t
and_right false b t = absurd t

pub eq_z→eq : (a b : ℤ) → T (eq_z a b) → a ≡ b
eq_z→eq (pos a) (pos b) t = ap pos (eqb→eq a b t)
eq_z→eq (pos a) (negsuc b) t = absurd t
eq_z→eq (negsuc a) (pos b) t = absurd t
eq_z→eq (negsuc a) (negsuc b) t = ap negsuc (eqb→eq a b t)

pub eq→eq_z : (a b : ℤ) → a ≡ b → T (eq_z a b)
eq→eq_z a b e = subst (λ (z : ℤ). T (eq_z a z)) e (same a)
  where
    same : (a : ℤ) → T (eq_z a a)
    same (pos n) = eqb_refl n
    same (negsuc n) = eqb_refl n

pub eq_z-no : (a b : ℤ) → (a ≡ b → ⊥) → eq_z a b ≡ false
eq_z-no a b n = go (eq_z a b) (λ t. n (eq_z→eq a b t))
  where
    go : (c : Bool) → (T c → ⊥) → c ≡ false
    go true f = absurd (f tt)
    go false f = refl

-- ---- every number below n passes
abbrev pub all_to : ℕ → (ℕ → Bool) → Bool
all_to zero f = true
all_to (suc n) f = f n && all_to n f

-- the last number apart
pub last : (P : ℕ → Type 0) (n k : ℕ) → k < suc n → P n → (k < n → P k) → P k
last P n k h p q = pick (ℕ_discrete k n)
  where
    pick : Dec (k ≡ n) → P k
    pick (yes e) = subst P (sym e) p
    pick (no d) = q (omega arith)

pub all_to-at : (n : ℕ) (f : ℕ → Bool) → T (all_to n f) → (k : ℕ) → k < n → T (f k)
all_to-at zero f t k h = absurd (not-suc-le-zero h)
all_to-at (suc n) f t k h = last (λ (m : ℕ). T (f m)) n k h (and_left (f n) (all_to n f) t) (λ l. all_to-at n f (and_right (f n) (all_to n f) t) k l)

-- ---- each entry of a list is g at its place, counted from i
abbrev pub every : (ℕ → ℤ) → ℕ → List ℤ → Bool
every g i [] = true
every g i (x ∷ xs) = eq_z x (g i) && every g (suc i) xs

from : (g : ℕ → ℤ) (xs : List ℤ) (i : ℕ) → T (every g i xs) → (k : ℕ) → k < length xs → at xs k ≡ g (i + k)
from g [] i t k h = absurd (not-suc-le-zero h)
from g (x ∷ xs) i t zero h = eq_z→eq x (g i) (and_left (eq_z x (g i)) (every g (suc i) xs) t) ∙ ap g (sym (add-zero i))
from g (x ∷ xs) i t (suc k) h =
    from g xs (suc i) (and_right (eq_z x (g i)) (every g (suc i) xs) t) k (le_of_suc-le-suc h) ∙ ap g (suc-add i k ∙ sym (add-suc i k))

pub every-at : (g : ℕ → ℤ) (xs : List ℤ) → T (every g 0 xs) → (k : ℕ) → k < length xs → at xs k ≡ g k
every-at g xs t k h = from g xs 0 t k h ∙ ap g (zero-add k)

-- ---- a table of n rows of n, by its rule at row and column
abbrev pub by_place : ℕ → (ℕ → ℕ → ℤ) → ℕ → ℤ
by_place n W k = W (k / n) (k % n)

pub table_at : (n : ℕ) (W : ℕ → ℕ → ℤ) (t : List ℤ) → T (every (by_place n W) 0 t) → n * n ≡ length t
    → (i j : ℕ) → i < n → j < n → at t (i * n + j) ≡ W i j
table_at n W t p e i j hi hj =
    every-at (by_place n W) t p (i * n + j) (subst (λ (k : ℕ). i * n + j < k) e (digits_lt hi hj))
    ∙ (λ s. W (digits_div i hj s) (digits_mod i hj s))
