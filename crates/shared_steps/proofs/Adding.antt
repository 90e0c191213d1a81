-- The sums of a class, row by row. Assumes nothing.
use mathlib.Core.Path.{◌≡◌, sym, ap, ◌∙◌, subst}
use mathlib.Core.List.{List, [], ◌∷◌}
use Prim.Native.Nat.{ℕ, ◌+◌, ◌*◌, ◌≤◌, ◌<◌}
use native.Mathlib.Omega.{arith}
use native.Mathlib.Nat.{le_trans, mul-le-mul_right, zero-add}
use lib.ListN.{length, replicate, length-replicate}
use lib.IntN.{ℤ, pos, nat_abs, ◌+ℤ◌, ◌*ℤ◌, +ℤ_comm}
use Rattle.algebra.specs.Lists.{at}
use Rattle.algebra.proofs.Lists.{Filled, zeros-at}
use Rattle.meaning.specs.Weights.{S}
use Rattle.tables.specs.Table.{Table}
use Rattle.shared_steps.specs.Folds.{SignedPlace, plus}
use Rattle.shared_steps.specs.Steps.{Bounded, Adding, Added}
use Rattle.meaning.proofs.Sizes.{S-size}
use Rattle.shared_steps.proofs.Classes.{Summed}
use Rattle.shared_steps.proofs.Dots.{grown}

-- a larger bound
pub larger : {m A : ℕ} {a : List ℤ} (B : ℕ) → A ≤ B → Bounded m A a → Bounded m B a
larger B h p = record { long = p.long; small = λ k l. le_trans (p.small k l) h }

-- nothing is added yet
pub nothing : (m B : ℕ) → Bounded m B (replicate m (pos 0))
nothing m B = record { long = length-replicate m (pos 0); small = λ k h. subst (λ (z : ℤ). nat_abs z ≤ B) (sym (zeros-at m k)) (omega arith) }

pub none-summed : (n m l : ℕ) (x : ℕ → ℤ) → Summed n m x [] (replicate l (pos 0))
none-summed n m l x = record { are = λ g h. zeros-at l g }

-- row i, on from the rows before it
pub from_row : {n m i : ℕ} {w x a : List ℤ} (j : ℕ) → i ≤ j → Adding n m i w x a → Adding n m j w x a
from_row j h p = record { few = p.few; fits = p.fits; table = p.table; inputs = p.inputs; sums = larger (j * 2949120) (mul-le-mul_right 2949120 h) p.sums }

pub row-summed : {n m i : ℕ} {x : ℕ → ℤ} {rows : List SignedPlace} {a b : List ℤ} → Summed n m x rows a → Added n m i (x i) a b → Summed n m x (plus i ∷ rows) b
row-summed {n} {m} {i} {x} {rows} {a} s p =
    record { are = λ g h. p.are g h ∙ +ℤ_comm (at a g) (S n i g *ℤ x i) ∙ ap (λ (z : ℤ). S n i g *ℤ x i +ℤ z) (s.are g h) }

-- all places of a row are done
pub row_done : {n m i g : ℕ} {w x a b : List ℤ} {v : ℤ} (u : ℤ) → Adding n m i w x a → m ≤ g → Filled 0 g b a (λ k. at a k +ℤ S n i k *ℤ v) → v ≡ u → nat_abs u ≤ 32768
    → Added n m i u a b × Adding n m (i + 1) w x b
row_done {n} {m} {i} {g} {a = a} {b = b} u p h l e s = (
  record { are = is },
  record {
    few = p.few;
    fits = p.fits;
    table = p.table;
    inputs = p.inputs;
    sums = record { long = l.long ∙ p.sums.long; small = λ k q. subst (λ (z : ℤ). nat_abs z ≤ (i + 1) * 2949120) (sym (is k q)) (grown 32768 (at a k) (S n i k) u i (p.sums.small k q) (S-size n i k) s) };
  },
)
  where
    is : (k : ℕ) → k < m → at b k ≡ at a k +ℤ S n i k *ℤ u
    is k q = ap (at b) (sym (zero-add k)) ∙ l.done k (omega arith) ∙ ap (λ (z : ℤ). at a k +ℤ S n i k *ℤ z) e

-- ---- a class that starts from zeros
pub zero-summed : {n m : ℕ} {x : ℕ → ℤ} (l : ℕ) {a : List ℤ} → a ≡ replicate l (pos 0) → Summed n m x [] a
zero-summed {n} {m} {x} l e = subst (Summed n m x []) (sym e) (none-summed n m l x)

-- the sums after the last row
pub sums-small : {n m i : ℕ} {w x a : List ℤ} → i ≤ 32 → Adding n m i w x a → Bounded m 94371840 a
sums-small {i = i} h p = larger 94371840 (mul-le-mul_right 2949120 h) p.sums

pub adding-long : {n m i j : ℕ} {w x a b : List ℤ} → Adding n m i w x a → Adding n m j w x b → length b ≡ length a
adding-long p q = q.sums.long ∙ sym p.sums.long

pub adding-none : (m : ℕ) {n : ℕ} {w x : List ℤ} → n ≤ 32 → m ≤ n → Table n w → length x ≡ n → Adding n m 0 w x (replicate m (pos 0))
adding-none m f h t l = record { few = f; fits = h; table = t; inputs = l; sums = nothing m (0 * 2949120) }
