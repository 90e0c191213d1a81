-- A stored matrix has its rule where one computed test of all its numbers holds. Assumes nothing.
use mathlib.Core.Path.{◌≡◌, sym, subst}
use mathlib.Core.List.{List}
use Prim.Native.Nat.{ℕ, ◌*◌, ◌≤◌, ◌<◌}
use native.Mathlib.Omega.{arith}
use lib.Dec.{T}
use lib.IntN.{ℤ}
use lib.ListN.{length}
use Rattle.algebra.proofs.Table.{every}
use Rattle.product.specs.Product.{Laid}
use Rattle.tables.proofs.Pairs.{by_pair, laid_by}
use Rattle.lfnst_tables.specs.Lfnst.{entry}

-- matrix k of n columns, asked for as m
pub stored : (n k : ℕ) {m : ℕ} {t : List ℤ} → m ≡ k → T (every (by_pair n (entry n k)) 0 t) → 8 * (2 * n) ≡ length t → (length t ≡ 8 * (2 * n)) × Laid n 8 2 (2 * n) (entry n m) t
stored n k {m} {t} e p l = (sym l, subst (λ (m : ℕ). Laid n 8 2 (2 * n) (entry n m) t) (sym e) (laid_by n 8 (entry n k) t p l))

-- none of the first seven
first-four : {m : ℕ} → (m ≡ 0 → ⊥) → (m ≡ 1 → ⊥) → (m ≡ 2 → ⊥) → (m ≡ 3 → ⊥) → 4 ≤ m
first-four a b c d = omega arith

next-three : {m : ℕ} → 4 ≤ m → (m ≡ 4 → ⊥) → (m ≡ 5 → ⊥) → (m ≡ 6 → ⊥) → m < 8 → m ≡ 7
next-three f a b c l = omega arith

pub the_last : {m : ℕ} → (m ≡ 0 → ⊥) → (m ≡ 1 → ⊥) → (m ≡ 2 → ⊥) → (m ≡ 3 → ⊥) → (m ≡ 4 → ⊥) → (m ≡ 5 → ⊥) → (m ≡ 6 → ⊥) → m < 8 → m ≡ 7
the_last a b c d e f g l = next-three (first-four a b c d) e f g l
