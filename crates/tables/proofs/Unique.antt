-- Two tables that the contract of a function of this crate allows are equal. Assumes nothing.
use mathlib.Core.Path.{◌≡◌, ap, ◌∙◌}
use mathlib.Core.List.{List}
use Prim.Native.Nat.{ℕ, ◌+◌, ◌*◌, ◌/◌, ◌%◌}
use native.Mathlib.Omega.{arith}
use lib.IntN.{ℤ}
use lib.ListN.{length}
use Rattle.algebra.specs.Lists.{at, block}
use Rattle.algebra.proofs.Lists.{block-ext}
use Rattle.algebra.proofs.Unique.{one}
use Rattle.meaning.specs.Weights.{S}
use Rattle.product.specs.Product.{spot, Laid}
use Rattle.tables.specs.Table.{Table}

whole : (n : ℕ) (t : List ℤ) → Table n t → t ≡ block n n (λ j i. S n i j)
whole n t p = block-ext n n (λ j i. S n i j) t p.long (λ j i h g. ap (at t) (turned i j) ∙ p.right i j g h)
  where
    turned : (i j : ℕ) → j + i * n ≡ i * n + j
    turned i j = omega arith

-- `weights_4`, `weights_8`, `weights_16`, `weights_32`
pub table-one : (n : ℕ) (t u : List ℤ) → Table n t → Table n u → t ≡ u
table-one n t u p q = one (whole n t p) (whole n u q)

-- a list in the order of lines, by its places: x of 2n in pair y is output x / 2 of input 2y or 2y + 1
laid-whole : (n pairs : ℕ) (X : ℕ → ℕ → ℤ) (t : List ℤ) → length t ≡ pairs * (2 * n) → Laid n pairs 2 (2 * n) X t → t ≡ block (2 * n) pairs (λ x y. X (2 * y + x % 2) (x / 2))
laid-whole n pairs X t l p =
    block-ext (2 * n) pairs (λ x y. X (2 * y + x % 2) (x / 2)) t l
    (λ x y h g. ap (at t) (place x y) ∙ p.right (2 * y + x % 2) (x / 2) (omega arith) (omega arith))
  where
    place : (x y : ℕ) → x + y * (2 * n) ≡ 2 * (x / 2) + spot (2 * n) (2 * y + x % 2)
    place x y =
        let a : (2 * y + x % 2) / 2 ≡ y = omega arith in
        let b : (2 * y + x % 2) % 2 ≡ x % 2 = omega arith in
        rw (a, b) (omega arith)

-- `zipped_4`, `zipped_8`, `zipped_16`: their lengths are those of their types; `put_32` says its own
pub zipped-one : (n pairs : ℕ) (X : ℕ → ℕ → ℤ) (t u : List ℤ) → length t ≡ pairs * (2 * n) → length u ≡ pairs * (2 * n) → Laid n pairs 2 (2 * n) X t → Laid n pairs 2 (2 * n) X u → t ≡ u
zipped-one n pairs X t u l k p q = one (laid-whole n pairs X t l p) (laid-whole n pairs X u k q)
