-- Two numbers at a time, and rows of pairs that are laid as lines read them. Assumes nothing.
use mathlib.Core.Path.{◌≡◌, refl, sym, ap, ◌∙◌, subst}
use mathlib.Core.Bool.{true}
use mathlib.Core.List.{List}
use Prim.Native.Nat.{ℕ, ◌+◌, ◌*◌, ◌/◌, ◌%◌, ◌≤◌, ◌<◌}
use native.Mathlib.Nat.{add-mul, mul_assoc, mul_comm}
use native.Mathlib.Omega.{arith}
use lib.ListN.{length, set, drop, get_or-append}
use lib.IntN.{ℤ, pos}
use Rattle.algebra.specs.Lists.{at, block}
use Rattle.algebra.proofs.Lists.{Filled, fill-first, Rows, block_at, block-length, place_in, rows-room}
use Rattle.meaning.specs.Shape.{is_size}
use Rattle.meaning.proofs.Cases.{size-cases}
use Rattle.product.specs.Product.{spot, Laid}
use Rattle.layout.specs.Zip.{zipped_at}
use Rattle.layout.specs.Zip as zip

-- a size is even
pub size-even : (n : ℕ) → is_size n ≡ true → (4 ≤ n) × (2 * (n / 2) ≡ n)
size-even = size-cases (λ n. (4 ≤ n) × (2 * (n / 2) ≡ n)) (omega arith, refl) (omega arith, refl) (omega arith, refl) (omega arith, refl)

-- rows of a number that is a size may be zipped
pub rows-given : {n w : ℕ} {c z : List ℤ} (rows : ℕ) → is_size rows ≡ true → 0 < n → n ≤ w → rows * w ≤ length c → rows * n ≤ length z → zip.Rows (rows / 2) n w c z
rows-given {n} {w} {c} {z} rows s some narrow there room =
    let e = size-even rows s in
    let turned : rows / 2 * (2 * n) ≡ 2 * (rows / 2) * n = sym (mul_assoc (rows / 2) 2 n) ∙ ap (λ (k : ℕ). k * n) (mul_comm (rows / 2) 2) in
    record { some = omega arith; wide = some; narrow = narrow; there = rw e.1 there; room = rw (turned, e.1) room }

-- a pair more
pub fill-pair : (x : ℕ) {z z₀ : List ℤ} {f : ℕ → ℤ} (a b : ℤ) → 2 * x + 1 < length z₀ → Filled 0 (2 * x) z z₀ f → a ≡ f (2 * x) → b ≡ f (2 * x + 1)
    → Filled 0 (2 * (x + 1)) (set (set z (2 * x) a) (2 * x + 1) b) z₀ f
fill-pair x {z} {z₀} {f} a b l p ea eb =
    let two : 2 * x + 1 + 1 ≡ 2 * (x + 1) = omega arith in
    subst (λ (k : ℕ). Filled 0 k (set (set z (2 * x) a) (2 * x + 1) b) z₀ f) two (fill-first b l (fill-first a (omega arith) p ea) eb)

-- the two places of column x
module _ (a w x : ℕ) where
  pub even-at : a + x ≡ a + 2 * x % 2 * w + 2 * x / 2
  even-at =
      let r : 2 * x % 2 ≡ 0 = omega arith in
      let q : 2 * x / 2 ≡ x = omega arith in
      rw (r, q) (omega arith)

  pub odd-at : a + w + x ≡ a + (2 * x + 1) % 2 * w + (2 * x + 1) / 2
  odd-at =
      let r : (2 * x + 1) % 2 ≡ 1 = omega arith in
      let q : (2 * x + 1) / 2 ≡ x = omega arith in
      rw (r, q) (omega arith)

-- rows of pairs, one after the other
module _ (pairs n w : ℕ) (c : List ℤ) where
  abbrev f : ℕ → ℕ → ℤ
  f q k = zipped_at c (2 * k * w) w q

  place : (i j : ℕ) → 2 * j + spot (2 * n) i ≡ 2 * j + i % 2 + i / 2 * (2 * n)
  place i j = omega arith

  held : (i j : ℕ) → i < 2 * pairs → j < n → 2 * j + spot (2 * n) i < pairs * (2 * n)
  held i j h g =
      let q : i / 2 < pairs = omega arith in
      let r : 2 * j + i % 2 + i / 2 * (2 * n) < pairs * (2 * n) = place_in (omega arith) q in
      omega (arith, place i j)

  there : (i j : ℕ) → 2 * (i / 2) * w + (2 * j + i % 2) % 2 * w + (2 * j + i % 2) / 2 ≡ j + i * w
  there i j = sum ((2 * j + i % 2) % 2) ((2 * j + i % 2) / 2) (2 * (i / 2)) (omega arith) (omega arith)
    where
      sum : (r q e : ℕ) → e + r ≡ i → q ≡ j → e * w + r * w + q ≡ j + i * w
      sum r q e s t = rw (sym s, sym t) (omega (arith, add-mul e r w))

  pub laid-rows : {z z₀ : List ℤ} → pairs * (2 * n) ≤ length z₀ → Rows (2 * n) pairs f z z₀ → Laid n pairs 2 (2 * n) (λ i x. at c (x + i * w)) z
  laid-rows {z} {z₀} room p =
      record {
        held = λ i j h g. omega (arith, held i j h g, rows-room p (omega arith) room);
        right = λ i j h g. ap (λ (l : List ℤ). at l (2 * j + spot (2 * n) i)) p.are
            ∙ get_or-append (block (2 * n) pairs f) (drop (pairs * (2 * n)) z₀) (pos 0) (2 * j + spot (2 * n) i) (omega (arith, held i j h g, block-length (2 * n) pairs f))
            ∙ ap (at (block (2 * n) pairs f)) (place i j)
            ∙ block_at (2 * n) pairs f (2 * j + i % 2) (i / 2) (omega arith) (omega arith)
            ∙ ap (at c) (there i j);
      }
