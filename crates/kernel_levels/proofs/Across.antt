-- Rows of turned tiles: what is read of them, and residuals from local tiles to the rows of a block. Assumes nothing.
use mathlib.Core.Path.{◌≡◌, refl, sym, ap, ◌∙◌, subst}
use mathlib.Core.Bool.{Bool, true, false}
use mathlib.Core.List.{List}
use Prim.Native.Nat.{ℕ, ◌+◌, ◌*◌, ◌-◌, ◌/◌, ◌%◌, ◌≤◌, ◌<◌}
use native.Mathlib.Nat.{zero-add, mul_comm}
use native.Mathlib.Omega.{arith}
use borrow.Author.Tests.{ltb-true, ltb-false}
use lib.Dec.{ltb}
use lib.ListN.{length, take, drop, length-take, length-drop}
use lib.Seq.{get_or-take, get_or-drop}
use lib.IntN.{ℤ, pos, ◌+ℤ◌, ◌*ℤ◌}
use Rattle.algebra.specs.Lists.{at, block}
use Rattle.algebra.proofs.Sum.{sum-cong}
use Rattle.algebra.proofs.Lists.{block-ext, place_in, row_of, column-of}
use Rattle.meaning.specs.Weights.{weight}
use Rattle.meaning.specs.Line.{inverse_sum}
use Rattle.product.specs.Product.{shifted}
use Rattle.kernel_steps.specs.Written.{floor, WroteFrom, Spread}
use Rattle.kernel_steps.proofs.Writing.{wrote-join}
use Rattle.kernel_levels.specs.Kernels.{across, rows_sum, Rowed}
use Rattle.kernel_levels.proofs.Levels.{Gathered, gather-next, Sums}

-- ---- a part of m from s on
part_room : (m : List ℤ) (s k : ℕ) → s + k < length m → k < length (take (length m - s) (drop s m))
part_room m s k h = simp (length-take, length-drop) (omega arith)

part_at : (m : List ℤ) (s k : ℕ) → s + k < length m → at (take (length m - s) (drop s m)) k ≡ at m (s + k)
part_at m s k h = get_or-take (length m - s) (drop s m) k (pos 0) (omega arith) ∙ get_or-drop s m k (pos 0)

-- group b of 8 columns, in row l
module _ {live tall apart shift : ℕ} {half : ℤ} {m : List ℤ} (p : Rowed live tall apart half shift m) (b l : ℕ) (row : l < tall) where
  pub group-there : (i : ℕ) → i < 8 → 8 * b + i < live → b * apart + l + i * tall < length m
  group-there i k h =
      let q : (8 * b + i) / 8 ≡ b = omega arith in
      let r : (8 * b + i) % 8 ≡ i = omega arith in
      let t : b * apart + i * tall + l < length m = subst (λ (j : ℕ). b * apart + j * tall + l < length m) r (subst (λ (j : ℕ). j * apart + (8 * b + i) % 8 * tall + l < length m) q (p.there (8 * b + i) l h row)) in
      omega arith

  pub group-room : (s i : ℕ) → s ≡ b * apart + l → i < 8 → 8 * b + i < live → i * tall < length (take (length m - s) (drop s m))
  group-room s i e k h = part_room m s (i * tall) (omega (arith, group-there i k h))

  -- .. is taken
  pub group-next : {n : ℕ} {z z' : List ℤ} (s : ℕ) → s ≡ b * apart + l → n ≤ 8 → 8 * b + n ≤ live → Gathered (8 * b) live (across m tall apart l) z
      → WroteFrom (8 * b) n z' z (λ i. at (take (length m - s) (drop s m)) (i * tall)) → Gathered (8 * b + n) live (across m tall apart l) z'
  group-next s e few fit p w = gather-next p w (λ i h. here i (omega arith) (omega arith))
    where
      here : (i : ℕ) → i < 8 → 8 * b + i < live → at (take (length m - s) (drop s m)) (i * tall) ≡ across m tall apart l (8 * b + i)
      here i k h =
          let q : (8 * b + i) / 8 ≡ b = omega arith in
          let r : (8 * b + i) % 8 ≡ i = omega arith in
          let place : s + i * tall ≡ b * apart + i * tall + l = omega arith in
          part_at m s (i * tall) (omega (arith, group-there i k h)) ∙ ap (at m) place ∙ (λ t. at m (sym q t * apart + sym r t * tall + l))

-- ---- a row's residuals
-- number j of row l of `wide` columns from b on, as a local tile holds them
abbrev pub tiled : ℕ → (ℕ → ℕ → ℤ) → ℕ → ℕ → ℤ
tiled wide f b k = f (b + k % wide) (k / wide)

tile-at : {wide : ℕ} (f : ℕ → ℕ → ℤ) (b l i : ℕ) → i < wide → f (b + i) l ≡ tiled wide f b (wide * l + i)
tile-at {wide} f b l i h =
    let e : wide * l + i ≡ i + l * wide = omega (arith, mul_comm wide l) in
    let q : (wide * l + i) / wide ≡ l = ap (λ (k : ℕ). k / wide) e ∙ row_of l h in
    let r : (wide * l + i) % wide ≡ i = ap (λ (k : ℕ). k % wide) e ∙ column-of l h in
    λ t. f (b + sym r t) (sym q t)

-- one row more of a local tile: its numbers, from the sums of the row
pub round-next : {n live k wide : ℕ} {half : ℤ} {a y r r₁ r₀ : List ℤ} (shift tall apart l : ℕ) (m : List ℤ) → Gathered live live (across m tall apart l) a → Sums n live half (at a) k y
    → (b : ℕ) → b + wide ≤ n → WroteFrom 0 (wide * l) r₁ r₀ (tiled wide (λ j l. shifted half shift (rows_sum n live tall apart m j l)) b)
    → WroteFrom (wide * l) wide r r₁ (λ j. floor shift (at y (b + j))) → WroteFrom 0 (wide * (l + 1)) r r₀ (tiled wide (λ j l. shifted half shift (rows_sum n live tall apart m j l)) b)
unfolding inverse_sum rows_sum
round-next {n} {live} {k} {wide} {half} {a} {y} shift tall apart l m d p b room before wrote =
    wrote-join _ _ (omega arith) (omega (arith, mul-add-one)) before wrote (λ i h. value (b + i) (omega arith) ∙ tile-at (λ j l. shifted half shift (rows_sum n live tall apart m j l)) b l i h)
  where
    mul-add-one : wide * (l + 1) ≡ wide * l + wide
    mul-add-one = mul_comm wide (l + 1) ∙ omega (arith, mul_comm wide l)

    value : (j : ℕ) → j < n → floor shift (at y j) ≡ shifted half shift (rows_sum n live tall apart m j l)
    value j h =
        ap (floor shift) (p.are j h ∙ ap (λ (z : ℤ). z +ℤ half) (sum-cong live (λ i. weight 0 n i j *ℤ at a i) (λ i. weight 0 n i j *ℤ across m tall apart l i) (λ i g. ap (λ (v : ℤ). weight 0 n i j *ℤ v) (d.are i g))))

-- ---- the first k columns of the rows of n are done
pub record Columns (k rows n : ℕ) (f : ℕ → ℕ → ℤ) (r : List ℤ) : Type 0 where
  pub long : length r ≡ rows * n
  pub done : (j l : ℕ) → j < k → l < rows → at r (j + l * n) ≡ f j l

pub columns-none : {rows n : ℕ} {f : ℕ → ℕ → ℤ} (r : List ℤ) → length r ≡ rows * n → Columns 0 rows n f r
columns-none r e = record { long = e; done = λ j l p q. absurd (omega arith) }

pub columns-next : {k wide rows n : ℕ} {f : ℕ → ℕ → ℤ} {e z r r' : List ℤ} → Columns k rows n f r → WroteFrom 0 (wide * rows) e z (tiled wide f k) → Spread wide rows k n (λ j y. at e (wide * y + j)) r' r → Columns (k + wide) rows n f r'
columns-next {k} {wide} {rows} {n} {f} {e} {z} {r} {r'} p w s = record { long = s.long ∙ p.long; done = λ j l g h. done j l g h (ltb j k) refl }
  where
    done : (j l : ℕ) → j < k + wide → l < rows → (b : Bool) → ltb j k ≡ b → at r' (j + l * n) ≡ f j l
    done j l g h true t = let q : j < k = ltb-true j k t in s.left j l q ∙ p.done j l q h
    done j l g h false t =
        let q : k ≤ j = ltb-false j k t in
        let back : k + (j - k) ≡ j = omega arith in
        let in-tile : j - k < wide = omega arith in
        subst (λ (i : ℕ). at r' (i + l * n) ≡ f i l) back
        (s.done (j - k) l in-tile h ∙ ap (at e) (sym (zero-add (wide * l + (j - k))))
        ∙ w.done (wide * l + (j - k)) (omega (arith, place_in {x = j - k} {y = l} {w = wide} {h = rows} in-tile h, mul_comm wide l, mul_comm wide rows))
        ∙ sym (tile-at f k l (j - k) in-tile))

pub columns-all : {k rows n : ℕ} {f : ℕ → ℕ → ℤ} {r : List ℤ} → n ≤ k → Columns k rows n f r → r ≡ block n rows f
columns-all {k} {rows} {n} {f} {r} full p = block-ext n rows f r p.long (λ x y h g. p.done x y (omega arith) g)
