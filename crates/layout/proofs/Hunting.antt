-- A hunt through a block of w by h, row by row, over any test: what its loops keep, and what it finds. Assumes nothing.
use mathlib.Core.Path.{◌≡◌, refl, sym, ◌∙◌}
use mathlib.Core.Bool.{Bool, true, false}
use mathlib.Core.List.{List}
use Prim.Native.Nat.{ℕ, zero, suc, ◌+◌, ◌*◌, ◌≤◌, ◌<◌}
use native.Mathlib.Nat.{mul_comm, zero-mul, add-mul, one-mul}
use native.Mathlib.Omega.{arith}
use lib.IntN.{ℤ}
use lib.ListN.{length, drop}
use Rattle.algebra.specs.Lists.{at}
use Rattle.algebra.specs.First.{first_at}
use Rattle.algebra.proofs.Lists.{place_in}
use Rattle.algebra.proofs.First.{first_on, first-here, first-none}

-- at column x of row y nothing has been found: every place before it fails the test
pub record Hunt (p : ℕ → ℤ → Bool) (w h : ℕ) (l : List ℤ) (place x y : ℕ) : Type 0 where
  pub column : x ≤ w
  pub row : y ≤ h
  pub none : place ≡ length l
  pub left : first_at p 0 l ≡ first_at p (x + y * w) (drop (x + y * w) l)

pub hunt-in : {w h x y : ℕ} (l : List ℤ) → length l ≡ w * h → x < w → y < h → x + y * w < length l
hunt-in {w} {h} {x} {y} l e i j = omega (arith, mul_comm w h, place_in {x = x} {y = y} {w = w} {h = h} i j)

module _ {p : ℕ → ℤ → Bool} {w h : ℕ} {l : List ℤ} (long : length l ≡ w * h) where
  pub hunt-start : Hunt p w h l (length l) 0 0
  hunt-start =
      let e : 0 + 0 * w ≡ 0 = omega (arith, zero-mul w) in
      record { column = omega arith; row = omega arith; none = refl; left = rw e }

  module _ {place x y : ℕ} (v : y < h) (q : Hunt p w h l place x y) where
    pub hunt-next : x < w → p (x + y * w) (at l (x + y * w)) ≡ false → Hunt p w h l place (x + 1) y
    hunt-next i f =
        let e : x + 1 + y * w ≡ x + y * w + 1 = omega arith in
        record { column = omega arith; row = q.row; none = q.none; left = q.left ∙ rw e (first_on p l (x + y * w) (hunt-in l long i v) f) }

    pub hunt-down : w ≤ x → Hunt p w h l place 0 (y + 1)
    hunt-down i =
        let e : x + y * w ≡ 0 + (y + 1) * w = omega (arith, add-mul y 1 w, one-mul w, q.column) in
        record { column = omega arith; row = omega arith; none = q.none; left = q.left ∙ rw e }

    pub hunt-here : x < w → p (x + y * w) (at l (x + y * w)) ≡ true → x + y * w ≡ first_at p 0 l
    hunt-here i t = sym (q.left ∙ first-here p l (x + y * w) (hunt-in l long i v) t)

  -- columns that need not be looked at
  pub hunt-past : {place y : ℕ} → y < h → Hunt p w h l place 0 y → (k : ℕ) → k ≤ w → ((x : ℕ) → x < k → p (x + y * w) (at l (x + y * w)) ≡ false) → Hunt p w h l place k y
  hunt-past v q zero i f = q
  hunt-past {place} {y} v q (suc k) i f =
      let e : k + 1 ≡ suc k = omega arith in
      rw e at (hunt-next v (hunt-past v q k (omega arith) (λ x g. f x (omega arith))) (omega arith) (f k (omega arith)))

  pub hunt-none : {place y : ℕ} → h ≤ y → Hunt p w h l place 0 y → place ≡ first_at p 0 l
  hunt-none {place} {y} g q =
      let e : y ≡ h = omega (arith, q.row) in
      let n : 0 + y * w ≡ length l = rw e (omega (arith, mul_comm w h)) in
      q.none ∙ sym n ∙ sym (q.left ∙ first-none p l (0 + y * w) (omega arith))
