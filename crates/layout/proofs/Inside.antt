-- Parts of a block outside of which it is zero: the live part, as it was found by its rows and then by its columns; and the kept part,
-- by the hunt for 8, which finds nothing outside of it just where the block is zero there. Over any plan. Assumes nothing.
use mathlib.Core.Path.{◌≡◌, refl, sym, ◌∙◌, subst}
use mathlib.Core.Bool.{Bool, true, false, not, ◌&&◌, and-false, true≢false}
use mathlib.Core.List.{List}
use Prim.Native.Nat.{ℕ, ◌+◌, ◌*◌, ◌/◌, ◌%◌, ◌≤◌, ◌<◌}
use native.Mathlib.Nat.{mul_comm, zero-add, mul-le-mul_right}
use native.Mathlib.Omega.{arith}
use native.Mathlib.Decide.{dec_lt}
use borrow.Author.Tests.{lt-ltb, le-ltb, eqb-true}
use lib.Dec.{eqb, ltb}
use lib.IntN.{ℤ, pos, nat_abs}
use lib.ListN.{length}
use Rattle.algebra.specs.Lists.{at}
use Rattle.algebra.proofs.Order.{abs-zero}
use Rattle.algebra.proofs.Lists.{every-place, place_in, column-of, row_of}
use Rattle.algebra.proofs.First.{first-before, first_past}
use Rattle.meaning.specs.Plan.{Plan}
use Rattle.meaning.specs.Inverse.{outside, outside_at, first_outside}
use Rattle.layout.specs.Live.{Clear}
use Rattle.layout.specs.Part.{Part}

pub live-part : (w h columns rows : ℕ) (c : List ℤ) → columns ≤ w → rows ≤ h → Clear c (rows * w) (h * w)
    → ((x y : ℕ) → columns ≤ x → x < w → y < rows → at c (x + y * w) ≡ pos 0) → Part w h columns rows c
live-part w h columns rows c narrow low r k =
    record { narrow = narrow; low = low; right = λ x y l g v. pick x y l g v (dec_lt y rows); below = λ x y g l v. under x y g l v }
  where
    under : (x y : ℕ) → x < w → rows ≤ y → y < h → at c (x + y * w) ≡ pos 0
    under x y g l v = r (x + y * w) (omega (arith, mul-le-mul_right w l)) (place_in {x = x} {y = y} {w = w} {h = h} g v)

    pick : (x y : ℕ) → columns ≤ x → x < w → y < h → Dec (y < rows) → at c (x + y * w) ≡ pos 0
    pick x y l g v (yes q) = k x y l g q
    pick x y l g v (no n) = under x y g (omega arith) v

-- the test of place k of a block that is w wide; and by its column and row
abbrev pub outside_of : ℕ → ℕ → ℕ → ℕ → ℤ → Bool
outside_of w columns rows k z = outside_at columns rows (k % w) (k / w) z

pub outside-at : (w columns rows x y : ℕ) (z : ℤ) → x < w → outside_of w columns rows (x + y * w) z ≡ outside_at columns rows x y z
outside-at w columns rows x y z h = rw (column-of {x = x} {w = w} y h, row_of {x = x} {w = w} y h)

-- what is kept is not outside, and neither is a 0
pub kept-not : (columns rows x y : ℕ) (z : ℤ) → x < columns → y < rows → outside_at columns rows x y z ≡ false
kept-not columns rows x y z h g = rw (lt-ltb x columns h, lt-ltb y rows g) (and-false (not (eqb (nat_abs z) 0)))

zero-not : (z : ℤ) (b : Bool) → z ≡ pos 0 → not (eqb (nat_abs z) 0) && b ≡ false
zero-not z b e = rw e refl

module _ (p : Plan) (c : List ℤ) (long : length c ≡ p.width * p.height) where
  abbrev w : ℕ
  w = p.width

  abbrev h : ℕ
  h = p.height

  pub kept-part : p.columns ≤ w → p.rows ≤ h → length c ≤ first_outside p c → Part w h p.columns p.rows c
  kept-part narrow low l =
      record {
        narrow = narrow;
        low = low;
        right = λ x y k g v. out x y g v (rw (le-ltb x p.columns k) refl);
        below = λ x y g k v. out x y g v (rw (le-ltb y p.rows k) (and-false (ltb x p.columns)));
      }
    where
      zero : (z : ℤ) (b : Bool) → b ≡ false → not (eqb (nat_abs z) 0) && not b ≡ false → z ≡ pos 0
      zero z b e f = abs-zero z (eqb-true (nat_abs z) 0 (test (eqb (nat_abs z) 0) (subst (λ (b : Bool). not (eqb (nat_abs z) 0) && not b ≡ false) e f)))
        where
          test : (t : Bool) → not t && true ≡ false → t ≡ true
          test true q = refl
          test false q = absurd (true≢false q)

      out : (x y : ℕ) → x < w → y < h → ltb x p.columns && ltb y p.rows ≡ false → at c (x + y * w) ≡ pos 0
      out x y g v e =
          let k = x + y * w in
          let m : k < length c = omega (arith, long, mul_comm w h, place_in {x = x} {y = y} {w = w} {h = h} g v) in
          let b : 0 + k < first_outside p c = omega arith in
          let f : outside p (0 + k) (at c k) ≡ false = first-before (outside p) c 0 k m b in
          let f' : outside p k (at c k) ≡ false = subst (λ (j : ℕ). outside p j (at c k) ≡ false) (zero-add k) f in
          zero (at c k) (ltb x p.columns && ltb y p.rows) e (sym (outside-at w p.columns p.rows x y (at c k) g) ∙ f')

  -- any part that lies within the kept one
  pub none-outside : {columns rows : ℕ} → Part w h columns rows c → columns ≤ p.columns → rows ≤ p.rows → first_outside p c ≡ length c
  none-outside {columns} {rows} q k r =
      first_past (outside p) c 0
      (λ i l. subst (λ (j : ℕ). outside p j (at c i) ≡ false) (sym (zero-add i)) (every-place w h (λ i. outside p i (at c i) ≡ false) one i (omega (arith, long, mul_comm w h))))
      ∙ zero-add (length c)
    where
      one : (x y : ℕ) → x < w → y < h → outside p (x + y * w) (at c (x + y * w)) ≡ false
      one x y g v = outside-at w p.columns p.rows x y (at c (x + y * w)) g ∙ pick (dec_lt x columns) (dec_lt y rows)
        where
          pick : Dec (x < columns) → Dec (y < rows) → outside_at p.columns p.rows x y (at c (x + y * w)) ≡ false
          pick (yes a) (yes b) = kept-not p.columns p.rows x y (at c (x + y * w)) (omega arith) (omega arith)
          pick (no a) b = zero-not (at c (x + y * w)) _ (q.right x y (omega arith) g v)
          pick (yes a) (no b) = zero-not (at c (x + y * w)) _ (q.below x y g (omega arith) v)
