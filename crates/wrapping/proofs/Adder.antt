-- "for every order of the N products and every 32-bit starting number it ends on the same sums": once over any list. Assumes nothing.
use Rattle.std.proofs.Common.{◌≡◌, ℕ, ◌+◌, ◌%◌, ◌^◌, ◌<◌, ◌≤◌, List, [], ◌∷◌, length, get_or, drop, ℤ, pos, ◌+ℤ◌, ◌-ℤ◌, nat_abs, ap, ◌∙◌, add-one, arith, drop_of_length-le, drop-cons}
use Rattle.algebra.specs.Sum.{sum}
use Rattle.algebra.proofs.Normal.{ν, ◌⊕◌, ◌⊖◌, ring! }
use Rattle.algebra.proofs.Sum.{abs-sum}
use Rattle.wrapping.specs.Wrapped.{wrap, signed_of, adder}
use Rattle.wrapping.specs.Order.{Order}
use Rattle.wrapping.proofs.Wraps.{wrap-lt, wrap-add, wrap-sum, read_back}
use Rattle.wrapping.proofs.Orders.{sum_over, any_order}

adder-sum : (l : List ℕ) (p : ℕ → ℤ) (start : ℕ) → start < 2 ^ 32 → adder start l p ≡ (start + sum_over l (λ i. wrap (p i))) % 2 ^ 32
unfolding adder sum_over
adder-sum [] p start h = omega arith
adder-sum (i ∷ l) p start h = adder-sum l p ((start + wrap (p i)) % 2 ^ 32) (omega arith) ∙ omega arith

-- what is left when the start is taken off does not depend on it, nor on the order
takes-off : {n : ℕ} {l : List ℕ} → Order n l → (p : ℕ → ℤ) (start r : ℕ) → start < 2 ^ 32 → r < 2 ^ 32 → (r + start) % 2 ^ 32 ≡ adder start l p → r ≡ wrap (sum n p)
takes-off {n} {l} o p start r h g e = omega (arith, adder-sum l p start h, any_order o (λ i. wrap (p i)), wrap-sum n p)

-- and where the exact sum fits, it is what is read
pub ends_on_lem : {n : ℕ} {l : List ℕ} → Order n l → (p : ℕ → ℤ) (start r : ℕ) → start < 2 ^ 32 → r < 2 ^ 32 → (r + start) % 2 ^ 32 ≡ adder start l p → nat_abs (sum n p) < 2 ^ 31
    → signed_of r ≡ sum n p
ends_on_lem {n} o p start r h g e f = ap signed_of (takes-off o p start r h g e) ∙ read_back (sum n p) f

-- the same with the difference of whole numbers, which is what "takes that number off" says
pub less-start : {n : ℕ} {l : List ℕ} → Order n l → (p : ℕ → ℤ) (start : ℕ) → start < 2 ^ 32 → nat_abs (sum n p) < 2 ^ 31
    → signed_of (wrap (pos (adder start l p) -ℤ pos start)) ≡ sum n p
less-start {n} {l} o p start h f =
    let held = pos (adder start l p) in
    let off = held -ℤ pos start in
    let back : wrap (off +ℤ pos start) ≡ adder start l p % 2 ^ 32 = ap wrap (ring! (held ∷ pos start ∷ []) (ν 0 ⊖ ν 1 ⊕ ν 1) (ν 0) tt) in
    ends_on_lem o p start (wrap off) h (wrap-lt off) (omega (arith, wrap-add off (pos start), adder-sum l p start h)) f

-- ---- as the code feeds
pub adder-on : (l : List ℕ) (p : ℕ → ℤ) (held i : ℕ) → i < length l → adder held (drop i l) p ≡ adder ((held + wrap (p (get_or l i 0))) % 2 ^ 32) (drop (i + 1) l) p
unfolding adder
adder-on l p held i h = rw (drop-cons l i 0 h, add-one i)

pub adder-end : (l : List ℕ) (p : ℕ → ℤ) (held i : ℕ) → length l ≤ i → adder held (drop i l) p ≡ held
unfolding adder
adder-end l p held i h = rw (drop_of_length-le l h)

-- a sum is at most as large as the sizes of its numbers, in any order
pub sum-size : {n : ℕ} {l : List ℕ} → Order n l → (p : ℕ → ℤ) (M : ℕ) → sum_over l (λ i. nat_abs (p i)) ≤ M → nat_abs (sum n p) ≤ M
sum-size {n} o p M h = omega (arith, any_order o (λ i. nat_abs (p i)), abs-sum n p)
