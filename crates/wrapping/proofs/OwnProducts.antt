-- Document 02, Wish 9: "running sums wrap modulo 2^32 on purpose", "for every order of the N products and every 32-bit starting number it
-- ends on the same sums as document 01's line". Of the line's own products. Assumes nothing.
--   wraps-to:  An adder of 32 bits holds any number. It is fed the N products of one output of the line, in any order, and wraps at
--              each. What it holds then, less the number that it held, modulo 2^32 and read as a signed number, is the line's sum:
--              in both directions, for every kind and size of the line and every input of 16 bits.
--   forward-wraps, inverse-wraps:  so the number in each place of the output of an accepted call is what such an adder ends on.
use Rattle.std.proofs.Common.{◌≡◌, ℕ, ◌^◌, ◌<◌, ◌≤◌, Bool, true, false, cond, List, length, ℤ, pos, ◌-ℤ◌, ◌*ℤ◌, nat_abs, sym, refl, ap, ◌∙◌, le_refl, arith}
use Rattle.algebra.specs.Sum.{sum}
use Rattle.algebra.specs.Lists.{at}
use Rattle.algebra.proofs.Lists.{tab-at}
use Rattle.algebra.proofs.Refusals.{Clear, none-applies}
use Rattle.meaning.specs.Line.{forward_sum, inverse_sum, forward_line, inverse_line}
use Rattle.meaning.specs.Shape.{is_size, is_kind}
use Rattle.meaning.specs.Taken.{NoneAbove}
use Rattle.meaning.specs.Answer.{Outcome, refused, accepted}
use Rattle.meaning.proofs.Sizes.{forward_sum-short, inverse_sum-short}
use Rattle.meaning.proofs.AcceptedCalls.{no-refusal}
use Rattle.tables.specs.Term.{term}
use Rattle.wrapping.specs.Wrapped.{wrap, signed_of, adder}
use Rattle.wrapping.specs.Order.{is_order, Order}
use Rattle.wrapping.specs.Outcome.{wrapped_tests, wrapped_outcome, forward_wrapped, inverse_wrapped}
use Rattle.wrapping.proofs.Orders.{is-order}
use Rattle.wrapping.proofs.Adder.{less-start}
use Rattle.wrapping.proofs.Passed.{tested}

-- the line's product of input i in output j: "T[i][j]*x[j]" forward, "T[i][j]*x[i]" inverse
abbrev pub own_product : Bool → ℕ → ℕ → (ℕ → ℤ) → ℕ → ℕ → ℤ
own_product forward kind n x j i = term forward kind n j i *ℤ x i

-- the line's sum in output j
abbrev pub line_sum : Bool → ℕ → ℕ → (ℕ → ℤ) → ℕ → ℤ
line_sum forward kind n x = cond forward (forward_sum kind n x) (inverse_sum kind n n x)

-- what the adder ends on in output j: its number, less the one that it held
abbrev pub ends_on : Bool → ℕ → ℕ → (ℕ → ℤ) → List ℕ → ℕ → ℕ → ℤ
ends_on forward kind n x order start j = signed_of (wrap (pos (adder start order (own_product forward kind n x j)) -ℤ pos start))

module _ (kind n : ℕ) (known : is_kind kind ≡ true) (size : is_size n ≡ true) (x : ℕ → ℤ) (small : (i : ℕ) → i < n → nat_abs (x i) ≤ 32768) where
  same : (forward : Bool) (j : ℕ) → sum n (own_product forward kind n x j) ≡ line_sum forward kind n x j
  unfolding forward_sum inverse_sum
  same true j = refl
  same false j = refl

  short : (forward : Bool) (j : ℕ) → j < n → nat_abs (line_sum forward kind n x j) ≤ 67108864
  short true j h = forward_sum-short kind n known size x small j h
  short false j h = inverse_sum-short kind n known size x n (le_refl n) small j h

  by_order : (forward : Bool) {order : List ℕ} → Order n order → (start : ℕ) → start < 2 ^ 32 → (j : ℕ) → j < n
      → ends_on forward kind n x order start j ≡ line_sum forward kind n x j
  by_order forward o start g j h =
      let few : nat_abs (sum n (own_product forward kind n x j)) < 2 ^ 31 = omega (arith, ap nat_abs (same forward j), short forward j h) in
      less-start o (own_product forward kind n x j) start g few ∙ same forward j

  pub wraps-to : (forward : Bool) (order : List ℕ) → is_order n order ≡ true → (start : ℕ) → start < 2 ^ 32 → (j : ℕ) → j < n
      → signed_of (wrap (pos (adder start order (own_product forward kind n x j)) -ℤ pos start)) ≡ line_sum forward kind n x j
  wraps-to forward order e = by_order forward (is-order n order e)

-- ---- of an accepted call
module _ (n kind : ℕ) (order : List ℕ) (x y : List ℤ) (short : NoneAbove 32768 x) (start : ℕ) (bits : start < 2 ^ 32) (j : ℕ) (below : j < n) where
  line_of : Bool → List ℤ
  line_of forward = cond forward (forward_line kind n (at x)) (inverse_line kind n n (at x))

  line_at : (forward : Bool) → at (line_of forward) j ≡ line_sum forward kind n (at x) j
  unfolding line_of forward_line inverse_line
  line_at true = tab-at n (forward_sum kind n (at x)) j below
  line_at false = tab-at n (inverse_sum kind n n (at x)) j below

  call-wraps : (forward : Bool) → (wrapped_outcome n kind order x y (line_of forward)).0.number ≡ 0 → at (wrapped_outcome n kind order x y (line_of forward)).1 j ≡ ends_on forward kind n (at x) order start j
  call-wraps forward e =
      let tests = wrapped_tests n kind (length x) (length y) order in
      let none : Clear tests = no-refusal tests y (accepted 0, line_of forward) tt e in
      let passed = tested n kind (length x) (length y) order none in
      ap (λ (o : Outcome). at o.1 j) (none-applies (λ number place. (refused number place, y)) (accepted 0, line_of forward) tests none)
      ∙ line_at forward ∙ sym (by_order kind n passed.0.known passed.0.size (at x) (λ i h. short i) forward passed.1 start bits j below)

  pub forward-wraps : (forward_wrapped n kind order x y).0.number ≡ 0 → at (forward_wrapped n kind order x y).1 j ≡ ends_on true kind n (at x) order start j
  unfolding line_of
  forward-wraps = call-wraps true

  pub inverse-wraps : (inverse_wrapped n kind order x y).0.number ≡ 0 → at (inverse_wrapped n kind order x y).1 j ≡ ends_on false kind n (at x) order start j
  unfolding line_of
  inverse-wraps = call-wraps false
