-- The line over the stored weights of its size: what feeding asks for, and that its sums are the line's. Assumes nothing.
use Rattle.std.proofs.Common.{◌≡◌, ℕ, ◌*◌, ◌<◌, ◌≤◌, Bool, List, length, ℤ, ◌*ℤ◌, sym, ap, ◌∙◌, subst, arith}
use Rattle.algebra.specs.Sum.{sum}
use Rattle.algebra.specs.Lists.{at, tabulate}
use Rattle.algebra.proofs.Sum.{sum-cong}
use Rattle.algebra.proofs.Lists.{tab-cong}
use Rattle.product.specs.Product.{Laid}
use Rattle.tables.specs.Term.{term}
use Rattle.tables.proofs.Terms.{laid-size}
use Rattle.wrapping.specs.Order.{Order}
use Rattle.wrapping.specs.Feed.{product_at, Feed, line_sums}

-- m is the literal size of a branch, n the caller's number of that size
module _ {n m : ℕ} (q : n ≡ m) (pairs : ℕ) (two : 2 * pairs ≡ m) (few : m ≤ 32) (kind : ℕ) (forward : Bool) {t : List ℤ}
    (z : Laid m pairs 2 (2 * m) (λ i j. term forward kind m j i) t) (x : List ℤ) (l : length x ≡ n) where
  pub feed : {order : List ℕ} → Order n order → Feed (length x) (2 * m) t order
  feed {order} o =
      let k : length x ≡ m = l ∙ q in
      record {
        few = omega arith;
        held = λ i j h g. z.held i j (omega arith) (omega arith);
        light = λ i j h g. laid-size forward kind z i j (omega arith) (omega arith);
        each = subst (λ (k : ℕ). Order k order) (sym l) o;
      }

  output : (j : ℕ) → j < m → sum m (product_at t (2 * m) j x) ≡ sum m (λ i. term forward kind m j i *ℤ at x i)
  output j g = sum-cong m _ _ (λ i h. ap (λ (w : ℤ). w *ℤ at x i) (z.right i j (omega arith) g))

  pub is-line : (r : List ℤ) → r ≡ tabulate (length x) (λ j. sum (length x) (product_at t (2 * m) j x)) → r ≡ line_sums forward kind n (at x)
  is-line r e =
      e ∙ ap (λ (k : ℕ). tabulate k (λ j. sum k (product_at t (2 * m) j x))) (l ∙ q) ∙ tab-cong m _ _ output
      ∙ ap (λ (k : ℕ). line_sums forward kind k (at x)) (sym q)
