-- No weight of a line is above 91 in size, as it stands in a list in the order of lines. Assumes nothing.
use mathlib.Core.Path.{sym, subst}
use mathlib.Core.Bool.{Bool, true, false}
use mathlib.Core.List.{List}
use Prim.Native.Nat.{ℕ, ◌+◌, ◌*◌, ◌≤◌, ◌<◌}
use lib.IntN.{ℤ, nat_abs}
use Rattle.algebra.specs.Lists.{at}
use Rattle.meaning.proofs.Sizes.{weight_most}
use Rattle.product.specs.Product.{spot, Laid}
use Rattle.tables.specs.Term.{term}

term-size : (forward : Bool) (kind n k i : ℕ) → nat_abs (term forward kind n k i) ≤ 91
term-size true kind n k i = weight_most kind n k i
term-size false kind n k i = weight_most kind n i k

module _ (forward : Bool) (kind : ℕ) {n pairs : ℕ} {t : List ℤ} (z : Laid n pairs 2 (2 * n) (λ i j. term forward kind n j i) t) where
  pub laid-size : (i j : ℕ) → i < 2 * pairs → j < n → nat_abs (at t (2 * j + spot (2 * n) i)) ≤ 91
  laid-size i j h g = subst (λ (v : ℤ). nat_abs v ≤ 91) (sym (z.right i j h g)) (term-size forward kind n j i)
