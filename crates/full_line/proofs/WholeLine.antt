-- A whole line by pairs, over the stored weights of its size: what it is given, and that it is the line. Assumes nothing.
use mathlib.Core.Path.{◌≡◌, refl, sym, ap, ◌∙◌}
use mathlib.Core.Bool.{Bool, true, false}
use mathlib.Core.Logic.{inl}
use mathlib.Core.List.{List}
use Prim.Native.Nat.{ℕ, ◌+◌, ◌*◌, ◌≤◌, ◌<◌}
use native.Mathlib.Nat.{zero-add}
use native.Mathlib.Omega.{arith}
use lib.ListN.{length}
use lib.IntN.{ℤ, pos, ◌*ℤ◌, *ℤ_comm}
use Rattle.algebra.specs.Sum.{sum}
use Rattle.algebra.specs.Lists.{at, tabulate}
use Rattle.algebra.proofs.Sum.{sum-cong}
use Rattle.algebra.proofs.Lists.{tab-cong}
use Rattle.meaning.specs.Weights.{weight}
use Rattle.meaning.specs.Line.{forward_sum, inverse_sum, forward_line, inverse_line}
use Rattle.meaning.specs.Taken.{TakenLine}
use Rattle.product.specs.Product.{spot, Laid, line_sum, shifted, Line}
use Rattle.product.proofs.Laid.{spot-two, exact}
use Rattle.tables.specs.Term.{term}
use Rattle.tables.proofs.Terms.{laid-size}
use Rattle.full_line.specs.Lines.{Place, line_of}

-- the sums of a line, in either direction
sums : (forward : Bool) (kind n : ℕ) (x : ℕ → ℤ) → tabulate n (λ j. sum n (λ i. term forward kind n j i *ℤ x i)) ≡ line_of forward kind n x
unfolding forward_line inverse_line forward_sum inverse_sum
sums true kind n x = refl
sums false kind n x = refl

-- m is the literal size of a branch, n the caller's number of that size
module _ {n m : ℕ} (q : n ≡ m) (pairs : ℕ) (two : 2 * pairs ≡ m) (few : pairs ≤ 16) (kind : ℕ) (forward : Bool) {t : List ℤ}
    (z : Laid m pairs 2 (2 * m) (λ i j. term forward kind m j i) t) (x y : List ℤ) (w : TakenLine n kind (length x) (length y)) where
  input : (i : ℕ) → at x (0 + spot 2 i) ≡ at x i
  input i = ap (at x) (zero-add (spot 2 i) ∙ spot-two i)

  pub whole-given : Line (length y) pairs x 0 2 t (2 * m)
  whole-given =
      let room : length y ≡ m = w.room ∙ q in
      record {
        few = few;
        there = λ i l. omega (arith, spot-two i, w.long);
        held = λ i j l g. z.held i j l (omega (arith, room));
        light = λ i j l g. inl (laid-size forward kind z i j l (omega (arith, room)));
      }

  output : (j : ℕ) → j < m → shifted (pos 0) 0 (line_sum x 0 2 t (2 * m) pairs j) ≡ sum m (λ i. term forward kind m j i *ℤ at x i)
  unfolding line_sum
  output j g =
      exact (line_sum x 0 2 t (2 * m) pairs j)
      ∙ sum-cong (2 * pairs) (λ i. at x (0 + spot 2 i) *ℤ at t (2 * j + spot (2 * m) i)) (λ i. term forward kind m j i *ℤ at x i)
      (λ i l. (λ s. input i s *ℤ z.right i j l g s) ∙ *ℤ_comm (at x i) (term forward kind m j i))
      ∙ ap (λ (k : ℕ). sum k (λ i. term forward kind m j i *ℤ at x i)) two

  pub whole-line : (r : List ℤ) → r ≡ tabulate (length y) (λ j. shifted (pos 0) 0 (line_sum x 0 2 t (2 * m) pairs j)) → r ≡ line_of forward kind n (at x)
  whole-line r e =
      e ∙ ap (λ (k : ℕ). tabulate k (λ j. shifted (pos 0) 0 (line_sum x 0 2 t (2 * m) pairs j))) (w.room ∙ q)
      ∙ tab-cong m _ _ output ∙ sums forward kind m (at x) ∙ ap (λ (k : ℕ). line_of forward kind k (at x)) (sym q)

-- a single weight: input i of output j of an inverse line
pub weight_is : {n m : ℕ} → n ≡ m → (pairs : ℕ) → 2 * pairs ≡ m → (kind : ℕ) {t : List ℤ} → Laid m pairs 2 (2 * m) (λ i j. term false kind m j i) t
    → (i j : ℕ) → Place n i j → (2 * j + spot (2 * m) i < length t) × (at t (2 * j + spot (2 * m) i) ≡ weight kind n i j)
weight_is q pairs two kind z i j p = (
  z.held i j (omega (arith, p.row)) (omega (arith, p.column)),
  z.right i j (omega (arith, p.row)) (omega (arith, p.column)) ∙ ap (λ (k : ℕ). weight kind k i j) (sym q),
)
