-- What forms are worth: sums, products by a constant, sizes. Assumes nothing.
use mathlib.Core.Path.{◌≡◌, refl, sym, ap, ◌∙◌}
use mathlib.Core.List.{List, [], ◌∷◌}
use Prim.Native.Nat.{ℕ, zero, suc, ◌+◌, ◌*◌, ◌≤◌, ◌<◌}
use native.Mathlib.Nat.{add-mul, zero-mul, mul-le-mul_left}
use native.Mathlib.Omega.{arith}
use lib.IntN.{ℤ, pos, neg_ℤ, nat_abs, ◌+ℤ◌, ◌*ℤ◌, +ℤ_idl, +ℤ_idr, zero-*ℤ, *ℤ-zero}
use lib.ListN.{length}
use Rattle.algebra.specs.Lists.{at}
use Rattle.algebra.specs.Sum.{sum}
use Rattle.algebra.proofs.Normal.{ν, ◌⊕◌, ◌⊗◌, ⊝, ring}
use Rattle.algebra.proofs.Order.{abs-add, abs-mul}
use Rattle.algebra.proofs.Sum.{sum_first, sum-cong, sum-none}
use Rattle.algebra.proofs.Ring.{one-*ℤ}
use Rattle.steps.proofs.Forms.{Form, plus_f, less_f, times_f, sizes, unit, worth}

pub worth-plus : (u v : Form) (xs : List ℤ) → worth (plus_f u v) xs ≡ worth u xs +ℤ worth v xs
worth-plus [] v xs = sym (+ℤ_idl (worth v xs))
worth-plus (a ∷ u) [] xs = sym (+ℤ_idr (worth (a ∷ u) xs))
worth-plus (a ∷ u) (b ∷ v) [] = refl
worth-plus (a ∷ u) (b ∷ v) (x ∷ xs) =
    ap (λ (z : ℤ). (a +ℤ b) *ℤ x +ℤ z) (worth-plus u v xs)
    ∙ ring (a ∷ b ∷ x ∷ worth u xs ∷ worth v xs ∷ []) ((ν 0 ⊕ ν 1) ⊗ ν 2 ⊕ (ν 3 ⊕ ν 4)) (ν 0 ⊗ ν 2 ⊕ ν 3 ⊕ (ν 1 ⊗ ν 2 ⊕ ν 4)) refl

pub worth-less : (u : Form) (xs : List ℤ) → worth (less_f u) xs ≡ neg_ℤ (worth u xs)
worth-less [] xs = refl
worth-less (a ∷ u) [] = refl
worth-less (a ∷ u) (x ∷ xs) =
    ap (λ (z : ℤ). neg_ℤ a *ℤ x +ℤ z) (worth-less u xs) ∙ ring (a ∷ x ∷ worth u xs ∷ []) (⊝ (ν 0) ⊗ ν 1 ⊕ ⊝ (ν 2)) (⊝ (ν 0 ⊗ ν 1 ⊕ ν 2)) refl

pub worth-times : (c : ℤ) (u : Form) (xs : List ℤ) → worth (times_f c u) xs ≡ c *ℤ worth u xs
worth-times c [] xs = sym (*ℤ-zero c)
worth-times c (a ∷ u) [] = sym (*ℤ-zero c)
worth-times c (a ∷ u) (x ∷ xs) =
    ap (λ (z : ℤ). (c *ℤ a) *ℤ x +ℤ z) (worth-times c u xs) ∙ ring (a ∷ x ∷ worth u xs ∷ c ∷ []) (ν 3 ⊗ ν 0 ⊗ ν 1 ⊕ ν 3 ⊗ ν 2) (ν 3 ⊗ (ν 0 ⊗ ν 1 ⊕ ν 2)) refl

-- inputs of size at most M: a form is worth at most M times its sizes
pub worth-size : (M : ℕ) (u : Form) (xs : List ℤ) → ((k : ℕ) → k < length xs → nat_abs (at xs k) ≤ M) → nat_abs (worth u xs) ≤ sizes u * M
worth-size M [] xs h = omega (arith, zero-mul M)
worth-size M (a ∷ u) [] h = omega arith
worth-size M (a ∷ u) (x ∷ xs) h =
    let p : nat_abs (worth u xs) ≤ sizes u * M = worth-size M u xs (λ k l. h (suc k) (omega arith)) in
    let q : nat_abs a * nat_abs x ≤ nat_abs a * M = mul-le-mul_left (nat_abs a) (h 0 (omega arith)) in
    omega (arith, abs-add (a *ℤ x) (worth u xs), abs-mul a x, add-mul (nat_abs a) (sizes u) M)

-- as a sum
pub worth-sum : (u : Form) (xs : List ℤ) → worth u xs ≡ sum (length xs) (λ j. at u j *ℤ at xs j)
unfolding sum
worth-sum [] xs = sym (sum-cong (length xs) (λ j. pos 0 *ℤ at xs j) (λ j. pos 0) (λ j l. zero-*ℤ (at xs j)) ∙ sum-none (length xs))
worth-sum (a ∷ u) [] = refl
worth-sum (a ∷ u) (x ∷ xs) =
    ap (λ (z : ℤ). a *ℤ x +ℤ z) (worth-sum u xs) ∙ sym (sum_first (length xs) (λ j. at (a ∷ u) j *ℤ at (x ∷ xs) j))

-- input i alone
pub worth-unit : (i : ℕ) (xs : List ℤ) → worth (unit i) xs ≡ at xs i
worth-unit zero [] = refl
worth-unit zero (x ∷ xs) = +ℤ_idr (pos 1 *ℤ x) ∙ one-*ℤ x
worth-unit (suc i) [] = refl
worth-unit (suc i) (x ∷ xs) = ap (λ (z : ℤ). z +ℤ worth (unit i) xs) (zero-*ℤ x) ∙ +ℤ_idl (worth (unit i) xs) ∙ worth-unit i xs
