-- Sixteen numbers as four lines of four, and back. Assumes nothing.
use mathlib.Core.Path.{◌≡◌, refl, sym, ap, ◌∙◌}
use mathlib.Core.List.{List, [], ◌∷◌, ◌++◌}
use Rattle.std.specs.List.{flat_map}
use Prim.Native.Nat.{ℕ, zero, suc, ◌+◌}
use native.Mathlib.Nat.{add-zero}
use lib.Pow.{pow_pos}
use lib.IntN.{ℤ, pos}
use lib.ListN.{length}
use mir.Syntax.{Width}
use mir.Val.{Val, SFits, hbits, to_z, of_z}
use mir.ValLaws.{to_z-of_z}
use denote.Array.{each}
use denote.Shadow.{shadow}
use denote.Signed.{SInt}
use Rattle.algebra.specs.Lists.{at, tabulate, flat}
use Rattle.algebra.proofs.Lists.{tabulated}

-- ---- what is known of an array by value: its numbers fit their width
zero-fits : (w : Width) → SFits w (pos 0)
zero-fits w = record { sfits = pow_pos (hbits w) }

pub number_fits : (w : Width) (xs : List ℤ) (us : List Val) → shadow (each ℤ (SInt w).own_val xs us) → (k : ℕ) → SFits w (at xs k)
number_fits w [] us p k = zero-fits w
number_fits w (x ∷ xs) [] p k = absurd p
number_fits w (x ∷ xs) (u ∷ us) p zero = record { sfits = p.0.1 }
number_fits w (x ∷ xs) (u ∷ us) p (suc k) = number_fits w xs us p.1 k

-- ---- a line of sixteen numbers, and four of them
-- number k as it is read
abbrev word : Width → List ℤ → ℕ → ℤ
word w l k = to_z w (of_z w (at l k))

pub line_read : (w : Width) (l : List ℤ) (k : ℕ) → ((i : ℕ) → SFits w (at l i)) → ◌≡◌ {A = List ℤ} (word w l k ∷ word w l (k + 1) ∷ word w l (k + 2) ∷ word w l (k + 3) ∷ []) (tabulate 4 (λ i. at l (k + i)))
unfolding tabulate
line_read w l k f =
    let e : (i : ℕ) → word w l i ≡ at l i = λ i. to_z-of_z w (at l i) (f i) in
    λ t. (e k ∙ ap (at l) (sym (add-zero k))) t ∷ e (k + 1) t ∷ e (k + 2) t ∷ e (k + 3) t ∷ []

abbrev line_of : List ℤ → ℕ → List ℤ
line_of l k = tabulate 4 (λ i. at l (k + i))

pub four-lines : (l a b c d : List ℤ) → length l ≡ 16 → a ≡ line_of l 0 → b ≡ line_of l 4 → c ≡ line_of l 8 → d ≡ line_of l 12 → flat (a ∷ b ∷ c ∷ d ∷ []) ≡ l
unfolding tabulate flat
four-lines l a b c d n p q r s = (λ t. flat (p t ∷ q t ∷ r t ∷ s t ∷ [])) ∙ sym (tabulated 16 l (at l) n (λ k h. refl))

-- four lines as they are read, one after the other
pub flat_is : (b : List (List ℤ)) → flat_map (λ x. x) b ≡ flat b
unfolding flat
flat_is [] = refl
flat_is (row ∷ rows) = ap (λ (l : List ℤ). row ++ l) (flat_is rows)
