-- The butterfly as a loop makes it, and the line that it leaves: E + O in the first half, E - O backwards in the second. Assumes nothing.
use mathlib.Core.Path.{◌≡◌, refl, sym, ◌∙◌, subst}
use mathlib.Core.Bool.{Bool, true, false}
use mathlib.Core.List.{List}
use Prim.Native.Nat.{ℕ, ◌+◌, ◌-◌, ◌≤◌, ◌<◌}
use native.Mathlib.Nat.{not-suc-le-zero, le_refl}
use native.Mathlib.Omega.{arith}
use native.Mathlib.Decide.{ℕ_discrete}
use borrow.Author.Tests.{ltb-true, ltb-false}
use lib.Dec.{ltb}
use lib.ListN.{length, set, length-set}
use lib.Seq.{get_or-set_same, get_or-set_other}
use lib.IntN.{ℤ, pos, ◌+ℤ◌, ◌-ℤ◌}
use Rattle.algebra.specs.Lists.{at, tabulate}
use Rattle.algebra.proofs.Lists.{tabulated}
use Rattle.meaning.specs.Line.{inverse_sum}
use Rattle.halves.specs.Halves.{Halves, odd_sum, evens}
use Rattle.dct2_line.specs.Lines.{Joined}
use Rattle.halves.proofs.ByHalves.{inverse-low, inverse-high}

pub join-none : {h : ℕ} {e o out : List ℤ} → length out ≡ h + h → Joined 0 h e o out
join-none l = record { long = l; low = λ j k. absurd (not-suc-le-zero k); high = λ j k. absurd (not-suc-le-zero k) }

-- one place more from both ends
pub join-next : {j h : ℕ} {e o out : List ℤ} (a b : ℤ) → j < h → Joined j h e o out → a ≡ at e j +ℤ at o j → b ≡ at e j -ℤ at o j
    → Joined (j + 1) h e o (set (set out j a) (h + h - 1 - j) b)
join-next {j} {h} {e} {o} {out} a b l p ea eb =
    record {
      long = length-set (set out j a) (h + h - 1 - j) b ∙ length-set out j a ∙ p.long;
      low = λ k g. low k g (ℕ_discrete k j);
      high = λ k g. high k g (ℕ_discrete k j);
    }
  where
    low : (k : ℕ) → k < j + 1 → Dec (k ≡ j) → at (set (set out j a) (h + h - 1 - j) b) k ≡ at e k +ℤ at o k
    low k g (yes q) =
        subst (λ (i : ℕ). at (set (set out j a) (h + h - 1 - j) b) i ≡ at e i +ℤ at o i) (sym q)
        (get_or-set_other (set out j a) (h + h - 1 - j) j b (pos 0) (λ q. omega arith) ∙ get_or-set_same out j a (pos 0) (omega (arith, p.long)) ∙ ea)
    low k g (no n) =
        get_or-set_other (set out j a) (h + h - 1 - j) k b (pos 0) (λ q. omega arith) ∙ get_or-set_other out j k a (pos 0) (λ q. n (omega arith)) ∙ p.low k (omega arith)

    high : (k : ℕ) → k < j + 1 → Dec (k ≡ j) → at (set (set out j a) (h + h - 1 - j) b) (h + h - 1 - k) ≡ at e k -ℤ at o k
    high k g (yes q) =
        subst (λ (i : ℕ). at (set (set out j a) (h + h - 1 - j) b) (h + h - 1 - i) ≡ at e i -ℤ at o i) (sym q)
        (get_or-set_same (set out j a) (h + h - 1 - j) b (pos 0) (omega (arith, p.long, length-set out j a)) ∙ eb)
    high k g (no n) =
        get_or-set_other (set out j a) (h + h - 1 - j) (h + h - 1 - k) b (pos 0) (λ q. n (omega arith)) ∙ get_or-set_other out j (h + h - 1 - k) a (pos 0) (λ q. omega arith)
        ∙ p.high k (omega arith)

-- of the two halves it is the line
module _ {h : ℕ} (p : Halves (h + h) h) (x : ℕ → ℤ) (e o out : List ℤ)
    (even : (j : ℕ) → j < h → at e j ≡ inverse_sum 0 h h (evens x) j) (odd : (j : ℕ) → j < h → at o j ≡ odd_sum (h + h) h x j) (q : Joined h h e o out) where
  abbrev z : ℕ → ℤ
  z = inverse_sum 0 (h + h) (h + h) x

  first : (k : ℕ) → k < h → at out k ≡ z k
  first k l = q.low k l ∙ (λ t. even k l t +ℤ odd k l t) ∙ sym (inverse-low p x h (le_refl h) k l)

  second : (k : ℕ) → k < h → at out (h + h - 1 - k) ≡ z (h + h - 1 - k)
  second k l = q.high k l ∙ (λ t. even k l t -ℤ odd k l t) ∙ sym (inverse-high p x h (le_refl h) k l)

  pub joined : out ≡ tabulate (h + h) z
  joined = tabulated (h + h) out z q.long (λ k l. each k l (ltb k h) refl)
    where
      each : (k : ℕ) → k < h + h → (b : Bool) → ltb k h ≡ b → at out k ≡ z k
      each k l true t = first k (ltb-true k h t)
      each k l false t =
          let m : h ≤ k = ltb-false k h t in
          let s : h + h - 1 - (h + h - 1 - k) ≡ k = omega arith in
          subst (λ (m : ℕ). at out m ≡ z m) s (second (h + h - 1 - k) (omega arith))
