-- Looking for something that is not 0, and halving what has nothing. Assumes nothing.
use mathlib.Core.Path.{◌≡◌, refl, sym, ap, ◌∙◌, subst}
use mathlib.Core.Bool.{true}
use mathlib.Core.List.{List}
use Prim.Native.Nat.{ℕ, ◌+◌, ◌*◌, ◌-◌, ◌/◌, ◌≤◌, ◌<◌}
use native.Mathlib.Nat.{add_comm, mul-one, sub-zero}
use native.Mathlib.Omega.{arith}
use native.Mathlib.Decide.{ℕ_discrete, dec_lt}
use lib.ListN.{length, set, take, length-set}
use lib.Seq.{get_or-set_same, get_or-set_other, get_or-take}
use lib.IntN.{ℤ, pos}
use Rattle.algebra.specs.Lists.{at}
use Rattle.meaning.specs.Shape.{is_size}
use Rattle.meaning.proofs.Cases.{size-cases}
use Rattle.layout.specs.Live.{Clear, Live, Unseen, LiveColumns}

-- ---- a stretch of nothing
pub clear-more : (c : List ℤ) (a i : ℕ) → Clear c a i → at c i ≡ pos 0 → Clear c a (i + 1)
clear-more c a i p z k h g = one (ℕ_discrete k i)
  where
    one : Dec (k ≡ i) → at c k ≡ pos 0
    one (yes e) = ap (at c) e ∙ z
    one (no n) = p k h (omega arith)

pub clear-join : (c : List ℤ) (a m b : ℕ) → Clear c a m → Clear c m b → Clear c a b
clear-join c a m b p q k h g = pick (dec_lt k m)
  where
    pick : Dec (k < m) → at c k ≡ pos 0
    pick (yes l) = p k h l
    pick (no n) = q k (omega arith) g

-- half a size above 4 is a size
pub half-size : (n : ℕ) → is_size n ≡ true → 4 < n → is_size (n / 2) ≡ true
unfolding is_size
half-size = size-cases (λ n. 4 < n → is_size (n / 2) ≡ true) (λ h. absurd (omega arith)) (λ h. refl) (λ h. refl) (λ h. refl)

-- ---- marks of the columns before x; what stands after them is as it was
pub record Marked (o x : ℕ) (c seen seen₀ : List ℤ) : Type 0 where
  pub long : length seen ≡ length seen₀
  pub done : (i : ℕ) → i < x → at seen i ≡ pos 0 → (at seen₀ i ≡ pos 0) × (at c (o + i) ≡ pos 0)
  pub rest : (i : ℕ) → x ≤ i → at seen i ≡ at seen₀ i

pub marked-none : {o : ℕ} {c seen : List ℤ} → Marked o 0 c seen seen
marked-none = record { long = refl; done = λ i h. absurd (omega arith); rest = λ i h. refl }

pub marked_next : {o x : ℕ} {c seen seen₀ : List ℤ} (z : ℤ) → x < length seen → Marked o x c seen seen₀ → (z ≡ pos 0 → (at seen x ≡ pos 0) × (at c (o + x) ≡ pos 0))
    → Marked o (x + 1) c (set seen x z) seen₀
marked_next {o} {x} {c} {seen} {seen₀} z l p f =
    record {
      long = length-set seen x z ∙ p.long;
      done = λ i h e. one i h e (ℕ_discrete i x);
      rest = λ i h. get_or-set_other seen x i z (pos 0) (λ q. omega arith) ∙ p.rest i (omega arith);
    }
  where
    one : (i : ℕ) → i < x + 1 → at (set seen x z) i ≡ pos 0 → Dec (i ≡ x) → (at seen₀ i ≡ pos 0) × (at c (o + i) ≡ pos 0)
    one i h e (yes q) =
        let e' : at (set seen x z) x ≡ pos 0 = subst (λ (i : ℕ). at (set seen x z) i ≡ pos 0) q e in
        let b = f (sym (get_or-set_same seen x z (pos 0) l) ∙ e') in
        subst (λ (i : ℕ). (at seen₀ i ≡ pos 0) × (at c (o + i) ≡ pos 0)) (sym q) (sym (p.rest x (omega arith)) ∙ b.0, b.1)
    one i h e (no n) = p.done i (omega arith) (sym (get_or-set_other seen x i z (pos 0) (λ q. n q)) ∙ e)

-- one row more is looked at
pub unseen-next : {w y : ℕ} {c seen seen' : List ℤ} → Unseen w y c seen → length seen' ≡ 32
    → ((x : ℕ) → x < w → at seen' x ≡ pos 0 → (at seen x ≡ pos 0) × (at c (y * w + x) ≡ pos 0)) → Unseen w (y + 1) c seen'
unseen-next {w} {y} {c} {seen} {seen'} p l f = record { long = l; none = λ x h e i g. one x h e i g (ℕ_discrete i y) }
  where
    one : (x : ℕ) → x < w → at seen' x ≡ pos 0 → (i : ℕ) → i < y + 1 → Dec (i ≡ y) → at c (x + i * w) ≡ pos 0
    one x h e i g (yes q) = ap (λ (i : ℕ). at c (x + i * w)) q ∙ ap (at c) (add_comm x (y * w)) ∙ (f x h e).1
    one x h e i g (no n) = p.none x h (f x h e).0 i (omega arith)

-- the columns without a mark have nothing
pub columns-live : {c seen : List ℤ} {w rows r : ℕ} → Unseen w rows c seen → Live (take (w - 0) seen) 1 w r → LiveColumns c w rows r
columns-live {c} {seen} {w} {rows} {r} u v =
    record {
      size = v.size;
      within = v.within;
      clear = λ x i h g k. u.none x g (sym (front x g) ∙ v.clear x (omega (arith, mul-one r)) (omega (arith, mul-one w))) i k;
    }
  where
    front : (x : ℕ) → x < w → at (take (w - 0) seen) x ≡ at seen x
    front x g = rw (sub-zero w) (get_or-take w seen x (pos 0) g)
