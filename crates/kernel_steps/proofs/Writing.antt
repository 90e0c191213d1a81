-- A stretch that a loop writes, one value after another, and places written from both ends. Assumes nothing.
use mathlib.Core.Path.{◌≡◌, refl, sym, ap, ◌∙◌, subst}
use mathlib.Core.List.{List}
use Prim.Native.Nat.{ℕ, ◌+◌, ◌*◌, ◌-◌, ◌≤◌, ◌<◌}
use native.Mathlib.Nat.{mul-le-mul_right}
use mathlib.Core.Bool.{Bool, true, false}
use borrow.Author.Tests.{ltb-true, ltb-false}
use lib.Dec.{ltb}
use native.Mathlib.Decide.{ℕ_discrete}
use native.Mathlib.Omega.{arith}
use lib.ListN.{length, set, length-set}
use lib.Seq.{get_or-set_same, get_or-set_other}
use lib.IntN.{ℤ, pos}
use Rattle.algebra.specs.Lists.{at}
use Rattle.algebra.proofs.Lists.{Filled, fill_none, fill-next, row_in, place_in}
use Rattle.kernel_steps.specs.Written.{Ends, Spread, WroteFrom}

-- as `algebra` has it of a loop
wrote : {o j : ℕ} {a a₀ : List ℤ} {f : ℕ → ℤ} → Filled o j a a₀ f → WroteFrom o j a a₀ f
wrote p = record { long = p.long; done = p.done; before = p.before; after = p.after }

pub wrote_none : (o : ℕ) (a : List ℤ) (f : ℕ → ℤ) → WroteFrom o 0 a a f
wrote_none o a f = wrote (fill_none o a f)

wrote-next : {o j : ℕ} {a a₀ : List ℤ} {f : ℕ → ℤ} (z : ℤ) → o + j < length a₀ → WroteFrom o j a a₀ f → z ≡ f j → WroteFrom o (j + 1) (set a (o + j) z) a₀ f
wrote-next {o} {j} {a} {a₀} {f} z l p e = wrote (fill-next {o = o} {j = j} {a = a} {a₀ = a₀} {f = f} z l (record { long = p.long; done = p.done; before = p.before; after = p.after }) e)

-- at a place that is written otherwise
pub wrote_at : {o j : ℕ} {a a₀ : List ℤ} {f : ℕ → ℤ} (i m : ℕ) (z : ℤ) → i ≡ o + j → m ≡ j + 1 → o + j < length a₀ → WroteFrom o j a a₀ f → z ≡ f j → WroteFrom o m (set a i z) a₀ f
wrote_at {o} {j} {a} {a₀} {f} i m z q r l p e =
    subst (λ (m : ℕ). WroteFrom o m (set a i z) a₀ f) (sym r) (subst (λ (i : ℕ). WroteFrom o (j + 1) (set a i z) a₀ f) (sym q) (wrote-next z l p e))

pub wrote-to : {o j : ℕ} {a a₀ : List ℤ} {f : ℕ → ℤ} (n : ℕ) → j ≡ n → WroteFrom o j a a₀ f → WroteFrom o n a a₀ f
wrote-to {o} {j} {a} {a₀} {f} n e p = subst (λ (k : ℕ). WroteFrom o k a a₀ f) e p

-- ---- from both ends
pub ends-none : (from h : ℕ) (f g : ℕ → ℤ) (out : List ℤ) → Ends from from h f g out out
ends-none from h f g out = record { long = refl; low = λ j p q. absurd (omega arith); high = λ j p q. absurd (omega arith); first = λ j p. refl; last = λ j p. refl }

pub ends_next : {from j h : ℕ} {f g : ℕ → ℤ} {out out₀ : List ℤ} (a b : ℤ) → j < h → from ≤ j → h + h ≤ length out₀ → Ends from j h f g out out₀ → a ≡ f j → b ≡ g j
    → Ends from (j + 1) h f g (set (set out j a) (h + h - 1 - j) b) out₀
ends_next {from} {j} {h} {f} {g} {out} {out₀} a b l start room p ea eb =
    record {
      long = length-set (set out j a) (h + h - 1 - j) b ∙ length-set out j a ∙ p.long;
      low = λ k s t. low k s t (ℕ_discrete k j);
      high = λ k s t. high k s t (ℕ_discrete k j);
      first = λ k s. other k (omega arith) (omega arith) ∙ p.first k s;
      last = λ k s. other (h + h - 1 - k) (omega arith) (omega arith) ∙ p.last k s;
    }
  where
    other : (k : ℕ) → (k ≡ j → ⊥) → (k ≡ h + h - 1 - j → ⊥) → at (set (set out j a) (h + h - 1 - j) b) k ≡ at out k
    other k d e = get_or-set_other (set out j a) (h + h - 1 - j) k b (pos 0) e ∙ get_or-set_other out j k a (pos 0) d

    low : (k : ℕ) → from ≤ k → k < j + 1 → Dec (k ≡ j) → at (set (set out j a) (h + h - 1 - j) b) k ≡ f k
    low k s t (yes q) =
        subst (λ (i : ℕ). at (set (set out j a) (h + h - 1 - j) b) i ≡ f i) (sym q)
        (get_or-set_other (set out j a) (h + h - 1 - j) j b (pos 0) (λ q. omega arith) ∙ get_or-set_same out j a (pos 0) (omega (arith, p.long)) ∙ ea)
    low k s t (no n) = other k n (λ q. omega arith) ∙ p.low k s (omega arith)

    high : (k : ℕ) → from ≤ k → k < j + 1 → Dec (k ≡ j) → at (set (set out j a) (h + h - 1 - j) b) (h + h - 1 - k) ≡ g k
    high k s t (yes q) =
        subst (λ (i : ℕ). at (set (set out j a) (h + h - 1 - j) b) (h + h - 1 - i) ≡ g i) (sym q)
        (get_or-set_same (set out j a) (h + h - 1 - j) b (pos 0) (omega (arith, p.long, length-set out j a)) ∙ eb)
    high k s t (no n) = other (h + h - 1 - k) (λ q. omega arith) (λ q. n (omega arith)) ∙ p.high k s (omega arith)

pub ends-to : {from j h : ℕ} {f g : ℕ → ℤ} {out out₀ : List ℤ} (n : ℕ) → j ≡ n → Ends from j h f g out out₀ → Ends from n h f g out out₀
ends-to {from} {j} {h} {f} {g} {out} {out₀} n e p = subst (λ (k : ℕ). Ends from k h f g out out₀) e p

-- ---- two stretches side by side
pub wrote-join : {o n k : ℕ} {a a₁ a₀ : List ℤ} {f g : ℕ → ℤ} (p m : ℕ) → p ≡ o + n → m ≡ n + k → WroteFrom o n a₁ a₀ f → WroteFrom p k a a₁ g → ((i : ℕ) → i < k → g i ≡ f (n + i)) → WroteFrom o m a a₀ f
wrote-join {o} {n} {k} {a} {a₁} {a₀} {f} {g} p m place sum first next e =
    record {
      long = next.long ∙ first.long;
      done = λ i h. done i h (ltb i n) refl;
      before = λ i h. next.before i (omega arith) ∙ first.before i h;
      after = λ i h. next.after i (omega arith) ∙ first.after i (omega arith);
    }
  where
    done : (i : ℕ) → i < m → (b : Bool) → ltb i n ≡ b → at a (o + i) ≡ f i
    done i h true t = let l : i < n = ltb-true i n t in next.before (o + i) (omega arith) ∙ first.done i l
    done i h false t =
        let l : n ≤ i = ltb-false i n t in
        let here : o + i ≡ p + (i - n) = omega arith in
        let back : n + (i - n) ≡ i = omega arith in
        ap (at a) here ∙ next.done (i - n) (omega arith) ∙ e (i - n) (omega arith) ∙ ap f back

-- ---- row after row, into the same columns
pub spread_none : (k b n : ℕ) (f : ℕ → ℕ → ℤ) (r : List ℤ) → Spread k 0 b n f r r
spread_none k b n f r = record { long = refl; done = λ i l p q. absurd (omega arith); left = λ i l p. refl }

pub spread-next : {k y b n : ℕ} {f : ℕ → ℕ → ℤ} {g : ℕ → ℤ} {r r₁ r₀ : List ℤ} → b + k ≤ n → Spread k y b n f r₁ r₀ → WroteFrom (y * n + b) k r r₁ g → ((i : ℕ) → i < k → g i ≡ f i y) → Spread k (y + 1) b n f r r₀
spread-next {k} {y} {b} {n} {f} {g} {r} {r₁} {r₀} fit p w e =
    record {
      long = w.long ∙ p.long;
      done = λ i l s t. done i l s t (ℕ_discrete l y);
      left = λ i l s. left i l s (ltb (i + l * n) (y * n + b)) refl ∙ p.left i l s;
    }
  where
    done : (i l : ℕ) → i < k → l < y + 1 → Dec (l ≡ y) → at r (b + i + l * n) ≡ f i l
    done i l s t (yes q) =
        let here : b + i + y * n ≡ y * n + b + i = omega arith in
        subst (λ (l : ℕ). at r (b + i + l * n) ≡ f i l) (sym q) (ap (at r) here ∙ w.done i s ∙ e i s)
    done i l s t (no d) =
        let above : l < y = omega arith in
        w.before (b + i + l * n) (omega (arith, place_in {x = b + i} {y = l} {w = n} {h = y} (omega arith) above)) ∙ p.done i l s above

    -- row l begins after row y, or not
    after : (i l : ℕ) → i < b → y * n + b ≤ i + l * n → y * n + b + k ≤ i + l * n
    after i l s h = by (ltb y l) refl
      where
        by : (c : Bool) → ltb y l ≡ c → y * n + b + k ≤ i + l * n
        by true t =
            let q : y < l = ltb-true y l t in
            omega (arith, row_in {y = y} {h = l} n q)
        by false t =
            let q : l ≤ y = ltb-false y l t in
            absurd (omega (arith, mul-le-mul_right n q))

    left : (i l : ℕ) → i < b → (c : Bool) → ltb (i + l * n) (y * n + b) ≡ c → at r (i + l * n) ≡ at r₁ (i + l * n)
    left i l s true t = w.before (i + l * n) (ltb-true (i + l * n) (y * n + b) t)
    left i l s false t = w.after (i + l * n) (after i l s (ltb-false (i + l * n) (y * n + b) t))

pub spread-to : {k y b n : ℕ} {f : ℕ → ℕ → ℤ} {r r₀ : List ℤ} (rows : ℕ) → y ≡ rows → Spread k y b n f r r₀ → Spread k rows b n f r r₀
spread-to {k} {y} {b} {n} {f} {r} {r₀} rows e p = subst (λ (y : ℕ). Spread k y b n f r r₀) e p
