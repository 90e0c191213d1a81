-- The number of the first refusal that applies. Assumes nothing.
use mathlib.Core.Path.{◌≡◌, refl}
use mathlib.Core.Bool.{Bool, true, false, cond, not, ◌&&◌}
use mathlib.Core.List.{List, [], ◌∷◌, ◌++◌}
use Prim.Native.Nat.{ℕ, zero, suc, ◌<◌}
use native.Mathlib.Omega.{arith}
use borrow.Author.Tests.{ne_eqb}
use lib.Dec.{T, eqb, ltb, ltb→lt}
use Rattle.algebra.proofs.Table.{and_left, and_right}
use Rattle.algebra.specs.Refusals.{Test, number_of}

-- every number is above 0
abbrev pub numbered : List Test → Bool
numbered [] = true
numbered (t ∷ ts) = ltb 0 t.number && numbered ts

above : (t : Test) (ts : List Test) → T (numbered (t ∷ ts)) → 0 < t.number
above t ts h = ltb→lt 0 t.number (and_left (ltb 0 t.number) (numbered ts) h)

others : (t : Test) (ts : List Test) → T (numbered (t ∷ ts)) → T (numbered ts)
others t ts h = and_right (ltb 0 t.number) (numbered ts) h

-- the tests of one list, then those of another
pub number_append : (ts us : List Test) → T (numbered ts) → number_of (ts ++ us) ≡ cond (eqb (number_of ts) 0) (number_of us) (number_of ts)
number_append [] us h = refl
number_append (t ∷ ts) us h = go (number_of ts) (number_of us) t.applies t.number (above t ts h) (number_append ts us (others t ts h))
  where
    go : {k : ℕ} (l m : ℕ) (b : Bool) (n : ℕ) → 0 < n → k ≡ cond (eqb l 0) m l → cond b n k ≡ cond (eqb (cond b n l) 0) m (cond b n l)
    go l m true n h e = rw (ne_eqb n 0 (λ p. omega arith))
    go l m false n h e = e

-- none applies
abbrev pub Passed : List Test → Type 0
Passed [] = Unit {0}
Passed (t ∷ ts) = (t.applies ≡ false) × Passed ts

-- where the number is 0, no test of the first list applies
pub passed : (ts us : List Test) → T (numbered ts) → number_of (ts ++ us) ≡ 0 → Passed ts
passed [] us h e = tt
passed (t ∷ ts) us h e =
    let s = go t.applies t.number (number_of (ts ++ us)) (above t ts h) e in
    (s.0, passed ts us (others t ts h) s.1)
  where
    go : (b : Bool) (n k : ℕ) → 0 < n → cond b n k ≡ 0 → (b ≡ false) × (k ≡ 0)
    go true n k h e = absurd (omega arith)
    go false n k h e = (refl, e)

-- a test whose number is 0 where it does not apply
pub or-zero : (k : ℕ) → cond (not (eqb k 0)) k 0 ≡ k
or-zero zero = refl
or-zero (suc k) = rw (ne_eqb (suc k) 0 (λ p. omega arith))
