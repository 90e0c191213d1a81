-- How writers of text compose. Assumes nothing.
use mathlib.Core.Path.{◌≡◌, refl, sym, subst, ◌∙◌}
use mathlib.Core.List.{List, [], ◌∷◌, ◌++◌, append_assoc, append-nil}
use Prim.Native.Nat.{ℕ, ◌+◌, ◌≤◌, ◌<◌}
use native.Mathlib.Numerals.{add-one}
use native.Mathlib.Omega.{arith}
use lib.ListN.{length, take, drop, set, length-append}
use lib.Seq.{take-suc-set, drop-set-lt, drop-drop}
use Rattle.file_text.specs.Wrote.{Wrote}

-- a byte
pub one : (b at : ℕ) (o : List ℕ) → at < length o → Wrote (b ∷ []) 1 at o (set o at b) (at + 1)
one b at o h =
    record {
      next = refl;
      front = rw (add-one at, take-suc-set o at b h);
      beyond = drop-set-lt (at + 1) o at b (omega arith);
      room = omega arith;
    }

-- what is as it was from a place on is so from a later place on
pub later : {A : Type 0} (p k r : ℕ) (o o₁ : List A) → r ≡ p + k → drop p o₁ ≡ drop p o → drop r o₁ ≡ drop r o
later p k r o o₁ e h = rw (e, ← drop-drop k p o₁, ← drop-drop k p o, h)

-- one text after the other
pub and_then : {s t : List ℕ} {m n at p r : ℕ} {o o₁ o₂ : List ℕ} → Wrote s m at o o₁ p → Wrote t n p o₁ o₂ r → Wrote (s ++ t) (m + n) at o o₂ r
and_then {s} {t} {m} {n} {at} {p} {r} {o} {o₁} {o₂} a b =
    record {
      next = simp length-append (omega arith);
      front = b.front ∙ rw a.front (append_assoc (take at o) s t);
      beyond = b.beyond ∙ later p (length t) r o o₁ b.next a.beyond;
      room = omega arith;
    }

-- a larger bound
pub within : {s : List ℕ} {m n at r : ℕ} {o o₁ : List ℕ} → Wrote s m at o o₁ r → m ≤ n → Wrote s n at o o₁ r
within a h = record { next = a.next; front = a.front; beyond = a.beyond; room = omega arith }

-- no text
pub nothing : (m at : ℕ) (o : List ℕ) → Wrote [] m at o o at
nothing m at o = record { next = omega arith; front = sym (append-nil (take at o)); beyond = refl; room = omega arith }

-- the same text, said otherwise
pub retext : {s t : List ℕ} {m at r : ℕ} {o o₁ : List ℕ} → s ≡ t → Wrote s m at o o₁ r → Wrote t m at o o₁ r
retext {m = m} {at = at} {r = r} {o = o} {o₁ = o₁} e a = subst (λ (x : List ℕ). Wrote x m at o o₁ r) e a
