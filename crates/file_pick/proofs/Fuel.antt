-- The number of fields that `walk` is given says nothing: any that is at least what is left of the file reaches the same
-- cursor. Assumes nothing.
use mathlib.Core.Path.{◌≡◌, refl, sym}
use mathlib.Core.Bool.{Bool, true, false, cond, false≢true}
use mathlib.Core.List.{List}
use Prim.Native.Nat.{ℕ, zero, suc, ◌+◌, ◌≤◌, ◌<◌}
use native.Mathlib.Omega.{arith}
use lib.ListN.{length}
use Rattle.file_fields.specs.declared.cursor.Cursor.{Cursor}
use Rattle.file_fields.specs.Cursor.{file_start, advance_of}
use Rattle.file_fields.proofs.Found.{found-cases}
use Rattle.file_pick.specs.Pick.{passes, left, walk, picked}

-- a field that is passed over lies in the file, and the next one behind it
pub moves : (file : List ℕ) (c : Cursor) (n : ℕ) → passes (advance_of file c).tag n ≡ true → (c.at < length file) × (c.at < (advance_of file c).next.at)
unfolding passes
moves file c n =
    found-cases file c (λ f. passes f.tag n ≡ true → (c.at < length file) × (c.at < f.next.at))
    (λ k z e. absurd (false≢true e))
    (λ h l w e. (h, omega arith))

either : (x : Bool) (a b d : Cursor) → (x ≡ true → a ≡ b) → cond x a d ≡ cond x b d
either true a b d e = e refl
either false a b d e = refl

at-end : (x : Bool) (a d : Cursor) → (x ≡ true → ⊥) → d ≡ cond x a d
at-end true a d e = absurd (e refl)
at-end false a d e = refl

enough : (k j : ℕ) (file : List ℕ) (n : ℕ) (c : Cursor) → length file ≤ c.at + k → length file ≤ c.at + j → walk k file n c ≡ walk j file n c
unfolding walk
enough zero zero file n c h g = refl
enough zero (suc j) file n c h g = at-end (passes (advance_of file c).tag n) (walk j file (left (advance_of file c).tag n) (advance_of file c).next) c (λ e. let m = moves file c n e in omega arith)
enough (suc k) zero file n c h g = sym (at-end (passes (advance_of file c).tag n) (walk k file (left (advance_of file c).tag n) (advance_of file c).next) c (λ e. let m = moves file c n e in omega arith))
enough (suc k) (suc j) file n c h g =
    let s = advance_of file c in
    either (passes s.tag n) (walk k file (left s.tag n) s.next) (walk j file (left s.tag n) s.next) c
    (λ e. let m = moves file c n e in enough k j file (left s.tag n) s.next (omega arith) (omega arith))

pub fuel : (file : List ℕ) (n k : ℕ) → length file ≤ k → walk k file n file_start ≡ picked file n
unfolding picked
fuel file n k h = enough k (length file) file n file_start (omega arith) (omega arith)

-- one field, and then the rest
pub one_field : (file : List ℕ) (n : ℕ) (c : Cursor)
    → walk (length file) file n c ≡ cond (passes (advance_of file c).tag n) (walk (length file) file (left (advance_of file c).tag n) (advance_of file c).next) c
unfolding walk
one_field file n c = enough (length file) (suc (length file)) file n c (omega arith) (omega arith)
