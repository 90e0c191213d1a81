-- Turns of the run. Assumes nothing.
use mathlib.Core.Path.{◌≡◌, ap, subst, ◌∙◌}
use mathlib.Core.Bool.{false}
use mathlib.Core.List.{List}
use Prim.Native.Nat.{ℕ, ◌*◌, ◌≤◌}
use borrow.Author.Tests.{eq-eqb, ne_eqb}
use lib.IntN.{ℤ, pos}
use native.Mathlib.Omega.{arith}
use lib.ListN.{length, take, length-take}
use Rattle.algebra.specs.Lists.{at}
use Rattle.algebra.proofs.Lists.{tabulated, take-zeros}
use Rattle.meaning.specs.declared.Shape.{Shape}
use Rattle.meaning.specs.Answer.{Outcome}
use Rattle.meaning.specs.Inverse.{inverse_outcome}
use Rattle.meaning.specs.Forward.{forward_outcome}
use Rattle.meaning.specs.declared.Answer.{Answer}
use Rattle.file_fields.specs.declared.cursor.Cursor.{Cursor}
use Rattle.file_run.specs.declared.run.TurnDone.{TurnDone}
use Rattle.file_text.specs.Text.{inverse_text, forward_text}
use Rattle.file_run.specs.Run.{Turn, blank, refused_turn, block_turn, inverse_turn, forward_turn}
use Rattle.file_run.specs.Does.{Does}
use Rattle.file_text.proofs.Writing.{within}

-- the same turn, said otherwise, and a larger bound
pub same_turn : {t u : Turn} {m at : ℕ} {o o₁ : List ℕ} {d : TurnDone} → t ≡ u → Does t m at o o₁ d → Does u m at o o₁ d
same_turn {m = m} {at = at} {o = o} {o₁ = o₁} {d = d} e a = subst (λ (t : Turn). Does t m at o o₁ d) e a

pub at_most : {t : Turn} {m n at : ℕ} {o o₁ : List ℕ} {d : TurnDone} → Does t m at o o₁ d → m ≤ n → Does t n at o o₁ d
at_most a h = record { wrote = within a.wrote h; ends = a.ends; number = a.number; next = a.next }

-- a block that 8 or 9 refuses, and one that was run
pub block_refused : (a : Answer) (text : List ℕ) (offset : ℕ) (n : Cursor) → (a.number ≡ 0 → ⊥) → refused_turn a.number offset n ≡ block_turn a text offset n
block_refused a text offset n h = rw (ne_eqb a.number 0 h)

pub block_made : (a : Answer) (text : List ℕ) (offset : ℕ) (n : Cursor) → a.number ≡ 0 → record { text = text; ends = false; number = 0; next = n } ≡ block_turn a text offset n
block_made a text offset n h = rw (eq-eqb a.number 0 h)

-- ---- what a call of the inverse or of the forward makes of a turn: z is what its output held
module _ (sh : Shape) (c z : List ℤ) (offset : ℕ) (n : Cursor) (a : Answer) (l : List ℤ) (b : z ≡ blank sh) where
  abbrev inverse_of : Outcome → Turn
  inverse_of o = block_turn o.0 (inverse_text sh.width sh.height o.0.rails o.1) offset n

  abbrev forward_of : Outcome → Turn
  forward_of o = block_turn o.0 (forward_text sh.width sh.height o.1) offset n

  pub inverse-refused : ◌≡◌ {A = Outcome} (a, l) (inverse_outcome sh c z) → (a.number ≡ 0 → ⊥) → refused_turn a.number offset n ≡ inverse_turn sh c offset n
  inverse-refused e h = block_refused a (inverse_text sh.width sh.height a.rails l) offset n h ∙ ap inverse_of (e ∙ ap (inverse_outcome sh c) b)

  pub inverse-made : ◌≡◌ {A = Outcome} (a, l) (inverse_outcome sh c z) → a.number ≡ 0 → record { text = inverse_text sh.width sh.height a.rails l; ends = false; number = 0; next = n } ≡ inverse_turn sh c offset n
  inverse-made e h = block_made a (inverse_text sh.width sh.height a.rails l) offset n h ∙ ap inverse_of (e ∙ ap (inverse_outcome sh c) b)

  pub forward-refused : ◌≡◌ {A = Outcome} (a, l) (forward_outcome sh c z) → (a.number ≡ 0 → ⊥) → refused_turn a.number offset n ≡ forward_turn sh c offset n
  forward-refused e h = block_refused a (forward_text sh.width sh.height l) offset n h ∙ ap forward_of (e ∙ ap (forward_outcome sh c) b)

  pub forward-made : ◌≡◌ {A = Outcome} (a, l) (forward_outcome sh c z) → a.number ≡ 0 → record { text = forward_text sh.width sh.height l; ends = false; number = 0; next = n } ≡ forward_turn sh c offset n
  forward-made e h = block_made a (forward_text sh.width sh.height l) offset n h ∙ ap forward_of (e ∙ ap (forward_outcome sh c) b)

-- a part of a buffer of zeros is a block's output before it is run
pub zero-part : (sh : Shape) (n : ℕ) (z : List ℤ) → n ≡ sh.width * sh.height → n ≤ length z → ((k : ℕ) → at z k ≡ pos 0) → take n z ≡ blank sh
zero-part sh n z e l h =
    let long : length (take n z) ≡ n = simp length-take (omega arith) in
    tabulated (sh.width * sh.height) (take n z) (λ k. pos 0) (long ∙ e) (λ k i. take-zeros n z h k)
