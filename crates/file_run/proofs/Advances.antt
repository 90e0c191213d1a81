-- What an advance of the reader makes of a turn. Assumes nothing.
use mathlib.Core.Path.{◌≡◌, refl, sym, ap, subst, ◌∙◌}
use mathlib.Core.Bool.{Bool, true, false, cond, not, false≢true}
use mathlib.Core.List.{List, []}
use Prim.Native.Nat.{ℕ, ◌+◌, ◌*◌}
use native.Mathlib.Omega.{arith}
use borrow.Author.Tests.{eq-eqb, ne_eqb}
use lib.Dec.{eqb}
use lib.IntN.{ℤ}
use lib.ListN.{length}
use Rattle.meaning.specs.declared.Shape.{Shape}
use Rattle.meaning.specs.declared.Answer.{Answer}
use Rattle.meaning.specs.Inverse.{inverse_outcome}
use Rattle.meaning.specs.Forward.{forward_outcome}
use Rattle.file_fields.specs.declared.cursor.Cursor.{Cursor}
use Rattle.file_fields.specs.declared.cursor.Advance.{Advance}
use Rattle.file_run.specs.declared.run.TurnDone.{TurnDone}
use Rattle.file_fields.specs.Cursor.{advance_of, found_at, bytes_of}
use Rattle.file_numbers.specs.Numbers.{numbers}
use Rattle.file_text.specs.Text.{inverse_text, forward_text}
use Rattle.file_run.specs.Run.{Turn, blank, refused_turn, block_turn, inverse_turn, forward_turn, turn_at}
use Rattle.file_fields.specs.Body.{Fits}
use Rattle.file_run.specs.Does.{Does, Follows}
use Rattle.file_fields.proofs.Shapes.{shape-range}
use Rattle.file_fields.proofs.Body.{Read}

-- a block's turn goes on behind its field, refused or not
block-next : (a : Answer) (text : List ℕ) (offset : ℕ) (n : Cursor) → (block_turn a text offset n).next ≡ n
block-next a text offset n = go (eqb a.number 0)
  where
    go : (b : Bool) → (cond b (record { text = text; ends = false; number = 0; next = n }) (refused_turn a.number offset n)).next ≡ n
    go true = refl
    go false = refl

pub inverse-next : (sh : Shape) (z : List ℤ) (offset : ℕ) (n : Cursor) → (inverse_turn sh z offset n).next ≡ n
inverse-next sh z offset n =
    let o = inverse_outcome sh z (blank sh) in
    block-next o.0 (inverse_text sh.width sh.height o.0.rails o.1) offset n

pub forward-next : (sh : Shape) (z : List ℤ) (offset : ℕ) (n : Cursor) → (forward_turn sh z offset n).next ≡ n
forward-next sh z offset n =
    let o = forward_outcome sh z (blank sh) in
    block-next o.0 (forward_text sh.width sh.height o.1) offset n

-- the same bytes, said otherwise
module _ (t : List ℕ → Turn) where
  pub same_bytes : (l m : List ℕ) {at : ℕ} {o o₁ : List ℕ} {d : TurnDone} → l ≡ m → Does (t l) (35 + 6 * length l) at o o₁ d → Does (t m) (35 + 6 * length m) at o o₁ d
  same_bytes l m {at} {o} {o₁} {d} e a = subst (λ (x : List ℕ). Does (t x) (35 + 6 * length x) at o o₁ d) e a

-- a turn that ends the run is not followed
pub no_more : {t : Turn} {m at place : ℕ} {o o₁ : List ℕ} {d : TurnDone} → Does t m at o o₁ d → t.ends ≡ true → Follows place at d
no_more a e = λ h. absurd (false≢true (sym h ∙ a.ends ∙ e))

module _ (file : List ℕ) (c : Cursor) where
  pub data-follows : {t : Turn} {at : ℕ} {o o₁ : List ℕ} {d : TurnDone} → Fits c.shape (bytes_of file c) × Read file c (found_at file c)
      → Does t (35 + 6 * length (bytes_of file c)) at o o₁ d → t.next ≡ (found_at file c).next → Follows c.at at d
  data-follows {d = d} r a e h =
      let n : d.next.at ≡ (found_at file c).next.at = ap (λ (k : Cursor). k.at) (a.next ∙ e) in
      let s = shape-range c.shape r.0.held in
      (omega (arith, n, r.1.place), omega (arith, n, r.1.inside), omega (arith, n, r.1.place, a.wrote.room, r.0.long, s.0))

  -- ---- the turn, by the number and the tag of the advance
  abbrev of_advance : Advance → Turn
  of_advance st =
      cond (not (eqb st.number 0)) (refused_turn st.number c.at st.next)
      (cond (eqb st.tag 2) (inverse_turn c.shape (numbers (bytes_of file c)) c.at st.next)
      (cond (eqb st.tag 3) (forward_turn c.shape (numbers (bytes_of file c)) c.at st.next)
      (record { text = []; ends = eqb st.tag 0; number = 0; next = st.next })))

  by-advance : (st : Advance) → st ≡ advance_of file c → of_advance st ≡ turn_at file c
  unfolding turn_at
  by-advance st e = ap of_advance e

  module _ (st : Advance) (e : st ≡ advance_of file c) where
    pub turn-refused : (st.number ≡ 0 → ⊥) → refused_turn st.number c.at st.next ≡ turn_at file c
    turn-refused h = sym (rw (ne_eqb st.number 0 h)) ∙ by-advance st e

    pub turn-inverse : st.number ≡ 0 → st.tag ≡ 2 → inverse_turn c.shape (numbers (bytes_of file c)) c.at st.next ≡ turn_at file c
    turn-inverse h t = sym (rw (eq-eqb st.number 0 h, t)) ∙ by-advance st e

    pub turn-forward : st.number ≡ 0 → st.tag ≡ 3 → forward_turn c.shape (numbers (bytes_of file c)) c.at st.next ≡ turn_at file c
    turn-forward h t = sym (rw (eq-eqb st.number 0 h, t)) ∙ by-advance st e

    pub turn-silent : st.number ≡ 0 → (st.tag ≡ 2 → ⊥) → (st.tag ≡ 3 → ⊥) → record { text = []; ends = eqb st.tag 0; number = 0; next = st.next } ≡ turn_at file c
    turn-silent h b d = sym (rw (eq-eqb st.number 0 h, ne_eqb st.tag 2 b, ne_eqb st.tag 3 d)) ∙ by-advance st e
