-- What the calls that a picture is made by come to. Assumes nothing.
use mathlib.Core.Path.{◌≡◌, sym, ap, ◌∙◌}
use mathlib.Core.Bool.{cond}
use mathlib.Core.List.{List}
use Prim.Native.Nat.{ℕ}
use native.Mathlib.Omega.{arith}
use borrow.Author.Tests.{eq-eqb, ne_eqb}
use lib.Dec.{eqb}
use lib.IntN.{ℤ}
use Rattle.meaning.specs.declared.Shape.{Shape}
use Rattle.meaning.specs.declared.Answer.{Answer}
use Rattle.meaning.specs.Answer.{Outcome}
use Rattle.meaning.specs.Inverse.{inverse_outcome}
use Rattle.file_fields.specs.declared.cursor.Cursor.{Cursor}
use Rattle.file_fields.specs.declared.cursor.Advance.{Advance}
use Rattle.file_fields.specs.Cursor.{advance_of, bytes_of}
use Rattle.file_numbers.specs.Numbers.{numbers}
use Rattle.file_run.specs.Run.{blank}
use Rattle.file_pick.specs.Pick.{picked}
use Rattle.file_picture.specs.declared.shown.View.{View}
use Rattle.file_picture.specs.Shown.{refused_at, drawn_at, inverse_shown, shown_outcome}

-- ---- a call of the inverse: z is what its output held
module _ (sh : Shape) (c z : List ℤ) (offset : ℕ) (out : List ℕ) (a : Answer) (l : List ℤ) (b : z ≡ blank sh) (e : ◌≡◌ {A = Outcome} (a, l) (inverse_outcome sh c z)) where
  abbrev of_outcome : Outcome → View × List ℕ
  of_outcome o = cond (eqb o.0.number 0) (drawn_at sh o.1 offset out) (refused_at o.0.number offset, out)

  by-outcome : of_outcome (a, l) ≡ inverse_shown sh c offset out
  unfolding inverse_shown
  by-outcome = ap of_outcome (e ∙ ap (inverse_outcome sh c) b)

  pub inverse-refused : (a.number ≡ 0 → ⊥) → ◌≡◌ {A = View × List ℕ} (refused_at a.number offset, out) (inverse_shown sh c offset out)
  inverse-refused h = sym (rw (ne_eqb a.number 0 h)) ∙ by-outcome

  pub inverse-drawn : a.number ≡ 0 → drawn_at sh l offset out ≡ inverse_shown sh c offset out
  inverse-drawn h = sym (rw (eq-eqb a.number 0 h)) ∙ by-outcome

-- ---- the field that was picked, by its tag
module _ (file : List ℕ) (n : ℕ) (out : List ℕ) (k : Cursor) (e : k ≡ picked file n) (st : Advance) (s : st ≡ advance_of file k) where
  abbrev of_pick : Cursor → Advance → View × List ℕ
  of_pick j t =
      cond (eqb t.tag 2) (inverse_shown j.shape (numbers (bytes_of file j)) j.at out)
      (cond (eqb t.tag 3) (drawn_at j.shape (numbers (bytes_of file j)) j.at out)
      (refused_at t.number j.at, out))

  by-pick : of_pick k st ≡ shown_outcome file n out
  unfolding shown_outcome
  by-pick = ap (of_pick k) s ∙ ap (λ (j : Cursor). of_pick j (advance_of file j)) e

  pub is_inverse : st.tag ≡ 2 → inverse_shown k.shape (numbers (bytes_of file k)) k.at out ≡ shown_outcome file n out
  is_inverse t = sym (rw (eq-eqb st.tag 2 t)) ∙ by-pick

  pub is-forward : st.tag ≡ 3 → drawn_at k.shape (numbers (bytes_of file k)) k.at out ≡ shown_outcome file n out
  is-forward t = sym (rw (ne_eqb st.tag 2 (λ p. two-three (sym p ∙ t)), eq-eqb st.tag 3 t)) ∙ by-pick
    where
      two-three : ◌≡◌ {A = ℕ} 2 3 → ⊥
      two-three h = omega arith

  pub is-neither : (st.tag ≡ 2 → ⊥) → (st.tag ≡ 3 → ⊥) → ◌≡◌ {A = View × List ℕ} (refused_at st.number k.at, out) (shown_outcome file n out)
  is-neither p q = sym (rw (ne_eqb st.tag 2 p, ne_eqb st.tag 3 q)) ∙ by-pick
