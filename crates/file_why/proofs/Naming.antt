-- What the field that was named comes to, by its tag. Assumes nothing.
use mathlib.Core.Path.{◌≡◌, sym, ap, ◌∙◌}
use mathlib.Core.Bool.{cond}
use mathlib.Core.List.{List}
use Prim.Native.Nat.{ℕ}
use borrow.Author.Tests.{eq-eqb, ne_eqb}
use lib.Dec.{eqb}
use Rattle.file_fields.specs.declared.cursor.Cursor.{Cursor}
use Rattle.file_fields.specs.declared.cursor.Advance.{Advance}
use Rattle.file_fields.specs.Cursor.{advance_of, bytes_of}
use Rattle.file_numbers.specs.Numbers.{numbers}
use Rattle.file_pick.specs.Pick.{picked}
use Rattle.file_why.specs.declared.named.Reasons.{Reasons}
use Rattle.file_why.specs.Named.{inverse_named, none_named, named_outcome}

module _ (file : List ℕ) (n place : ℕ) (k : Cursor) (e : k ≡ picked file n) (st : Advance) (s : st ≡ advance_of file k) where
  abbrev of_pick : Cursor → Advance → Reasons
  of_pick j t = cond (eqb t.tag 2) (inverse_named j.shape (numbers (bytes_of file j)) j.at place) (none_named t.tag t.number j.at)

  by-pick : of_pick k st ≡ named_outcome file n place
  unfolding named_outcome
  by-pick = ap (of_pick k) s ∙ ap (λ (j : Cursor). of_pick j (advance_of file j)) e

  pub is_inverse : st.tag ≡ 2 → inverse_named k.shape (numbers (bytes_of file k)) k.at place ≡ named_outcome file n place
  is_inverse t = sym (rw (eq-eqb st.tag 2 t)) ∙ by-pick

  pub is_none : (st.tag ≡ 2 → ⊥) → none_named st.tag st.number k.at ≡ named_outcome file n place
  is_none p = sym (rw (ne_eqb st.tag 2 p)) ∙ by-pick
