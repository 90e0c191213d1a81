-- By the number and the tag of the advance. Assumes nothing.
use Rattle.std.proofs.Common.{◌≡◌, List, ℕ, true, refl, sym, ap, subst, ◌∙◌, arith}
use mathlib.Core.Bool.{true≢false}
use borrow.Author.Tests.{eq-eqb, ne_eqb}
use Rattle.file_fields.specs.declared.cursor.Cursor.{Cursor}
use Rattle.file_fields.specs.declared.cursor.Advance.{Advance}
use Rattle.file_fields.specs.Field.{is_data}
use Rattle.file_fields.specs.Cursor.{found_at, advance_of, bytes_of}
use Rattle.file_numbers.specs.Numbers.{numbers}
use Rattle.file_run.specs.Run.{inverse_turn, forward_turn}
use Rattle.file_fields.specs.Body.{Fits}
use Rattle.file_fields.proofs.Shapes.{shape-range}
use Rattle.file_text.proofs.Writing.{nothing}
use Rattle.file_run.proofs.Turns.{same_turn, at_most}
use Rattle.file_fields.proofs.Body.{Read, bytes, read-on, read-data}
use Rattle.file_run.proofs.Advances.{inverse-next, forward-next, no_more, same_bytes, data-follows, turn-refused, turn-inverse, turn-forward, turn-silent}
use Rattle.file_run.proofs.run.turn.Goals as goal

-- what an advance that read data says
held : (file : List ℕ) (k : Cursor) (st : Advance) → st ≡ advance_of file k → st.number ≡ 0 → is_data st.tag ≡ true → Fits k.shape (bytes_of file k) × Read file k (found_at file k)
held file k st e z t = read-data file k (sym (ap (λ (x : Advance). x.number) e) ∙ z) (ap (λ (x : Advance). is_data x.tag) (sym e) ∙ t)

pub returns-then-advance-ne0 : goal.returns-then-advance-ne0
returns-then-advance-ne0 c =
    let a = c.advance-advance in
    let d = c.refused.ensures in
    (at_most (same_turn (turn-refused c.args.file.now c.args.cursor a.result a.ensures c.if-advance-ne0.true) d) (omega arith), no_more d refl)

pub inverse_turn-requires : goal.inverse_turn-requires
inverse_turn-requires c =
    let a = c.advance-advance in
    let r = held c.args.file.now c.args.cursor a.result a.ensures c.if-advance-ne0.false (rw c.in-2.is) in
    (subst (λ (l : List ℕ). Fits c.args.cursor.shape l) (sym (bytes c.body.ensures)) r.0, c.requires.0, c.requires.1)

pub forward_turn-requires : goal.forward_turn-requires
forward_turn-requires c =
    let a = c.advance-advance in
    let r = held c.args.file.now c.args.cursor a.result a.ensures c.if-advance-ne0.false (rw c.in-3.is) in
    (subst (λ (l : List ℕ). Fits c.args.cursor.shape l) (sym (bytes c.body-in-3.ensures)) r.0, c.requires.0, c.requires.1)

pub returns-in-0 : goal.returns-in-0
returns-in-0 c =
    let a = c.advance-advance in
    let e = turn-silent c.args.file.now c.args.cursor a.result a.ensures c.if-advance-ne0.false (λ h. omega arith) (λ h. omega arith) in
    let ends = eq-eqb a.result.tag 0 c.in-0.is in
    (same_turn e (record { wrote = nothing _ _ _; ends = sym ends; number = refl; next = refl }), λ h. absurd (true≢false h))

pub returns-in-2 : goal.returns-in-2
returns-in-2 c =
    let a = c.advance-advance in
    let k = c.args.cursor in
    let file = c.args.file.now in
    let r = held file k a.result a.ensures c.if-advance-ne0.false (rw c.in-2.is) in
    let d = same_bytes (λ (l : List ℕ). inverse_turn k.shape (numbers l) k.at a.result.next) _ (bytes_of file k) (bytes c.body.ensures) c.inverse_turn.ensures in
    let s = shape-range k.shape r.0.held in
    (at_most (same_turn (turn-inverse file k a.result a.ensures c.if-advance-ne0.false c.in-2.is) d) (omega (arith, r.0.long, s.1)), data-follows file k r d (inverse-next k.shape (numbers (bytes_of file k)) k.at a.result.next ∙ ap (λ (x : Advance). x.next) a.ensures))

pub returns-in-3 : goal.returns-in-3
returns-in-3 c =
    let a = c.advance-advance in
    let k = c.args.cursor in
    let file = c.args.file.now in
    let r = held file k a.result a.ensures c.if-advance-ne0.false (rw c.in-3.is) in
    let d = same_bytes (λ (l : List ℕ). forward_turn k.shape (numbers l) k.at a.result.next) _ (bytes_of file k) (bytes c.body-in-3.ensures) c.forward_turn.ensures in
    let s = shape-range k.shape r.0.held in
    (at_most (same_turn (turn-forward file k a.result a.ensures c.if-advance-ne0.false c.in-3.is) d) (omega (arith, r.0.long, s.1)), data-follows file k r d (forward-next k.shape (numbers (bytes_of file k)) k.at a.result.next ∙ ap (λ (x : Advance). x.next) a.ensures))

pub returns-in_default : goal.returns-in_default
returns-in_default c =
    let a = c.advance-advance in
    let k = c.args.cursor in
    let file = c.args.file.now in
    let some : a.result.tag ≡ 0 → ⊥ = λ z. omega arith in
    let e = turn-silent file k a.result a.ensures c.if-advance-ne0.false (λ h. omega arith) (λ h. omega arith) in
    let ends = ne_eqb a.result.tag 0 some in
    let n : a.result.next.at ≡ (found_at file k).next.at = ap (λ (x : Advance). x.next.at) a.ensures in
    let r = read-on file k (λ z. some (ap (λ (x : Advance). x.tag) a.ensures ∙ z)) in
    (same_turn e (record { wrote = nothing _ _ _; ends = sym ends; number = refl; next = refl }), λ h. (omega (arith, n, r.0), omega (arith, n, r.1), omega (arith, n, r.0)))
