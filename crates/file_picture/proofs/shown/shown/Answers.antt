-- By the tag of the field that was picked. Assumes nothing.
use Rattle.std.proofs.Common.{◌≡◌, List, ℕ, true, sym, ap, subst, ◌∙◌, arith}
use Rattle.file_fields.specs.declared.cursor.Advance.{Advance}
use Rattle.file_fields.specs.Field.{is_data}
use Rattle.file_fields.specs.Cursor.{found_at}
use Rattle.file_numbers.specs.Numbers.{numbers}
use Rattle.file_fields.specs.Body.{Fits}
use Rattle.file_picture.specs.declared.shown.View.{View}
use Rattle.file_picture.specs.Shown.{drawn_at, inverse_shown}
use Rattle.file_fields.proofs.Body.{bytes, data-fits}
use Rattle.file_picture.proofs.Drawing.{is_inverse, is-forward, is-neither}
use Rattle.file_picture.proofs.shown.shown.Goals as goal

pub inverse_shown-requires : goal.inverse_shown-requires
inverse_shown-requires c =
    let file = c.args.file.now in
    let k = c.pick-cursor.result in
    let t : is_data (found_at file k).tag ≡ true = rw (sym (ap (λ (x : Advance). x.tag) c.advance-advance.ensures) ∙ c.in-2.is) in
    subst (λ (l : List ℕ). Fits k.shape l) (sym (bytes c.body.ensures)) (data-fits file k t)

pub forward_shown-requires : goal.forward_shown-requires
forward_shown-requires c =
    let file = c.args.file.now in
    let k = c.pick-cursor.result in
    let t : is_data (found_at file k).tag ≡ true = rw (sym (ap (λ (x : Advance). x.tag) c.advance-advance.ensures) ∙ c.in-3.is) in
    subst (λ (l : List ℕ). Fits k.shape l) (sym (bytes c.body-in-3.ensures)) (data-fits file k t)

pub returns-in-2 : goal.returns-in-2
returns-in-2 c =
    let a = c.args in
    let out = a.picture.now in
    let k = c.pick-cursor.result in
    c.inverse_shown.ensures
    ∙ ap (λ (l : List ℕ). inverse_shown k.shape (numbers l) k.at out) (bytes c.body.ensures)
    ∙ is_inverse a.file.now a.n out k c.pick-cursor.ensures c.advance-advance.result c.advance-advance.ensures c.in-2.is

pub returns-in-3 : goal.returns-in-3
returns-in-3 c =
    let a = c.args in
    let out = a.picture.now in
    let k = c.pick-cursor.result in
    c.forward_shown.ensures
    ∙ ap (λ (l : List ℕ). drawn_at k.shape (numbers l) k.at out) (bytes c.body-in-3.ensures)
    ∙ is-forward a.file.now a.n out k c.pick-cursor.ensures c.advance-advance.result c.advance-advance.ensures c.in-3.is

pub returns-in_default : goal.returns-in_default
returns-in_default c =
    let a = c.args in
    let out = a.picture.now in
    ap (λ (x : View). (x, out)) c.refused.ensures
    ∙ is-neither a.file.now a.n out c.pick-cursor.result c.pick-cursor.ensures c.advance-advance.result c.advance-advance.ensures (λ h. omega arith) (λ h. omega arith)
