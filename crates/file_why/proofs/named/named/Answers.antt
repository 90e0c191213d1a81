-- By the tag of the field that was named. Assumes nothing.
use Rattle.std.proofs.Common.{◌≡◌, List, ℕ, true, sym, ap, subst, ◌∙◌}
use Rattle.why.specs.declared.answer.Parts.{Parts}
use Rattle.file_fields.specs.declared.cursor.Advance.{Advance}
use Rattle.file_fields.specs.Field.{is_data}
use Rattle.file_fields.specs.Cursor.{found_at}
use Rattle.file_numbers.specs.Numbers.{numbers}
use Rattle.file_fields.specs.Body.{Fits}
use Rattle.file_fields.proofs.Body.{bytes, data-fits}
use Rattle.file_why.specs.Named.{inverse_named}
use Rattle.file_why.proofs.Naming.{is_inverse, is_none}
use Rattle.file_why.proofs.named.named.Goals as goal

pub body_parts-parts-requires : goal.body_parts-parts-requires
body_parts-parts-requires c =
    let file = c.args.file.now in
    let k = c.pick-cursor.result in
    let t : is_data (found_at file k).tag ≡ true = rw (sym (ap (λ (x : Advance). x.tag) c.advance-advance.ensures) ∙ c.if-advance-eq2.true) in
    subst (λ (l : List ℕ). Fits k.shape l) (sym (bytes c.body.ensures)) (data-fits file k t)

pub returns-then-advance-eq2 : goal.returns-then-advance-eq2
returns-then-advance-eq2 c =
    let a = c.args in
    let k = c.pick-cursor.result in
    let advance = c.advance-advance in
    ap (λ (p : Parts). record { tag = 2; offset = k.at; depth = k.shape.depth; parts = p }) c.body_parts-parts.ensures
    ∙ ap (λ (l : List ℕ). inverse_named k.shape (numbers l) k.at a.place) (bytes c.body.ensures)
    ∙ is_inverse a.file.now a.n a.place k c.pick-cursor.ensures advance.result advance.ensures c.if-advance-eq2.true

pub returns : goal.returns
returns c =
    let a = c.args in
    let k = c.pick-cursor.result in
    let advance = c.advance-advance in
    ap (λ (p : Parts). record { tag = advance.result.tag; offset = k.at; depth = 0; parts = p }) c.none.ensures
    ∙ is_none a.file.now a.n a.place k c.pick-cursor.ensures advance.result advance.ensures c.if-advance-eq2.false
