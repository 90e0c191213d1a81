-- By the tests of a field of kept numbers. Assumes nothing.
use borrow.Author.Tests.{eq-eqb, ne_eqb}
use Rattle.file_fields.specs.Field.{header_number}
use Rattle.file_fields.proofs.field.kept_refusal.Goals as goal

pub returns-then-bytes-ne2 : goal.returns-then-bytes-ne2
unfolding header_number
returns-then-bytes-ne2 c = simp (ne_eqb _ _ c.if-bytes-ne2.true)

pub returns : goal.returns
unfolding header_number
returns c = simp (eq-eqb _ _ c.if-bytes-ne2.false) c.held.ensures
