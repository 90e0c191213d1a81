-- By the tests of a data field. Assumes nothing.
use Rattle.std.proofs.Common.{◌≡◌, ◌*◌, cond, not, ◌∙◌, arith, rules}
use borrow.Author.Tests.{eq-eqb, ne_eqb}
use lib.Dec.{eqb}
use Rattle.meaning.specs.Refusal.{number_in, refusal_number}
use Rattle.file_fields.specs.Field.{header_number, is_none}
use Rattle.file_fields.proofs.Refusals.{hides, is-held}
use Rattle.meaning.proofs.RefusalNumbers.{above}
use Rattle.file_fields.proofs.Shapes.{shape-range}
use Rattle.file_fields.proofs.field.data_refusal.Goals as goal

pub returns-in_err-held : goal.returns-in_err-held
unfolding header_number
returns-in_err-held c =
    let refusal = c.in_err-held.field-0.0 in
    let e : number_in c.from_residual.result ≡ refusal_number refusal = search rules in
    let sh = c.args.shape in
    e ∙ hides (is_none sh) 13 (cond (not (eqb c.args.bytes (2 * (sh.width * sh.height)))) 6 0) (refusal_number refusal) (above refusal) c.in_err-held.ensures

pub overflow_mul-shape : goal.overflow_mul-shape
overflow_mul-shape c = omega (arith, (shape-range c.args.shape (is-held c.args.shape c.in_ok-held.ensures)).1)

pub overflow_mul-shape-2 : goal.overflow_mul-shape-2
overflow_mul-shape-2 c = omega (arith, (shape-range c.args.shape (is-held c.args.shape c.in_ok-held.ensures)).1)

pub returns-then-bytes-shape : goal.returns-then-bytes-shape
unfolding header_number
returns-then-bytes-shape c = simp (eq-eqb _ _ (is-held c.args.shape c.in_ok-held.ensures), ne_eqb _ _ c.if-bytes-shape.true)

pub returns : goal.returns
unfolding header_number
returns c = simp (eq-eqb _ _ (is-held c.args.shape c.in_ok-held.ensures), eq-eqb _ _ c.if-bytes-shape.false)
