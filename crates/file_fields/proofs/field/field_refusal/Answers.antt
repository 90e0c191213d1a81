-- The tests in the code's order. Assumes nothing.
use Rattle.std.proofs.Common.{◌≡◌, sym, ap, ◌∙◌, rules}
use borrow.Author.Tests.{lt-ltb}
use Rattle.meaning.specs.Refusal.{number_in, refusal_number}
use Rattle.file_fields.specs.Field.{shape_number}
use Rattle.file_fields.proofs.Shapes.{shape-number}
use Rattle.file_fields.proofs.Whole.{in_order}
use Rattle.file_fields.proofs.Refusals.{by-header, by-body, by-shape, behind}
use Rattle.file_fields.proofs.field.field_refusal.Goals as goal

pub returns-then-file-at : goal.returns-then-file-at
returns-then-file-at c = rw (in_order c.args.file.now c.args.at c.args.shape, lt-ltb _ _ c.if-file-at.true)

pub returns-in_err-header_refusal : goal.returns-in_err-header_refusal
returns-in_err-header_refusal c =
    let refusal = c.in_err-header_refusal.field-0.0 in
    let e : number_in c.from_residual.result ≡ refusal_number refusal = search rules in
    e ∙ by-header c.args.file.now c.args.at _ c.args.shape c.length_at-bytes.ensures.0 c.if-file-at.false refusal c.in_err-header_refusal.ensures

pub returns-then-file-end : goal.returns-then-file-end
returns-then-file-end c =
    by-body c.args.file.now c.args.at _ c.args.shape c.length_at-bytes.ensures.0 c.if-file-at.false c.in_ok-header_refusal.ensures c.if-file-end.true

pub shape_behind-requires : goal.shape_behind-requires
shape_behind-requires c =
    behind c.args.file.now c.args.at _ c.args.shape c.length_at-bytes.ensures.0 c.if-file-at.false c.in_ok-header_refusal.ensures c.if-file-end.false

pub returns : goal.returns
returns c =
    let e = by-shape c.args.file.now c.args.at _ c.args.shape c.length_at-bytes.ensures.0 c.if-file-at.false c.in_ok-header_refusal.ensures c.if-file-end.false in
    shape-number _ c.refusal.ensures ∙ ap shape_number c.shape_behind.ensures ∙ sym e
