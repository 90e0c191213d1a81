-- The field, where none of its tests applies. Assumes nothing.
use Rattle.std.proofs.Common.{◌≡◌, sym, ◌∙◌, rules, arith}
use borrow.Author.Tests.{eq-eqb, ne_eqb, lt-ltb, le-ltb}
use Rattle.meaning.specs.Refusal.{refusal_number}
use Rattle.file_fields.specs.Field.{nothing, field_number, field_at}
use Rattle.file_fields.specs.Read.{field_in}
use Rattle.meaning.proofs.RefusalNumbers.{above}
use Rattle.file_fields.proofs.Whole.{whole-field}
use Rattle.file_fields.proofs.field.field_at.Goals as goal

pub returns-then-at-file : goal.returns-then-at-file
unfolding field_at
returns-then-at-file c = simp (le-ltb _ _ c.if-at-file.true)

pub returns-in_err-field_refusal : goal.returns-in_err-field_refusal
unfolding field_at
returns-in_err-field_refusal c =
    let refusal = c.in_err-field_refusal.field-0.0 in
    let e : field_in c.args.at c.args.shape c.from_residual.result ≡ nothing (refusal_number refusal) c.args.at c.args.shape = search rules in
    let n = c.in_err-field_refusal.ensures in
    let p = above refusal in
    e ∙ rw (lt-ltb _ _ c.if-at-file.false, ne_eqb (field_number c.args.file.now c.args.at c.args.shape) 0 (λ z. omega (arith, n, z)), n)

pub length_at-bytes-requires : goal.length_at-bytes-requires
length_at-bytes-requires c = (whole-field c.args.file.now c.args.at c.args.shape (sym c.in_ok-field_refusal.ensures)).header

pub shape_behind-behind-requires : goal.shape_behind-behind-requires
shape_behind-behind-requires c =
    let w = whole-field c.args.file.now c.args.at c.args.shape (sym c.in_ok-field_refusal.ensures) in
    (omega (arith, w.header), (λ t. omega (arith, w.body, w.five t), λ t. omega (arith, w.body, w.two t)))

pub returns : goal.returns
unfolding field_at
returns c =
    rw (lt-ltb _ _ c.if-at-file.false, eq-eqb _ 0 (sym c.in_ok-field_refusal.ensures), c.from.ensures, c.shape_behind-behind.ensures, c.length_at-bytes.ensures.0)
