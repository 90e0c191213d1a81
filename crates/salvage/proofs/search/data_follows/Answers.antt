use Rattle.std.proofs.Common.{sym, ap, ◌∙◌}
use borrow.Author.Tests.{eq-eqb, ne_eqb}
use Rattle.file_fields.specs.declared.cursor.Advance.{Advance}
use Rattle.file_fields.specs.Field.{is_data}
use Rattle.salvage.proofs.Searching.{follows_so}
use Rattle.salvage.proofs.search.data_follows.Goals as goal

pub returns-then-is_data : goal.returns-then-is_data
returns-then-is_data c =
    let e = sym c.is_data.ensures ∙ c.if-is_data.true in
    follows_so c.args.file.now c.args.cursor _ c.advance-field.ensures (rw e c.if-is_data.true)

pub returns-then-field-eq4 : goal.returns-then-field-eq4
returns-then-field-eq4 c =
    follows_so c.args.file.now c.args.cursor _ c.advance-field.ensures
    (rw (sym c.is_data.ensures ∙ c.if-is_data.false, eq-eqb _ 4 c.if-field-eq4.true) (c.is_data-then-field-eq4.ensures ∙ ap (λ (x : Advance). is_data x.tag) c.advance.ensures))

pub returns-else-field-eq4 : goal.returns-else-field-eq4
returns-else-field-eq4 c =
    follows_so c.args.file.now c.args.cursor _ c.advance-field.ensures (rw (sym c.is_data.ensures ∙ c.if-is_data.false, ne_eqb _ 4 c.if-field-eq4.false))
