-- `digit` meets its contract. Assumes nothing.
use borrow.Author.Tests.{eq-eqb, ne_eqb}
use mathlib.Core.Path.{sym, ◌∙◌}
use Rattle.picture_header.specs.Header.{digit}
use borrow.Author.Rules.{rules}
use Rattle.picture_header.proofs.byte.digit.Statement.{statement}
use Rattle.picture_header.proofs.byte.digit.Tie as tie

part-of-requires : tie.Need-part_of-part-requires
part-of-requires c κs = search rules

no-header-requires : tie.Need-no_header-requires
no-header-requires c κs = search rules

returns : tie.Need-returns-then-part-eq0
unfolding digit
returns c = rw (eq-eqb _ 0 (sym c.before.before.part_of-part.ensures ∙ c.before.if-part-eq0.true)) c.no_header.ensures

with-digit-requires : tie.Need-with_digit-width-requires
with-digit-requires c κs = search rules

with-digit-requires-2 : tie.Need-with_digit-height-requires
with-digit-requires-2 c κs = search rules

with-digit-requires-3 : tie.Need-with_digit-maximum-requires
with-digit-requires-3 c κs = search rules

returns-2 : tie.Need-returns
unfolding digit
returns-2 c =
    let p = c.before.before.before.before.part_of-part.ensures in
    rw (ne_eqb _ 0 (λ e. c.before.before.before.if-part-eq0.false (p ∙ e)), c.before.before.with_digit-width.ensures, c.before.with_digit-height.ensures, c.with_digit-maximum.ensures, p)

pub digit_spec : {M : Type 1} → statement M
digit_spec =
    tie.close
    (tie.spec
    part-of-requires
    no-header-requires
    returns
    with-digit-requires
    with-digit-requires-2
    with-digit-requires-3
    returns-2)
