-- `plain` meets its contract. Assumes nothing.
use borrow.Author.Tests.{eq-eqb, ne_eqb}
use mathlib.Core.Path.{sym, ◌∙◌}
use Rattle.picture_header.specs.Header.{plain}
use borrow.Author.Rules.{rules}
use Rattle.picture_header.proofs.byte.plain.Statement.{statement}
use Rattle.picture_header.proofs.byte.plain.Tie as tie

commented-requires : tie.Need-commented-requires
commented-requires c κs = search rules

returns : tie.Need-returns-then-b-eq35
unfolding plain
returns c = rw (eq-eqb _ 35 c.before.if-b-eq35.true) c.commented.ensures

is-space-requires : tie.Need-is_space-requires
is-space-requires c κs = search rules

white-requires : tie.Need-white-requires
white-requires c κs = search rules

returns-2 : tie.Need-returns-then-is_space
unfolding plain
returns-2 c = rw (ne_eqb _ 35 c.before.before.before.if-b-eq35.false, sym c.before.before.is_space.ensures ∙ c.before.if-is_space.true) c.white.ensures

is-digit-requires : tie.Need-is_digit-requires
is-digit-requires c κs = search rules

digit-requires : tie.Need-digit-requires
digit-requires c κs = (c.before.before.before.before.before.requires, sym c.before.is_digit.ensures ∙ c.if-is_digit.true)

returns-3 : tie.Need-returns-then-is_digit
unfolding plain
returns-3 c = rw (ne_eqb _ 35 c.before.before.before.before.before.if-b-eq35.false, sym c.before.before.before.before.is_space.ensures ∙ c.before.before.before.if-is_space.false, sym c.before.before.is_digit.ensures ∙ c.before.if-is_digit.true) c.digit.ensures

no-header-requires : tie.Need-no_header-requires
no-header-requires c κs = search rules

returns-4 : tie.Need-returns
unfolding plain
returns-4 c = rw (ne_eqb _ 35 c.before.before.before.before.before.if-b-eq35.false, sym c.before.before.before.before.is_space.ensures ∙ c.before.before.before.if-is_space.false, sym c.before.before.is_digit.ensures ∙ c.before.if-is_digit.false) c.no_header.ensures

pub plain_spec : {M : Type 1} → statement M
plain_spec =
    tie.close
    (tie.spec
    commented-requires
    returns
    is-space-requires
    white-requires
    returns-2
    is-digit-requires
    digit-requires
    returns-3
    no-header-requires
    returns-4)
