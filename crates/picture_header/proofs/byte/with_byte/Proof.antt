-- `with_byte` meets its contract. Assumes nothing.
use mathlib.Core.Path.{sym, ap, ◌∙◌}
use mathlib.Core.Bool.{Bool, cond}
use Rattle.picture_header.specs.Header.{ends_line, white, plain, with_byte}
use borrow.Author.Rules.{rules}
use Rattle.picture_header.proofs.byte.with_byte.Statement.{statement}
use Rattle.picture_header.proofs.byte.with_byte.Tie as tie

ends-line-requires : tie.Need-ends_line-requires
ends-line-requires c κs = search rules

white-requires : tie.Need-white-requires
white-requires c κs = search rules

returns : tie.Need-returns-then-ends_line
unfolding with_byte
returns c = rw (c.before.before.before.if-header.true, sym c.before.before.ends_line.ensures ∙ c.before.if-ends_line.true) c.white.ensures

returns-2 : tie.Need-returns-then-header
unfolding with_byte
returns-2 c = rw (c.before.before.if-header.true, sym c.before.ends_line.ensures ∙ c.if-ends_line.false)

plain-requires : tie.Need-plain-requires
plain-requires c κs = search rules

returns-3 : tie.Need-returns
unfolding with_byte
returns-3 c =
    let s = c.before.before.args.header in
    let k = c.before.before.args.b in
    c.plain.ensures ∙ sym (ap (λ (t : Bool). cond t (cond (ends_line k) (white s) s) (plain s k)) c.before.if-header.false)

pub with_byte_spec : {M : Type 1} → statement M
with_byte_spec =
    tie.close
    (tie.spec ends-line-requires white-requires returns returns-2 plain-requires returns-3)
