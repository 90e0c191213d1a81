-- `forward::forward` meets its contract. Assumes nothing.
use borrow.Author.Rules.{rules}
use mathlib.Core.Path.{sym, ◌∙◌}
use Rattle.algebra.specs.Lists.{at}
use Rattle.meaning.specs.Line.{forward_line}
use Rattle.shared_steps.proofs.TwoKinds.{kind-back, thirty_two}
use Rattle.shared_line.proofs.forward.forward.Statement.{statement}
use Rattle.shared_line.proofs.forward.forward.Tie as tie

forward-4-requires : tie.Need-forward_4-requires
forward-4-requires c κs = let e = c.before.if-n-eq4.true in (c.before.before.requires.inputs ∙ e, c.before.before.requires.outputs ∙ e)

forward-16-requires : tie.Need-forward_16-requires
forward-16-requires c κs = let e = c.before.if-n-eq16.true in (c.before.before.before.requires.inputs ∙ e, c.before.before.before.requires.outputs ∙ e)

forward-32-requires : tie.Need-forward_32-requires
forward-32-requires c κs = let e = thirty_two c.before.before.before.args.n c.before.before.before.requires.size c.before.before.if-n-eq4.false c.before.if-n-eq16.false in (c.before.before.before.requires.inputs ∙ e, c.before.before.before.requires.outputs ∙ e)

same_length : tie.Need-shape_of-y-then-n-eq4
same_length c = search rules

returns : tie.Need-returns-then-n-eq4
returns c =
    let s = c.before.before.before.before.args in
    let e = c.before.before.before.if-n-eq4.true in
    c.before.forward_4.ensures ∙ (λ t. forward_line (kind-back s.kind c.before.before.before.before.requires.known t) (sym e t) (at s.x.now))

same-length-2 : tie.Need-shape_of-y-then-n-eq16
same-length-2 c = search rules

returns-2 : tie.Need-returns-then-n-eq16
returns-2 c =
    let s = c.before.before.before.before.before.args in
    let e = c.before.before.before.if-n-eq16.true in
    c.before.forward_16.ensures ∙ (λ t. forward_line (kind-back s.kind c.before.before.before.before.before.requires.known t) (sym e t) (at s.x.now))

same-length-3 : tie.Need-shape_of-y-else-n-eq16
same-length-3 c = search rules

returns-3 : tie.Need-returns-else-n-eq16
returns-3 c =
    let s = c.before.before.before.before.before.args in
    let e = thirty_two c.before.before.before.before.before.args.n c.before.before.before.before.before.requires.size c.before.before.before.before.if-n-eq4.false c.before.before.before.if-n-eq16.false in
    c.before.forward_32.ensures ∙ (λ t. forward_line (kind-back s.kind c.before.before.before.before.before.requires.known t) (sym e t) (at s.x.now))

pub forward_spec : {M : Type 1} → statement M
forward_spec =
    tie.close
    (tie.spec
    forward-4-requires
    forward-16-requires
    forward-32-requires
    same_length
    returns
    same-length-2
    returns-2
    same-length-3
    returns-3)
