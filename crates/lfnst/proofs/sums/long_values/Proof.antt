-- `long_values` meets its contract: the inputs in order, and the matrix that is as wide as asked for. Assumes nothing.
use native.Mathlib.Omega.{arith}
use mathlib.Core.Path.{refl, sym, subst}
use Rattle.lfnst.specs.Work.{Ranged}
use Rattle.lfnst.proofs.Reading.{ranged-inputs}
use Rattle.lfnst.proofs.Summing.{by-inputs}
use Rattle.lfnst.proofs.sums.long_values.Statement.{statement}
use Rattle.lfnst.proofs.sums.long_values.Tie as tie

in-order-requires : tie.Need-in_order-requires
in-order-requires c κs = (c.before.requires.1.1.1.0.long, refl)

-- what is in order is in the range too
ranged : (c : tie.After-in_order) → Ranged c.before.before.args.reach c.in_order.new.u
ranged c = let s = c.before.before in subst (Ranged s.args.reach) (sym c.in_order.ensures) (ranged-inputs s.requires.1.1.1.0)

long-48-requires : tie.Need-long_48-requires
long-48-requires c κs =
    let I = c.before.before.before in
    let p = I.before.before.requires in
    (p.0, (p.1.0, (p.1.1.0, (ranged I, p.1.1.1.1))))

long-16-requires : tie.Need-long_16-requires
long-16-requires c κs =
    let I = c.before.before.before in
    let p = I.before.before.requires in
    (p.0, (p.1.0, (p.1.1.0, (ranged I, omega (arith, p.1.1.1.1)))))

same_length : tie.Need-shape_of-v-then-wide
same_length c = c.before.long_48.ensures.long

returns : tie.Need-returns-then-wide
returns c =
    let L = c.before in
    let T = L.before.before.before in
    let I = T.before in
    let s = I.before.before in
    rw T.if-wide.true (by-inputs 48 s.args.matrix s.args.pairs s.args.reach s.args.corner.now _ s.requires.1.0 I.in_order.ensures L.long_48.ensures)

same-length-2 : tie.Need-shape_of-v-else-wide
same-length-2 c = c.before.long_16.ensures.long

returns-2 : tie.Need-returns-else-wide
returns-2 c =
    let L = c.before in
    let T = L.before.before.before in
    let I = T.before in
    let s = I.before.before in
    rw T.if-wide.false (by-inputs 16 s.args.matrix s.args.pairs s.args.reach s.args.corner.now _ s.requires.1.0 I.in_order.ensures L.long_16.ensures)

pub long_values_spec : {M : Type 1} → statement M
long_values_spec =
    tie.close
    (tie.spec in-order-requires long-48-requires long-16-requires same_length returns same-length-2 returns-2)
