-- `short_values` meets its contract: the inputs in order, and the matrix that is as wide as asked for. Assumes nothing.
use native.Mathlib.Omega.{arith}
use mathlib.Core.Path.{refl}
use Rattle.lfnst.proofs.Summing.{by-inputs, inputs-given, ranged-short}
use Rattle.lfnst.proofs.sums.short_values.Statement.{statement}
use Rattle.lfnst.proofs.sums.short_values.Tie as tie

short-in-order-requires : tie.Need-short_in_order-requires
short-in-order-requires c κs = let r = c.before.requires.1.1.0 in (r.long, (refl, λ k h. ranged-short r k h (omega arith)))

times-requires : tie.Need-times-requires
times-requires c κs =
    let I = c.before.before.before in
    let p = I.before.before.requires in
    (p.0, inputs-given 48 _ _ _ _ p.1.0 I.short_in_order.ensures p.1.1.1)

times-requires-2 : tie.Need-times-requires-else-wide
times-requires-2 c κs =
    let I = c.before.before.before in
    let p = I.before.before.requires in
    (p.0, inputs-given 16 _ _ _ _ p.1.0 I.short_in_order.ensures (omega (arith, p.1.1.1)))

same_length : tie.Need-shape_of-v-then-wide
same_length c = c.before.times.ensures.long

returns : tie.Need-returns-then-wide
returns c =
    let L = c.before in
    let T = L.before.before.before in
    let I = T.before in
    let s = I.before.before in
    rw T.if-wide.true (by-inputs 48 s.args.matrix s.args.pairs 15 s.args.corner.now _ s.requires.1.0 I.short_in_order.ensures L.times.ensures)

same-length-2 : tie.Need-shape_of-v-else-wide
same-length-2 c = c.before.times-else-wide.ensures.long

returns-2 : tie.Need-returns-else-wide
returns-2 c =
    let L = c.before in
    let T = L.before.before.before in
    let I = T.before in
    let s = I.before.before in
    rw T.if-wide.false (by-inputs 16 s.args.matrix s.args.pairs 15 s.args.corner.now _ s.requires.1.0 I.short_in_order.ensures L.times-else-wide.ensures)

pub short_values_spec : {M : Type 1} → statement M
short_values_spec =
    tie.close
    (tie.spec short-in-order-requires times-requires times-requires-2 same_length returns same-length-2 returns-2)
