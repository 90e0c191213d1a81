-- `spread::spread` meets its contract. Assumes nothing.
use Rattle.std.proofs.Common.{arith, ◌∙◌, ◌<◌}
use Rattle.algebra.specs.Lists.{at}
use Rattle.shared_steps.specs.Folds.{folded, leading, periodic}
use Rattle.shared_steps.proofs.Reading.{Reads, reads, reads-sum}
use Rattle.shared_steps.proofs.Gathering.{front-next, joined_at}
use Rattle.shared_steps.proofs.spread.spread.Goals as goal

pub loop-k-preserved : goal.loop-k-preserved
loop-k-preserved c =
    let s = c.args in
    let k = c.loop-k.k in
    let first : Reads c.leading.result (folded (at s.a.now) (leading s.p s.q k)) 377487360 = reads 377487360 c.leading.ensures.0 c.leading.ensures.1 (omega arith) in
    let second : Reads c.periodic.result (folded (at s.c.now) (periodic s.q k)) 94371840 = reads 94371840 c.periodic.ensures.0 c.periodic.ensures.1 (omega arith) in
    let third : Reads c.periodic-in-loop-k.result (folded (at s.d.now) (periodic s.p k)) 94371840 = reads 94371840 c.periodic-in-loop-k.ensures.0 c.periodic-in-loop-k.ensures.1 (omega arith) in
    let others = reads-sum second third c.plus-others.ensures (omega arith) in
    let r = reads-sum first others c.plus.ensures (omega arith) in
    let h : k < s.n = omega (arith, c.loop-k-test.true, c.requires.0.1) in
    front-next _ _ c.loop-k.invariant h c.place.ensures (r.is ∙ joined_at s.p s.q s.a.now s.c.now s.d.now k)
