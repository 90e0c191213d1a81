use Rattle.std.proofs.Common.{rules, arith, get_or, pos, w32, to_z-of_z}
use Rattle.file_text.proofs.Writing.{nothing}
use Rattle.picture_samples.specs.Samples.{samples}
use Rattle.picture_samples.proofs.Samples.{beyond-at, wrote-more}
use Rattle.picture_samples.proofs.put.put_samples.Goals as goal

pub loop-z-init : goal.loop-z-init
unfolding samples
loop-z-init c = nothing 0 c.args.at c.args.file.now

pub put_sample-p-requires : goal.put_sample-p-requires
put_sample-p-requires c =
    let zs = c.args.residuals.now in
    let k = c.loop-z.z-index in
    (rw (to_z-of_z {w = w32} {z = get_or zs k (pos 0)} (search rules)) (beyond-at zs k c.requires.0 (omega arith)), search rules)

pub loop-z-preserved : goal.loop-z-preserved
loop-z-preserved c =
    let zs = c.args.residuals.now in
    let k = c.loop-z.z-index in
    wrote-more zs k (omega arith) (to_z-of_z {w = w32} {z = get_or zs k (pos 0)} (search rules)) c.loop-z.invariant c.put_sample-p.ensures
