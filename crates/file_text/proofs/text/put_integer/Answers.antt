-- A space, the sign and the size. Assumes nothing.
use Rattle.std.proofs.Common.{[], ◌∷◌, ap, arith, rules}
use Rattle.algebra.proofs.Signs.{negative, plain}
use Rattle.file_text.specs.Text.{decimal, sign}
use Rattle.file_text.proofs.Spaced.{spaced-signed}
use Rattle.file_text.proofs.Writing.{and_then, retext, within}
use Rattle.file_text.proofs.text.put_integer.Goals as goal

pub returns-then-z-lt0 : goal.returns-then-z-lt0
returns-then-z-lt0 c =
    let n = negative c.args.z c.ranges.z c.if-z-lt0.true in
    retext (spaced-signed c.args.z (45 ∷ []) (ap sign n.shape))
    (and_then c.put-space.ensures (and_then c.put-minus.ensures (retext (ap decimal (search rules)) c.put_decimal.ensures)))

pub returns : goal.returns
returns c =
    let p = plain c.args.z c.ranges.z c.if-z-lt0.false in
    within (retext (spaced-signed c.args.z [] (ap sign p.shape))
    (and_then c.put-space.ensures (retext (ap decimal (search rules)) c.put_decimal-2.ensures))) (omega arith)
