-- `middling` meets its contract: the weights of a size, copied. Assumes nothing.
use native.Mathlib.Omega.{arith}
use mathlib.Core.Path.{◌∙◌}
use Rattle.transform_stages.proofs.Lines.{of_size}
use Rattle.transform_stages.proofs.weights.middling.Statement.{statement}
use Rattle.transform_stages.proofs.weights.middling.Tie as tie

put-1024-requires : tie.Need-put_1024-requires
put-1024-requires c κs = (c.before.requires.0, c.before.requires.1.0)

front-requires : tie.Need-front-requires
front-requires c κs = omega (arith, c.before.before.before.put_1024.ensures.0, c.before.before.before.before.before.requires.1.1)

returns : tie.Need-returns
returns c =
    let P = c.before.before.before.before in
    let s = P.before.before in
    (P.put_1024.ensures.0, (c.front.ensures.long ∙ s.requires.1.1, of_size s.args.kind s.args.n s.requires.0 P.put_1024.ensures.1 (omega (arith, s.requires.1.1)) c.front.ensures))

pub middling_spec : {M : Type 1} → statement M
middling_spec = tie.close (tie.spec put-1024-requires front-requires returns)
