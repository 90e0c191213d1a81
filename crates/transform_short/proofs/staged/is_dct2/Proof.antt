-- `is_dct2` meets its contract. Assumes nothing.
use native.Mathlib.Omega.{arith}
use borrow.Author.Tests.{eqb-true}
use mathlib.Core.Path.{◌≡◌}
use mathlib.Core.Bool.{false≢true}
use Rattle.transform_short.proofs.staged.is_dct2.Statement.{statement}
use Rattle.transform_short.proofs.staged.is_dct2.Tie as tie

returns : tie.Need-returns-then-shape-ne0
returns c e = absurd (false≢true e)

returns-2 : tie.Need-returns
returns-2 c e =
    let k : c.before.before.before.args.shape.horizontal ≡ 0 = omega (arith, c.before.if-shape-ne0.false) in
    (k, eqb-true _ _ e)

pub is_dct2_spec : {M : Type 1} → statement M
is_dct2_spec = tie.close (tie.spec returns returns-2)
