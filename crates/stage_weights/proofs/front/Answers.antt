-- `front` meets its contract: the numbers before k are copied. Assumes nothing.
use Rattle.std.proofs.Common.{arith, ◌≡◌, sym, ap, ◌∙◌}
use native.Mathlib.Nat.{zero-add}
use mir.Syntax.{w16}
use mir.ValLaws.{to_z-of_z}
use Rattle.algebra.specs.Lists.{at}
use Rattle.algebra.proofs.Lists.{fill_none, fill-first}
use Rattle.stage_weights.proofs.front.Goals as goal

pub loop-k-preserved : goal.loop-k-preserved
loop-k-preserved c = fill-first _ (omega (arith, c.requires, c.loop-k-test.true)) c.loop-k.invariant (to_z-of_z w16 (at c.args.t.now c.loop-k.k) (record { sfits = c.u-1.given }))

pub returns : goal.returns
returns c =
    record {
      long = c.loop-k.invariant.long;
      same = λ k h g. ap (at c.loop-k.u) (sym (zero-add k)) ∙ c.loop-k.invariant.done k (omega (arith, c.requires, c.loop-k-test.false));
    }
