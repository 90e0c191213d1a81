-- `widen` meets its contract: the numbers before k are written, and each was one of 16 bits. Assumes nothing.
use borrow.Author.Count.{below_more}
use native.Mathlib.Omega.{arith}
use mathlib.Core.Path.{refl, sym, ◌∙◌}
use lib.Dec.{lit<}
use lib.ListN.{length}
use mir.Syntax.{w16, w32}
use mir.Val.{SFits}
use Rattle.algebra.specs.Lists.{at}
use Rattle.algebra.proofs.Word.{arg, cast_v}
use Rattle.algebra.proofs.Lists.{fill_none, fill-first, filled-to, tabulated}
use Rattle.long_stages.proofs.wide.widen.Goals as goal
use Rattle.long_stages.proofs.wide.widen.Goals.{After-out-1}

-- one number
short : (c : After-out-1) → SFits w16 (at c.args.c.now c.loop-k.k)
short c = record { sfits = c.out-1.given }

pub loop-k-init : goal.loop-k-init
loop-k-init c = (fill_none 0 _ _, λ i h. absurd (omega arith))

pub loop-k-preserved : goal.loop-k-preserved
loop-k-preserved c =
    let I = (goal.at.loop-k-preserved c).After-out-1 in (
      fill-first _ (omega (arith, c.requires)) c.loop-k.invariant.0 (cast_v (arg (short I)) {w' = w32} (lit< tt)).val,
      below_more (λ i. SFits w16 (at c.args.c.now i)) c.loop-k.k c.loop-k.invariant.1 (short I),
    )

pub returns : goal.returns
returns c =
    let l = c.args.c.now in
    (filled-to (sym c.requires) (omega arith) (omega arith) c.loop-k.invariant.0 ∙ sym (tabulated (length l) l (at l) refl (λ k h. refl)), λ k h. c.loop-k.invariant.1 k (omega arith))
