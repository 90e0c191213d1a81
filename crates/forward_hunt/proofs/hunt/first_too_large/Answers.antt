use Rattle.std.proofs.Common.{arith, ◌≡◌, ◌-◌, ◌^◌, length, nat_abs, ◌∙◌}
use native.Mathlib.Nat.{zero-add}
use borrow.Author.Tests.{le-ltb}
use Rattle.algebra.specs.Lists.{at}
use Rattle.algebra.proofs.First.{first_past}
use Rattle.meaning.specs.Forward.{too_large, first_too_large}
use Rattle.forward_hunt.proofs.hunt.first_too_large.Goals as goal

pub returns-else-any_too_large : goal.returns-else-any_too_large
returns-else-any_too_large c =
    let sh = c.args.shape in
    let r = c.args.residuals.now in
    let none = c.any_too_large.ensures c.if-any_too_large.false in
    let e : first_too_large sh r ≡ length r = first_past (too_large sh) r 0 (λ i h. le-ltb (2 ^ sh.depth - 1) (nat_abs (at r i)) (none i)) ∙ zero-add (length r) in
    rw (e, le-ltb (length r) (length r) (omega arith))
