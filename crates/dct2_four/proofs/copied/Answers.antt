use Rattle.std.proofs.Common.{arith, refl, sym, ap, ◌∙◌, ◌+◌, ◌*◌}
use native.Mathlib.Nat.{zero-add}
use Rattle.algebra.specs.Lists.{at}
use Rattle.algebra.proofs.Lists.{block-ext}
use Rattle.dct2_four.proofs.copied.Goals as goal

pub returns : goal.returns
returns c =
    let e = c.args.e.now in
    let r = c.loop-k.r in
    block-ext 16 1 (λ x y. at e (x + y * 16)) r (c.loop-k.invariant.long ∙ c.requires.1)
    (λ x y h g. ap (at r) (sym (zero-add (x + y * 16))) ∙ c.loop-k.invariant.done (x + y * 16) (omega arith))
    ∙ sym (block-ext 16 1 (λ x y. at e (x + y * 16)) e c.requires.0 (λ x y h g. refl))
