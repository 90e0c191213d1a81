use Rattle.std.proofs.Common.{rules, ◌≡◌, max, nat_abs, ◌-ℤ◌, sym, ◌∙◌, SFits, w16, w32}
use Rattle.std.proofs.lemmas.Int.{to_z-of_z}
use Rattle.algebra.specs.Lists.{at}
use Rattle.forward_and_back.specs.Trip.{apart}
use Rattle.forward_and_back.proofs.Numbers.{max_is, greatest-none, greatest-next}
use Rattle.forward_and_back.proofs.largest_difference.Goals as goal

pub loop-k-init : goal.loop-k-init
loop-k-init c = sym (greatest-none (apart c.args.given.now c.args.back.now))

pub loop-k-preserved : goal.loop-k-preserved
loop-k-preserved c =
    let given = c.args.given.now in
    let back = c.args.back.now in
    let k = c.loop-k.k in
    let f : SFits w16 (at given k) = search rules in
    let g : SFits w32 (at back k) = search rules in
    let made : c.difference.result ≡ apart given back k = c.difference.ensures ∙ (λ i. nat_abs (to_z-of_z w16 (at given k) f i -ℤ to_z-of_z w32 (at back k) g i)) in
    c.max-most.ensures ∙ max_is c.loop-k.most c.difference.result ∙ (λ i. max (c.loop-k.invariant i) (made i)) ∙ sym (greatest-next k (apart given back))
