use Rattle.std.proofs.Common.{rules, arith, ◌≡◌, ◌≤◌, ◌+◌, ◌*◌, nat_abs, ◌-ℤ◌, sym, ◌∙◌, SFits, w16, w32}
use Rattle.std.proofs.lemmas.Int.{to_z-of_z}
use Rattle.algebra.specs.Lists.{at}
use native.Mathlib.Nat.{mul-le-mul}
use Rattle.algebra.proofs.Order.{in-fits}
use Rattle.algebra.proofs.Sum.{sumℕ-next}
use Rattle.forward_and_back.specs.Trip.{apart}
use Rattle.forward_and_back.proofs.Numbers.{sum-none, apart_in}
use Rattle.forward_and_back.proofs.squared_differences.Goals as goal

pub loop-k-init : goal.loop-k-init
loop-k-init c = let s = c.args in (sym (sum-none (λ k. apart s.given.now s.back.now k * apart s.given.now s.back.now k)), omega arith)

pub loop-k-preserved : goal.loop-k-preserved
loop-k-preserved c =
    let given = c.args.given.now in
    let back = c.args.back.now in
    let k = c.loop-k.k in
    let f : SFits w16 (at given k) = search rules in
    let g : SFits w32 (at back k) = search rules in
    let made : c.difference-size.result ≡ apart given back k = c.difference-size.ensures ∙ (λ i. nat_abs (to_z-of_z w16 (at given k) f i -ℤ to_z-of_z w32 (at back k) g i)) in
    let small : c.difference-size.result ≤ 294912 = omega (arith, made, apart_in (at given k) (at back k) {A = 32768} (in-fits f).within (c.requires.2 k)) in
    let square : c.difference-size.result * c.difference-size.result ≤ 294912 * 294912 = mul-le-mul small small in
    ((λ i. c.loop-k.invariant.0 i + made i * made i) ∙ sym (sumℕ-next k (λ k. apart given back k * apart given back k)), omega (arith, square, c.loop-k.invariant.1))
