-- `column_product` meets its contract. Assumes nothing.
use Rattle.std.proofs.Common.{rules, arith, ◌≡◌, ◌≤◌, ℤ, ◌+ℤ◌, ◌*ℤ◌, nat_abs, to_z, of_z, refl, sym, ap, subst, ◌∙◌}
use mir.Syntax.{w32}
use mir.ValLaws.{to_z-of_z}
use Rattle.algebra.specs.Sum.{sum}
use Rattle.meaning.specs.Weights.{weight}
use Rattle.meaning.proofs.Sizes.{weight_size, even-places}
use Rattle.round_trip.specs.RoundTrip.{G}
use Rattle.round_trip.proofs.Bounds.{Place, place, products, products-in, products-next, weight-there}
use Rattle.round_trip.proofs.column_product.Goals as goal
use Rattle.round_trip.proofs.column_product.Goals.{Start, After-weight, After-weight-in-loop-i}

here : (c : Start) → Place c.args.kind c.args.n c.args.j c.args.k
here c = place c.args.kind c.args.n c.args.j c.args.k c.requires

-- the two weights of row i
first-weight : (c : After-weight) → to_z w32 (of_z w32 c.weight.result) ≡ weight c.args.kind c.args.n c.loop-i.i c.args.j
first-weight c =
    let s = c.args in
    let p = place s.kind s.n s.j s.k c.requires in
    to_z-of_z w32 c.weight.result (search rules) ∙ c.weight.ensures ∙ weight-there s.kind s.n p.known p.size c.loop-i.i s.j c.loop-i-test.true p.row

second-weight : (c : After-weight-in-loop-i) → to_z w32 (of_z w32 c.weight-in-loop-i.result) ≡ weight c.args.kind c.args.n c.loop-i.i c.args.k
second-weight c =
    let s = c.args in
    let p = place s.kind s.n s.j s.k c.requires in
    to_z-of_z w32 c.weight-in-loop-i.result (search rules) ∙ c.weight-in-loop-i.ensures ∙ weight-there s.kind s.n p.known p.size c.loop-i.i s.k c.loop-i-test.true p.column

pub loop-i-init : goal.loop-i-init
unfolding sum
loop-i-init c = refl

pub mac-sum-requires : goal.mac-sum-requires
mac-sum-requires c =
    let s = c.args in
    let p = here (goal.at.mac-sum-requires c).Start in
    let light = weight_size s.kind s.n (even-places s.n p.size) c.loop-i.i in (
      subst (λ (z : ℤ). nat_abs z ≤ 259200) (sym c.loop-i.invariant) (omega (arith, p.few, c.loop-i-test.true, products-in s.kind s.n s.j s.k p.size c.loop-i.i)),
      (
        subst (λ (z : ℤ). nat_abs z ≤ 90) (sym (first-weight (goal.at.mac-sum-requires c).After-weight)) (light s.j),
        subst (λ (z : ℤ). nat_abs z ≤ 90) (sym (second-weight (goal.at.mac-sum-requires c).After-weight-in-loop-i)) (light s.k),
      ),
    )

pub loop-i-preserved : goal.loop-i-preserved
loop-i-preserved c =
    let s = c.args in
    let v = first-weight (goal.at.loop-i-preserved c).After-weight in
    let w = second-weight (goal.at.loop-i-preserved c).After-weight-in-loop-i in
    to_z-of_z w32 c.mac-sum.result (search rules) ∙ c.mac-sum.ensures ∙ (λ t. c.loop-i.invariant t +ℤ v t *ℤ w t)
    ∙ sym (products-next s.kind s.n s.j s.k c.loop-i.i)

pub returns : goal.returns
unfolding G
returns c =
    let s = c.args in
    c.loop-i.invariant ∙ ap (products s.kind s.n s.j s.k) (omega (arith, c.loop-i.auto.i-end, c.loop-i-test.false))
