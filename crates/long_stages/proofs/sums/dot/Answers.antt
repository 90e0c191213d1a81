-- `dot` meets its contract: the first 2 * k products are summed. Assumes nothing.
use borrow.Author.Rules.{rules}
use native.Mathlib.Omega.{arith}
use mathlib.Core.Path.{◌≡◌, sym, ap, ◌∙◌, subst}
use Prim.Native.Nat.{ℕ, ◌+◌, ◌*◌, ◌≤◌, ◌<◌}
use lib.ListN.{length}
use lib.IntN.{ℤ, nat_abs, ◌+ℤ◌, ◌*ℤ◌}
use mir.Syntax.{w16, w32, w64}
use mir.Val.{to_z, of_z}
use mir.ValLaws.{to_z-of_z}
use Rattle.algebra.specs.Sum.{sum}
use Rattle.algebra.specs.Lists.{at}
use Rattle.long_stages.specs.Sums.{dotted}
use Rattle.product.proofs.Summing.{sum-none-yet, even_place, odd_place}
use Rattle.long_stages.proofs.Summing.{term, two-more, odd-input}
use Rattle.long_stages.proofs.sums.dot.Goals as goal
use Rattle.long_stages.proofs.sums.dot.Goals.{In-loop-k, After-mac-even, After-mac-sum}

there : (c : In-loop-k) → c.args.p + 2 * c.loop-k.k * c.args.gap + c.args.gap < length c.args.v.now
there c = omega (arith, c.requires.there c.loop-k.k c.loop-k-test.true, odd-input c.args.p c.args.gap c.loop-k.k)

pub loop-k-init : goal.loop-k-init
loop-k-init c = (sum-none-yet (term c.args.t.now c.args.o c.args.apart c.args.v.now c.args.p c.args.gap), omega arith)

pub overflow_add-b : goal.overflow_add-b
overflow_add-b c = omega (arith, there (goal.at.overflow_add-b c).In-loop-k)

pub offset_bounds-v-b : goal.offset_bounds-v-b
offset_bounds-v-b c = omega (arith, there (goal.at.offset_bounds-v-b c).In-loop-k)

pub bounds-v-b : goal.bounds-v-b
bounds-v-b c = omega (arith, there (goal.at.bounds-v-b c).In-loop-k)

pub overflow_add-b-in-loop-k : goal.overflow_add-b-in-loop-k
overflow_add-b-in-loop-k c = omega (arith, there (goal.at.overflow_add-b-in-loop-k c).In-loop-k)

pub offset_bounds-v-b-in-loop-k : goal.offset_bounds-v-b-in-loop-k
offset_bounds-v-b-in-loop-k c = omega (arith, there (goal.at.offset_bounds-v-b-in-loop-k c).In-loop-k)

pub bounds-v-b-in-loop-k : goal.bounds-v-b-in-loop-k
bounds-v-b-in-loop-k c = there (goal.at.bounds-v-b-in-loop-k c).In-loop-k

-- the sum with the even product
even_is : (c : After-mac-even) → to_z w64 (of_z w64 c.mac-even.result) ≡ c.mac-even.result
even_is c = to_z-of_z w64 c.mac-even.result (search rules)

even-small : (c : After-mac-even) → nat_abs (to_z w64 (of_z w64 c.mac-even.result)) ≤ nat_abs (to_z w64 c.loop-k.sum-bits) + 70368744177664
even-small c = subst (λ (z : ℤ). nat_abs z ≤ nat_abs (to_z w64 c.loop-k.sum-bits) + 70368744177664) (sym (even_is c)) c.mac-even.ensures.1

pub mac-sum-requires : goal.mac-sum-requires
mac-sum-requires c = omega (arith, even-small (goal.at.mac-sum-requires c).After-mac-even, c.loop-k.invariant.1, c.requires.few)

pub loop-k-preserved : goal.loop-k-preserved
loop-k-preserved c =
    let M = (goal.at.loop-k-preserved c).After-mac-even in
    let S = (goal.at.loop-k-preserved c).After-mac-sum in
    let s = c.args in
    let k = c.loop-k.k in
    let f = term s.t.now s.o s.apart s.v.now s.p s.gap in
    let w₀ = to_z-of_z w16 (at s.t.now (s.o + k * s.apart)) (record { sfits = S.mac-arg-1.given }) ∙ ap (at s.t.now) (sym (even_place s.apart k s.o)) in
    let v₀ = to_z-of_z w32 (at s.v.now (s.p + 2 * k * s.gap)) (record { sfits = S.mac-arg-in-loop-k-1.given }) in
    let w₁ = to_z-of_z w16 (at s.t.now (s.o + k * s.apart + 1)) (record { sfits = S.mac-arg-in-loop-k-2-1.given }) ∙ ap (at s.t.now) (sym (odd_place s.apart k s.o)) in
    let v₁ = to_z-of_z w32 (at s.v.now (s.p + 2 * k * s.gap + s.gap)) (record { sfits = S.mac-arg-in-loop-k-3-1.given }) ∙ ap (at s.v.now) (odd-input s.p s.gap k) in
    let e = even_is M ∙ M.mac-even.ensures.0 ∙ (λ i. c.loop-k.invariant.0 i +ℤ w₀ i *ℤ v₀ i) in
    let r = to_z-of_z w64 c.mac-sum.result (search rules) in (
      r ∙ c.mac-sum.ensures.0 ∙ (λ i. e i +ℤ w₁ i *ℤ v₁ i) ∙ two-more k f,
      subst (λ (z : ℤ). nat_abs z ≤ (k + 1) * 140737488355328) (sym r) (omega (arith, c.mac-sum.ensures.1, even-small M, c.loop-k.invariant.1)),
    )

pub returns : goal.returns
unfolding dotted
returns c =
    let s = c.args in
    let e : c.loop-k.k ≡ s.pairs = omega arith in
    (c.loop-k.invariant.0 ∙ ap (λ (k : ℕ). sum (2 * k) (term s.t.now s.o s.apart s.v.now s.p s.gap)) e, omega (arith, c.loop-k.invariant.1, c.requires.few))
