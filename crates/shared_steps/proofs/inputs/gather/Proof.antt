-- `inputs::gather` meets its contract: the numbers before g are there. Assumes nothing.
use borrow.Author.Rules.{rules}
use native.Mathlib.Omega.{arith}
use mathlib.Core.Path.{◌≡◌, sym, ◌∙◌, subst}
use Prim.Native.Nat.{ℕ, ◌-◌, ◌≤◌}
use Rattle.shared_steps.specs.Lines.{reading}
use Rattle.shared_steps.specs.Steps.{Gathered}
use Rattle.shared_steps.proofs.Reading.{reads, is-small}
use Rattle.shared_steps.proofs.Gathering.{gather-next}
use Rattle.shared_steps.proofs.inputs.gather.Statement.{statement}
use Rattle.shared_steps.proofs.inputs.gather.Tie as tie

abbrev invariant-loop : tie.invariant-loop-g
invariant-loop x n p q class back from to t₀ g₀ t g = (g ≤ to) × Gathered n p q class (reading back n x) g t

abbrev decreases-loop : tie.decreases-loop-g
decreases-loop x n p q class back from to t₀ g₀ t g = to - g

loop-holds : tie.Need-loop-g-init invariant-loop decreases-loop
loop-holds c = (c.requires.1.0.0, c.requires.1.1)

folded-input-requires : tie.Need-folded_input-requires invariant-loop decreases-loop
folded-input-requires c κs =
    let p = c.before.before.requires in
    (p.0, (omega (arith, c.loop-g-test.true, p.1.0.1), p.1.1.size))

mul-t13 : tie.Need-offset_bounds-t-g invariant-loop decreases-loop
mul-t13 c = search rules

slice-set-from-t : tie.Need-bounds-t-g invariant-loop decreases-loop
slice-set-from-t c = omega (arith, c.before.loop-g-test.true, c.before.before.before.requires.1.0.1, c.before.before.loop-g.invariant.1.long)

add-g : tie.Need-overflow_add-g invariant-loop decreases-loop
add-g c = search rules

loop-less : tie.Need-loop-g-smaller invariant-loop decreases-loop
loop-less c = omega (arith, c.before.loop-g-test.true)

loop-again : tie.Need-loop-g-preserved invariant-loop decreases-loop
loop-again c =
    let L = c.before in
    let r = reads 425984 c.folded_input.ensures.0 c.folded_input.ensures.1 (omega arith) in (
      omega (arith, L.loop-g-test.true),
      gather-next _ L.before.loop-g.invariant.1 (omega (arith, L.loop-g-test.true, L.before.before.requires.1.0.1)) r.is (is-small r),
    )

same_length : tie.Need-shape_of-t invariant-loop decreases-loop
same_length c = c.before.loop-g.invariant.1.long ∙ sym c.before.before.requires.1.1.long

returns : tie.Need-returns invariant-loop decreases-loop
returns c =
    let s = c.before.before.args in
    let L = c.before.loop-g in
    let e : L.g ≡ s.to = omega (arith, L.invariant.0, c.loop-g-test.false) in
    subst (λ (k : ℕ). Gathered s.n s.p s.q s.class (reading s.back s.n s.x.now) k L.t) e L.invariant.1

pub gather_spec : {M : Type 1} → statement M
gather_spec =
    tie.close
    (tie.spec
    invariant-loop
    decreases-loop
    loop-holds
    folded-input-requires
    mul-t13
    slice-set-from-t
    add-g
    loop-less
    loop-again
    same_length
    returns)
