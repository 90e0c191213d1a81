-- `inputs::periodic_input` meets its contract: the stretches before k are added. Assumes nothing.
use native.Mathlib.Omega.{arith}
use mathlib.Core.Path.{◌≡◌, refl, sym, ap, ◌∙◌, subst}
use Prim.Native.Nat.{ℕ, ◌+◌, ◌*◌, ◌-◌, ◌/◌, ◌≤◌}
use lib.IntN.{ℤ, nat_abs, ◌+ℤ◌}
use mir.Syntax.{w32}
use mir.Val.{to_z, of_z}
use Rattle.algebra.proofs.Order.{abs-add}
use Rattle.meaning.specs.Weights.{signed}
use Rattle.shared_steps.specs.Folds.{half, is_odd, folded, stretches}
use Rattle.shared_steps.specs.Lines.{reading}
use Rattle.shared_steps.proofs.Reading.{Reads, reads, reads-sign, reads-sum, safe, is-small, stretch-next, stretch-last, read_back}
use Rattle.shared_steps.proofs.inputs.periodic_input.Statement.{statement}
use Rattle.shared_steps.proofs.inputs.periodic_input.Tie as tie

abbrev invariant-loop : tie.invariant-loop-k
invariant-loop x n q back g sum₀ k₀ sum k =
    (k ≤ n / q) × ((sum ≡ of_z w32 (folded (reading back n x) (stretches q g k))) × (nat_abs (folded (reading back n x) (stretches q g k)) ≤ k * 65536))

abbrev decreases-loop : tie.decreases-loop-k
decreases-loop x n q back g sum₀ k₀ sum k = n / q - k

abbrev X : tie.Start invariant-loop decreases-loop → ℕ → ℤ
X c = reading c.args.back c.args.n c.args.x.now

loop-holds : tie.Need-loop-k-init invariant-loop decreases-loop
loop-holds c = (omega arith, (refl, omega arith))

div-loop : tie.Need-nonzero_div-n invariant-loop decreases-loop
div-loop c = omega (arith, c.before.requires.1.1.some)

-- the stretch lies within the line, and two of its places
inside : (c : tie.In-loop-k invariant-loop decreases-loop) → let s = c.before.before in c.before.loop-k.k * s.args.q + s.args.q ≤ s.args.n
inside c = c.before.before.requires.1.1.each c.before.loop-k.k c.loop-k-test.true

room : (c : tie.Start invariant-loop decreases-loop) → c.args.g + c.args.g + 3 ≤ c.args.q
room c = omega (arith, c.requires.1.0, c.requires.1.1.odd)

mul-taken : tie.Need-overflow_mul-k invariant-loop decreases-loop
mul-taken c = omega (arith, inside c, c.before.before.requires.1.1.few)

add-taken : tie.Need-overflow_add-k invariant-loop decreases-loop
add-taken c = omega (arith, inside c, room c.before.before, c.before.before.requires.1.1.few)

taken-requires : tie.Need-taken-first-requires invariant-loop decreases-loop
taken-requires c κs = (c.before.before.requires.0, omega (arith, inside c, room c.before.before))

mul-taken-2 : tie.Need-overflow_mul-k-in-loop-k invariant-loop decreases-loop
mul-taken-2 c = omega (arith, inside c.before, c.before.before.before.requires.1.1.few)

add-taken-2 : tie.Need-overflow_add-k-in-loop-k invariant-loop decreases-loop
add-taken-2 c = omega (arith, inside c.before, c.before.before.before.requires.1.1.few)

sub-taken : tie.Need-overflow_sub-k invariant-loop decreases-loop
sub-taken c = omega (arith, room c.before.before.before)

sub-taken-2 : tie.Need-overflow_sub-k-in-loop-k invariant-loop decreases-loop
sub-taken-2 c = omega (arith, room c.before.before.before)

taken-requires-2 : tie.Need-taken-second-requires invariant-loop decreases-loop
taken-requires-2 c κs = (c.before.before.before.requires.0, omega (arith, inside c.before, room c.before.before.before))

first : (c : tie.After-taken-first invariant-loop decreases-loop) → let s = c.before.before.before in
    Reads c.taken-first.result (X s (c.before.before.loop-k.k * s.args.q + s.args.g)) 32768
first c = reads 32768 c.taken-first.ensures.0 c.taken-first.ensures.1 (omega arith)

second : (c : tie.After-taken-second invariant-loop decreases-loop) → let s = c.before.before.before.before in
    Reads c.taken-second.result (X s (c.before.before.before.loop-k.k * s.args.q + s.args.q - 2 - s.args.g)) 32768
second c = reads 32768 c.taken-second.ensures.0 c.taken-second.ensures.1 (omega arith)

two-inputs-requires : tie.Need-two_inputs-requires invariant-loop decreases-loop
two-inputs-requires c κs = (is-small (first c.before), is-small (second c))

two : (c : tie.After-two_inputs invariant-loop decreases-loop) → let s = c.before.before.before.before.before in let o = c.before.before.before.before.loop-k.k * s.args.q in
    Reads c.two_inputs.result (X s (o + s.args.g) +ℤ X s (o + s.args.q - 2 - s.args.g)) 65536
two c = reads-sum (first c.before.before) (second c.before) c.two_inputs.ensures (omega arith)

sign-requires : tie.Need-sign-requires invariant-loop decreases-loop
sign-requires c κs = safe (two c) (omega arith)

changed : (c : tie.After-sign invariant-loop decreases-loop) → let s = c.before.before.before.before.before.before in let k = c.before.before.before.before.before.loop-k.k in let o = k * s.args.q in
    Reads c.sign.result (signed (is_odd k) (X s (o + s.args.g) +ℤ X s (o + s.args.q - 2 - s.args.g))) 65536
changed c = reads-sign (two c.before) (is_odd c.before.before.before.before.before.loop-k.k) c.sign.ensures (omega arith)

-- the sum so far
abbrev so : tie.Start invariant-loop decreases-loop → ℕ → ℤ
so c k = folded (X c) (stretches c.args.q c.args.g k)

small : (c : tie.Start invariant-loop decreases-loop) (k : ℕ) → k ≤ c.args.n / c.args.q → nat_abs (so c k) ≤ k * 65536 → nat_abs (so c k) ≤ 393216
small c k l h = omega (arith, c.requires.1.1.number)

sofar : (c : tie.At-loop-k invariant-loop decreases-loop) → (to_z w32 c.loop-k.sum-bits ≡ so c.before c.loop-k.k) × (nat_abs (so c.before c.loop-k.k) ≤ 393216)
sofar c =
    let b = small c.before c.loop-k.k c.loop-k.invariant.0 c.loop-k.invariant.1.1 in
    (ap (to_z w32) c.loop-k.invariant.1.0 ∙ read_back (so c.before c.loop-k.k) 393216 b (omega arith), b)

sum-safe : (c : tie.At-loop-k invariant-loop decreases-loop) → nat_abs (to_z w32 c.loop-k.sum-bits) ≤ 1000000000
sum-safe c = omega (arith, ap nat_abs (sofar c).0, (sofar c).1)

plus-requires : tie.Need-plus-sum-requires invariant-loop decreases-loop
plus-requires c κs = (sum-safe c.before.before.before.before.before, safe (changed c) (omega arith))

add-k : tie.Need-overflow_add-k-in-loop-k-2 invariant-loop decreases-loop
add-k c = omega (arith, c.before.before.before.before.before.loop-k-test.true, c.before.before.before.before.before.before.before.requires.1.1.number)

loop-less : tie.Need-loop-k-smaller invariant-loop decreases-loop
loop-less c = omega (arith, c.before.before.before.before.before.loop-k-test.true)

loop-again : tie.Need-loop-k-preserved invariant-loop decreases-loop
loop-again c =
    let L = c.before.before.before.before.before in
    let s = L.before.before in
    let k = L.before.loop-k.k in
    let v = changed c.before in
    let e = stretch-next (X s) s.args.q s.args.g k in (
      omega (arith, L.loop-k-test.true),
      (
        ap (of_z w32) (c.plus-sum.ensures ∙ (λ t. (sofar L.before).0 t +ℤ v.is t) ∙ sym e),
        subst (λ (z : ℤ). nat_abs z ≤ (k + 1) * 65536) (sym e) (omega (arith, abs-add (so s k) (signed (is_odd k) (X s (k * s.args.q + s.args.g) +ℤ X s (k * s.args.q + s.args.q - 2 - s.args.g))), L.before.loop-k.invariant.1.1, v.size)),
      ),
    )

-- all whole stretches are done
ended : (c : tie.After-loop-k invariant-loop decreases-loop) → c.before.loop-k.k ≡ c.before.before.args.n / c.before.before.args.q
ended c = omega (arith, c.before.loop-k.invariant.0, c.loop-k-test.false)

half-left : (c : tie.After-loop-k invariant-loop decreases-loop) → let s = c.before.before in c.before.loop-k.k * s.args.q + half s.args.q ≡ s.args.n
half-left c = let s = c.before.before in ap (λ (j : ℕ). j * s.args.q + half s.args.q) (ended c) ∙ s.requires.1.1.last

mul-taken-3 : tie.Need-overflow_mul-k-2 invariant-loop decreases-loop
mul-taken-3 c = omega (arith, half-left c, c.before.before.requires.1.1.few)

add-taken-3 : tie.Need-overflow_add-k-2 invariant-loop decreases-loop
add-taken-3 c = omega (arith, half-left c, c.before.before.requires.1.0, c.before.before.requires.1.1.few)

taken-requires-3 : tie.Need-taken-requires invariant-loop decreases-loop
taken-requires-3 c κs = (c.before.before.requires.0, omega (arith, half-left c, c.before.before.requires.1.0))

third : (c : tie.After-taken invariant-loop decreases-loop) → let s = c.before.before.before in
    Reads c.taken.result (X s (c.before.before.loop-k.k * s.args.q + s.args.g)) 32768
third c = reads 32768 c.taken.ensures.0 c.taken.ensures.1 (omega arith)

sign-requires-2 : tie.Need-sign-requires-2 invariant-loop decreases-loop
sign-requires-2 c κs = safe (third c) (omega arith)

last : (c : tie.After-sign-2 invariant-loop decreases-loop) → let s = c.before.before.before.before in let k = c.before.before.before.loop-k.k in
    Reads c.sign-2.result (signed (is_odd k) (X s (k * s.args.q + s.args.g))) 32768
last c = reads-sign (third c.before) (is_odd c.before.before.before.loop-k.k) c.sign-2.ensures (omega arith)

plus-requires-2 : tie.Need-plus-requires invariant-loop decreases-loop
plus-requires-2 c κs = (sum-safe c.before.before.before, safe (last c) (omega arith))

returns : tie.Need-returns invariant-loop decreases-loop
returns c =
    let E = c.before.before.before in
    let s = E.before.before in
    let k = E.before.loop-k.k in
    let v = last c.before in
    let z = signed (is_odd k) (X s (k * s.args.q + s.args.g)) in
    let e : c.plus.result ≡ so s k +ℤ z = c.plus.ensures ∙ (λ t. (sofar E.before).0 t +ℤ v.is t) in
    let r = reads 425984 e (omega (arith, ap nat_abs e, abs-add (so s k) z, (sofar E.before).1, v.size)) (omega arith) in (
      r.is ∙ ap (λ (j : ℕ). so s j +ℤ signed (is_odd j) (X s (j * s.args.q + s.args.g))) (ended E) ∙ sym (stretch-last (X s) s.args.n s.args.q s.args.g),
      is-small r,
    )

pub periodic_input_spec : {M : Type 1} → statement M
periodic_input_spec =
    tie.close
    (tie.spec
    invariant-loop
    decreases-loop
    loop-holds
    div-loop
    mul-taken
    add-taken
    taken-requires
    mul-taken-2
    add-taken-2
    sub-taken
    sub-taken-2
    taken-requires-2
    two-inputs-requires
    sign-requires
    plus-requires
    add-k
    loop-less
    loop-again
    mul-taken-3
    add-taken-3
    taken-requires-3
    sign-requires-2
    plus-requires-2
    returns)
