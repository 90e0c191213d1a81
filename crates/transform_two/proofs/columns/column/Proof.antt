-- `column` meets its contract: the numbers before y are dealt. Assumes nothing.
use borrow.Author.Rules.{rules}
use native.Mathlib.Omega.{arith}
use native.Mathlib.Nat.{le_refl}
use mathlib.Core.Path.{◌≡◌, refl, sym, subst}
use Prim.Native.Nat.{ℕ, ◌+◌, ◌*◌, ◌-◌, ◌≤◌, ◌<◌}
use lib.IntN.{ℤ, nat_abs}
use lib.ListN.{length}
use mir.Syntax.{w16, w32}
use mir.Val.{SFits, to_z, of_z}
use mir.ValLaws.{to_z-of_z}
use Rattle.algebra.specs.Lists.{at}
use Rattle.algebra.proofs.Word.{Is, cast_v! }
use Rattle.kernel_steps.specs.Written.{WroteFrom}
use Rattle.kernel_steps.proofs.Writing.{wrote_none, wrote_at, wrote-to}
use Rattle.transform_two.proofs.columns.column.Statement.{statement}
use Rattle.transform_two.proofs.columns.column.Tie as tie

abbrev invariant-loop : tie.invariant-loop-y
invariant-loop c x rows o s₀ y₀ s y = (y ≤ rows) × WroteFrom o y s s₀ (λ y. at c (2 * y + x))

abbrev decreases-loop : tie.decreases-loop-y
decreases-loop c x rows o s₀ y₀ s y = rows - y

here : (c : tie.In-loop-y invariant-loop decreases-loop) → let s = c.before.before.args in 2 * c.before.loop-y.y + s.x < length s.c.now
here c = c.before.before.requires.there c.before.loop-y.y c.loop-y-test.true

room : (c : tie.In-loop-y invariant-loop decreases-loop) → let s = c.before.before.args in s.o + c.before.loop-y.y < length s.s.now
room c = let p = c.before.before.requires in omega (arith, p.room, p.near, p.low, c.loop-y-test.true)

loop-holds : tie.Need-loop-y-init invariant-loop decreases-loop
loop-holds c = (omega arith, wrote_none _ _ _)

mul-s : tie.Need-overflow_mul-s invariant-loop decreases-loop
mul-s c = omega (arith, here c)

add-s : tie.Need-overflow_add-s invariant-loop decreases-loop
add-s c = omega (arith, here c)

mul-s-2 : tie.Need-offset_bounds-c-y invariant-loop decreases-loop
mul-s-2 c = omega (arith, here c)

shared-slice-copy-out-s : tie.Need-bounds-c-y invariant-loop decreases-loop
shared-slice-copy-out-s c = here c

abbrev number : tie.After-s-1 invariant-loop decreases-loop → ℤ
number c = let L = c.before.before in at L.before.args.c.now (2 * L.loop-y.y + L.before.args.x)

-- the number read, which fits 16 bits
value : (c : tie.After-s-1 invariant-loop decreases-loop) → to_z w32 (of_z w32 (number c)) ≡ number c
value c = to_z-of_z w32 (number c) (record { sfits = c.s-1.given })

fits : (c : tie.After-s-1 invariant-loop decreases-loop) → SFits w16 (number c)
fits c = let L = c.before.before in L.before.requires.fits L.loop-y.y c.before.loop-y-test.true

cast-s : tie.Need-overflow_cast-s invariant-loop decreases-loop
cast-s c = subst (SFits w16) (sym (value c)) (fits c)

add-t14 : tie.Need-overflow_add-o invariant-loop decreases-loop
add-t14 c = let s = c.before.before.before in omega (arith, room c.before, s.requires.room)

mul-t15 : tie.Need-offset_bounds-s-o invariant-loop decreases-loop
mul-t15 c = let s = c.before.before.before in omega (arith, room c.before, s.requires.room)

element-set-from-s : tie.Need-bounds-s-o invariant-loop decreases-loop
element-set-from-s c = let L = c.before.before in omega (arith, room c.before, L.loop-y.invariant.1.long, L.before.requires.room)

add-y : tie.Need-overflow_add-y invariant-loop decreases-loop
add-y c = search rules

loop-less : tie.Need-loop-y-smaller invariant-loop decreases-loop
loop-less c = search rules

loop-again : tie.Need-loop-y-preserved invariant-loop decreases-loop
loop-again c =
    let L = c.before.before in
    let z = number c in
    let word : Is w32 (of_z w32 z) z (nat_abs z) = record { val = value c; abs = le_refl (nat_abs z) } in
    (omega (arith, c.before.loop-y-test.true), wrote_at _ _ _ refl refl (room c.before) L.loop-y.invariant.1 (cast_v! word (fits c)).val)

returns : tie.Need-returns invariant-loop decreases-loop
returns c = wrote-to _ (omega (arith, c.loop-y-test.false, c.before.loop-y.invariant.0)) c.before.loop-y.invariant.1

pub column_spec : {M : Type 1} → statement M
column_spec =
    tie.close
    (tie.spec
    invariant-loop
    decreases-loop
    loop-holds
    mul-s
    add-s
    mul-s-2
    shared-slice-copy-out-s
    cast-s
    add-t14
    mul-t15
    element-set-from-s
    add-y
    loop-less
    loop-again
    returns)
