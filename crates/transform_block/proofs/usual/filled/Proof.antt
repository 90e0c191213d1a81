-- `filled` meets its contract. Assumes nothing.
use borrow.Author.Rules.{rules}
use native.Mathlib.Omega.{arith}
use native.Mathlib.Nat.{mul_comm}
use mathlib.Core.Path.{◌≡◌, refl, sym, ap, ◌∙◌, subst}
use mathlib.Core.Bool.{false, true≢false}
use Prim.Native.Nat.{ℕ, ◌-◌, ◌≤◌, ◌<◌}
use lib.IntN.{ℤ, nat_abs}
use lib.ListN.{length}
use mir.Syntax.{w32}
use mir.Val.{to_z, of_z}
use mir.ValLaws.{to_z-of_z}
use Rattle.algebra.specs.Lists.{at, tabulate}
use Rattle.algebra.proofs.Lists.{place_in}
use Rattle.meaning.specs.Plan.{range_of}
use Rattle.meaning.specs.Long.{beyond}
use Rattle.meaning.proofs.Cases.{size-some, depth-cases}
use Rattle.dct2_block.specs.Alone.{flat_of}
use Rattle.transform_block.proofs.FlatBlock.{small}
use Rattle.transform_block.proofs.UsualBlock.{is-flat, one-given, one-done}
use Rattle.transform_block.proofs.usual.filled.Statement.{statement}
use Rattle.transform_block.proofs.usual.filled.Tie as tie

slice-copy-out-first : tie.Need-slice_copy_out-first
slice-copy-out-first c =
    let b = c.args.block in
    let u = c.requires.0 in
    omega (arith, u.long, mul_comm b.width b.height, place_in {x = 0} {y = 0} {w = b.width} {h = b.height} (omega (arith, size-some b.width u.width)) (omega (arith, size-some b.height u.height)))

value : (c : tie.After-first-1) → let n = c.before.args.numbers.now in to_z w32 (of_z w32 (at n 0)) ≡ at n 0
value c = to_z-of_z w32 (at c.before.args.numbers.now 0) (record { sfits = c.first-1.given })

is-beyond-requires : tie.Need-is_beyond-requires
is-beyond-requires c κs = omega arith

returns : tie.Need-returns-then-is_beyond
returns c = record { left = λ _. refl; done = λ e. absurd (true≢false (sym e)) }

-- the number is in the range
inside : (c : tie.Else-is_beyond) → beyond (range_of 15) (at c.before.before.before.args.numbers.now 0) ≡ false
inside c = sym (ap (beyond (range_of 15)) (value c.before.before)) ∙ sym c.before.is_beyond.ensures ∙ c.if-is_beyond.false

deep : (s : tie.Start) → (8 ≤ s.args.block.depth) × (s.args.block.depth ≤ 12)
deep s = depth-cases s.args.block.depth s.requires.0.depth

sub-flat : tie.Need-overflow_sub-block
sub-flat c = omega (arith, deep c.before.before.before.before)

flat-requires : tie.Need-flat-requires
flat-requires c κs =
    let E = c.before.before in
    let s = E.before.before.before in
    let b = s.args.block in
    let n = s.args.numbers.now in
    let d = deep s in (
      subst (λ (z : ℤ). nat_abs z ≤ 32768) (sym (value E.before.before)) (small b n (one-given b n s.requires.0 s.requires.1 (inside E)) (is-flat b n s.requires.0 s.requires.1)),
      (omega (arith, d), omega (arith, d)),
    )

same_length : tie.Need-shape_of-numbers
same_length c = search rules

returns-2 : tie.Need-returns
returns-2 c =
    let E = c.before.before.before.before in
    let s = E.before.before.before in
    let b = s.args.block in
    let n = s.args.numbers.now in
    record {
      left = λ e. absurd (true≢false e);
      done = λ _. one-done b n s.requires.0 s.requires.1 (inside E) (c.before.flat.ensures ∙ ap (λ (z : ℤ). tabulate (length n) (λ _. flat_of (20 - b.depth) z)) (value E.before.before));
    }

pub filled_spec : {M : Type 1} → statement M
filled_spec = tie.close (tie.spec slice-copy-out-first is-beyond-requires returns sub-flat flat-requires same_length returns-2)
