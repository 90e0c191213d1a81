-- `work` meets its contract: long numbers, a fill, the blocks of document 01, or the stages by pairs. Assumes nothing.
use borrow.Author.Rules.{rules}
use native.Mathlib.Omega.{arith}
use mathlib.Core.Path.{◌≡◌, sym, ap, ◌∙◌, subst}
use Prim.Native.Nat.{ℕ, ◌≤◌, ◌<◌}
use native.Mathlib.Nat.{mul_comm, lt_of_lt_of_le}
use lib.IntN.{ℤ, nat_abs}
use lib.ListN.{length}
use mir.Syntax.{w32}
use mir.Val.{to_z, of_z}
use mir.ValLaws.{to_z-of_z}
use Rattle.algebra.specs.Lists.{at, tabulate}
use Rattle.algebra.proofs.Lists.{place_in}
use Rattle.meaning.specs.Answer.{Outcome, accepted}
use Rattle.dct2_block.specs.Alone.{flat_of}
use Rattle.transform_block.specs.TransformBlock.{transformed}
use Rattle.transform_block.specs.Given.{Flat}
use Rattle.transform_block.proofs.Taken.{deep, columns-read, rows-read, last-two, last-short}
use Rattle.transform_block.proofs.ShortBlock.{two}
use Rattle.transform_block.proofs.PairedBlock.{two-stages}
use Rattle.transform_block.proofs.FlatBlock.{small, flat-done}
use Rattle.transform_block.proofs.work.work.Statement.{statement}
use Rattle.transform_block.proofs.work.work.Tie as tie

one-stage-requires : tie.Need-one_stage-requires
one-stage-requires c κs = search rules

-- ---- one stage
side-requires : tie.Need-side-requires
side-requires c κs = let I = c.before in (I.before.before.requires, sym I.before.one_stage.ensures ∙ I.if-one_stage.true)

same_length : tie.Need-shape_of-numbers-then-one_stage
same_length c = search rules

returns : tie.Need-returns-then-one_stage
returns c = c.before.side.ensures

is-flat-requires : tie.Need-is_flat-requires
is-flat-requires c κs = search rules

-- ---- a fill
is_one : (c : tie.Then-is_flat) → Flat c.before.before.before.before.args.block
is_one c = c.before.is_flat.ensures c.if-is_flat.true

slice-copy-out-first : tie.Need-slice_copy_out-first
slice-copy-out-first c =
    let s = c.before.before.before.before in
    let b = s.args.block in
    let n = s.args.numbers.now in
    let t = s.requires.taken in
    omega (arith, t.long, mul_comm b.width b.height, place_in {x = 0} {y = 0} {w = b.width} {h = b.height} (omega (arith, (columns-read b n t).some, (columns-read b n t).within)) (omega (arith, (rows-read b n t).some, (rows-read b n t).within)))

last-requires : tie.Need-last-requires
last-requires c κs = let s = c.before.before.before.before.before in (deep s.args.block s.args.numbers.now s.requires.taken).1

value : (c : tie.After-first-1) → let n = c.before.before.before.before.before.args.numbers.now in to_z w32 (of_z w32 (at n 0)) ≡ at n 0
value c = to_z-of_z w32 (at c.before.before.before.before.before.args.numbers.now 0) (record { sfits = c.first-1.given })

flat-requires : tie.Need-flat-requires
flat-requires c κs =
    let A = c.before in
    let K = A.before in
    let I = K.before in
    let s = I.before.before.before.before in
    let b = s.args.block in
    let n = s.args.numbers.now in
    let l = last-two b n s.requires.taken (is_one I).two in (
      subst (λ (z : ℤ). nat_abs z ≤ 32768) (sym (value K)) (small b n s.requires (is_one I)),
      (omega (arith, A.last.ensures, l), omega (arith, A.last.ensures, last-short b n s.requires.taken (is_one I).two)),
    )

same-length-2 : tie.Need-shape_of-numbers-then-is_flat
same-length-2 c = search rules

returns-2 : tie.Need-returns-then-is_flat
returns-2 c =
    let A = c.before.before.before in
    let K = A.before in
    let I = K.before in
    let s = I.before.before.before.before in
    let b = s.args.block in
    let n = s.args.numbers.now in
    flat-done b n s.requires (is_one I) (c.before.flat.ensures ∙ (λ i. tabulate (length n) (λ _. flat_of (A.last.ensures i) (value K i))))

-- ---- document 01's call
is-short-requires : tie.Need-is_short-requires
is-short-requires c κs = search rules

short-requires : tie.Need-short-requires
short-requires c κs = let I = c.before in (I.before.before.before.before.before.before.requires, sym I.before.is_short.ensures ∙ I.if-is_short.true)

same-length-3 : tie.Need-shape_of-numbers-then-is_short
same-length-3 c = search rules

returns-3 : tie.Need-returns-then-is_short
returns-3 c =
    let I = c.before.before.before in
    let s = I.before.before.before.before.before.before in
    let e = c.before.short.ensures in
    (λ i. (accepted (e.0 i), e.1 i)) ∙ rw (two s.args.block (sym I.before.is_short.ensures ∙ I.if-is_short.true))

-- ---- the stages by pairs
is-paired-requires : tie.Need-is_paired-requires
is-paired-requires c κs = search rules

paired-requires : tie.Need-paired-requires
paired-requires c κs = let I = c.before in (I.before.before.before.before.before.before.before.before.requires, sym I.before.is_paired.ensures ∙ I.if-is_paired.true)

same-length-4 : tie.Need-shape_of-numbers-then-is_paired
same-length-4 c = search rules

returns-4 : tie.Need-returns-then-is_paired
returns-4 c =
    let I = c.before.before.before in
    let s = I.before.before.before.before.before.before.before.before in
    let e = c.before.paired.ensures in
    (λ i. (accepted (e.0 i), e.1 i)) ∙ rw (two-stages s.args.block (sym I.before.is_paired.ensures ∙ I.if-is_paired.true))

-- ---- every other block
long-requires : tie.Need-long-requires
long-requires c κs = c.before.before.before.before.before.before.before.before.before.requires

same-length-5 : tie.Need-shape_of-numbers
same-length-5 c = search rules

returns-5 : tie.Need-returns
returns-5 c = c.before.long.ensures

pub work_spec : {M : Type 1} → statement M
work_spec =
    tie.close
    (tie.spec
    one-stage-requires
    side-requires
    same_length
    returns
    is-flat-requires
    slice-copy-out-first
    last-requires
    flat-requires
    same-length-2
    returns-2
    is-short-requires
    short-requires
    same-length-3
    returns-3
    is-paired-requires
    paired-requires
    same-length-4
    returns-4
    long-requires
    same-length-5
    returns-5)
