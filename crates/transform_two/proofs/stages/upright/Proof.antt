-- `upright` meets its contract: two lines down the columns, then sums and differences along the rows. Assumes nothing.
use borrow.Author.Rules.{rules}
use native.Mathlib.Omega.{arith}
use mathlib.Core.Path.{◌≡◌, refl, sym, ap, ◌∙◌, subst}
use mathlib.Core.Logic.{⊎_elim}
use mathlib.Core.List.{List, ◌++◌}
use Prim.Native.Nat.{ℕ, ◌+◌, ◌*◌, ◌-◌, ◌≤◌, ◌<◌, min}
use lib.IntN.{ℤ, pos}
use lib.ListN.{length, take, drop, replicate}
use Rattle.algebra.specs.Lists.{at}
use Rattle.algebra.proofs.Lists.{zeros-at, part-long, block-length}
use Rattle.meaning.specs.Inverse.{rails, inverse_block}
use Rattle.meaning.proofs.Cases.{line-in}
use Rattle.kernel_steps.specs.Written.{WroteFrom}
use Rattle.product.proofs.Laid.{half-rounds}
use Rattle.inverse_stage.specs.Given.{Paired}
use Rattle.transform_pairs.specs.Pairs.{short_plan, cleared_block}
use Rattle.transform_two.proofs.Both.{paired, flipped, column-given, stood-one, stood-both, upright-given, lines-sums, lines-rails, behind-long, behind-at, rows-done, block-long}
use Rattle.transform_two.proofs.stages.upright.Statement.{statement}
use Rattle.transform_two.proofs.stages.upright.Tie as tie

step-paired : (s : tie.Start) → Paired s.args.step
step-paired s = subst Paired (sym s.requires.1.1) (paired s.args.vertical s.args.h s.requires.0.pairs.sized.down)

low : (s : tie.Start) → s.args.step ≤ s.args.h
low s = omega (arith, s.requires.1.1)

within : (s : tie.Start) → s.args.rows ≤ s.args.step
within s = omega (arith, s.requires.1.1, s.requires.0.pairs.rows, s.requires.0.pairs.sized.rows)

high : (s : tie.Start) → s.args.h ≤ 64
high s = line-in s.args.vertical s.args.h s.requires.0.pairs.sized.down

column-requires : tie.Need-column-requires
column-requires c κs = let s = c.before in column-given s.args.h s.args.vertical s.args.columns s.args.rows s.args.last s.args.numbers.now s.requires.0 s.args.step (step-paired s) (low s) (within s) 0 s.requires.0.some 0 (omega arith) refl

column-requires-2 : tie.Need-column-requires-then-columns-eq2
column-requires-2 c κs =
    let K = c.before.before in
    let s = K.before in
    column-given s.args.h s.args.vertical s.args.columns s.args.rows s.args.last s.args.numbers.now s.requires.0 s.args.step (step-paired s.before) (low s.before) (within s.before) 1 (omega (arith, c.if-columns-eq2.true)) s.args.step (step-paired s.before).few K.column.ensures.long

abbrev begin : tie.Joined-columns-eq2 → tie.Start
begin c = c.before.before.before

abbrev Stands : (s : tie.Start) → List ℤ → Type 0
Stands s l = (x i : ℕ) → x < 2 → i < s.args.step → at l (s.args.step * x + i) ≡ at (cleared_block (short_plan 2 s.args.h 0 s.args.vertical s.args.columns s.args.rows s.args.last) s.args.numbers.now) (x + i * 2)

-- what stands in the room of both columns
stood : (c : tie.Joined-columns-eq2) → Stands (begin c) c.if-columns-eq2.s
stood c =
    let s = begin c in
    ⊎_elim
    (λ t. stood-both s.args.h s.args.vertical s.args.columns s.args.rows s.args.last s.args.numbers.now s.requires.0 s.args.step (step-paired s) (low s) (within s) (zeros-at 64) c.before.column.ensures t.if-columns-eq2.true (subst (λ (l : List ℤ). WroteFrom s.args.step s.args.rows l _ _) (sym t.s-is) t.column-then-columns-eq2.ensures))
    (λ t. subst (Stands s) (sym t.s-is) (stood-one s.args.h s.args.vertical s.args.columns s.args.rows s.args.last s.args.numbers.now s.requires.0 s.args.step (step-paired s) (low s) (within s) (zeros-at 64) c.before.column.ensures t.if-columns-eq2.false))
    c.if-columns-eq2.branch-raw

stood-long : (c : tie.Joined-columns-eq2) → length c.if-columns-eq2.s ≡ 64
stood-long c =
    ⊎_elim
    (λ t. ap length t.s-is ∙ t.column-then-columns-eq2.ensures.long ∙ c.before.column.ensures.long)
    (λ t. ap length t.s-is ∙ c.before.column.ensures.long)
    c.if-columns-eq2.branch-raw

lines-of-requires : tie.Need-lines_of-requires
lines-of-requires c κs =
    let J = c.before.before in
    let s = begin J in
    upright-given s.args.h s.args.vertical s.args.columns s.args.rows s.args.last s.args.numbers.now s.requires.0 s.args.step (step-paired s) (low s) (within s) J.if-columns-eq2.s s.requires.1.0 s.requires.1.1 (stood-long J) (stood J)

-- the sums that are settled
abbrev joined : tie.After-lines_of → tie.Joined-columns-eq2
joined c = c.before.before.before

are-sums : (c : tie.After-lines_of) → let s = begin (joined c) in c.lines_of.new.out ≡ flipped s.args.h s.args.vertical s.args.columns s.args.rows s.args.last s.args.numbers.now s.requires.0 s.args.step (step-paired s) (low s) (within s)
are-sums c = let J = joined c in let s = begin J in lines-sums s.args.h s.args.vertical s.args.columns s.args.rows s.args.last s.args.numbers.now s.requires.0 s.args.step (step-paired s) (low s) (within s) J.if-columns-eq2.s (λ x i h k. stood J x i h (omega (arith, k, within s))) c.lines_of.ensures

sums-long : (c : tie.After-lines_of) → let s = begin (joined c) in length c.lines_of.new.out ≡ 2 * s.args.h
sums-long c = let s = begin (joined c) in ap length (are-sums c) ∙ block-length s.args.h 2 _

sub-settle : tie.Need-slice_bounds-settle-count
sub-settle c = omega arith

part-z-start : tie.Need-slice_bounds-z-start
part-z-start c = omega arith

part-z-end : tie.Need-slice_bounds-z-end
part-z-end c = let s = c.before.before.before.before.before.before.before in omega (arith, s.requires.0.pairs.long, high s)

numbers-long : (s : tie.Start) → length s.args.numbers.now ≡ 2 * s.args.h
numbers-long s = s.requires.0.pairs.long

settle-requires : tie.Need-settle-rails-requires
settle-requires c κs =
    let L = c.before.before.before in
    let s = begin (joined c.before.before) in
    let k = length s.args.numbers.now in
    (sums-long c.before.before ∙ sym (numbers-long s) ∙ sym (part-long k (replicate 128 (pos 0)) (omega (arith, numbers-long s, high s))), omega (arith, sums-long c.before.before, high s))

half-requires : tie.Need-half-half-requires
half-requires c κs = let s = c.before.before.before.before.before.before.before.before.before.before in (s.requires.0.pairs.some, s.requires.0.pairs.short)

-- the room behind it
abbrev behind : tie.After-settle-rails → tie.After-lines_of
behind c = c.before.before.before

abbrev first : tie.After-settle-rails → tie.Start
first c = begin (joined (behind c))

abbrev size : tie.Start → ℕ
size s = length s.args.numbers.now - 0

size_is : (s : tie.Start) → size s ≡ 2 * s.args.h
size_is s = omega (arith, numbers-long s)

room-long : (c : tie.After-settle-rails) → let s = first c in length (c.settle-rails.new.m ++ drop (size s) (replicate 128 (pos 0))) ≡ 128
room-long c = let s = first c in behind-long s.args.h s.args.vertical s.args.columns s.args.rows s.args.last s.args.numbers.now s.requires.0 s.args.step (step-paired s) (low s) (within s) (replicate 128 (pos 0)) (are-sums (behind c)) c.settle-rails.ensures refl (size s) (size_is s) (high s)

slice-aggregate-rows-of-two : tie.Need-slice_bounds-rows_of_two-end
slice-aggregate-rows-of-two c = sym (room-long c.before.before.before)

rows-of-two-requires : tie.Need-rows_of_two-requires
rows-of-two-requires c κs =
    let S = c.before.before.before.before in
    let s = first S in
    record { there = λ y k. omega (arith, room-long S, high s); low = high s; rounding = half-rounds c.before.before.half-half.ensures; room = omega (arith, sums-long (behind S)) }

returns : tie.Need-returns
returns c =
    let S = c.before.before.before.before.before.before in
    let s = first S in
    let z = replicate 128 (pos 0) in (
      lines-rails s.args.h s.args.vertical s.args.columns s.args.rows s.args.last s.args.numbers.now s.requires.0 s.args.step (step-paired s) (low s) (within s) z (are-sums (behind S)) S.settle-rails.ensures refl (size s) (size_is s),
      rows-done s.args.h s.args.vertical s.args.columns s.args.rows s.args.last s.args.numbers.now s.requires.0 s.args.step (step-paired s) (low s) (within s) (S.settle-rails.new.m ++ drop (size s) z) 1 s.args.h c.before.before.before.before.half-half.ensures
          (behind-at s.args.h s.args.vertical s.args.columns s.args.rows s.args.last s.args.numbers.now s.requires.0 s.args.step (step-paired s) (low s) (within s) z (are-sums (behind S)) S.settle-rails.ensures refl (size s) (size_is s)) c.before.rows_of_two.ensures,
    )

same_length : tie.Need-shape_of-numbers
same_length c = let s = c.before.before.before.before.before.before.before.before.before.before.before.before.before.before.before in block-long 2 s.args.h 0 s.args.vertical s.args.columns s.args.rows s.args.last s.args.numbers.now s.requires.0 (returns c).1

pub upright_spec : {M : Type 1} → statement M
upright_spec =
    tie.close
    (tie.spec
    column-requires
    column-requires-2
    lines-of-requires
    sub-settle
    part-z-start
    part-z-end
    settle-requires
    half-requires
    slice-aggregate-rows-of-two
    rows-of-two-requires
    same_length
    returns)
