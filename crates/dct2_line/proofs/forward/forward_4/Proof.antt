-- `forward::forward_4` meets its contract: two sums, two differences, and the law of halves for each output. Assumes nothing.
use borrow.Author.Rules.{rules}
use native.Mathlib.Omega.{arith}
use mathlib.Core.Path.{◌≡◌, sym, ◌∙◌, subst}
use mathlib.Core.List.{List}
use Prim.Native.Nat.{ℕ, ◌≤◌, ◌<◌}
use lib.ListN.{length, set}
use lib.IntN.{ℤ, pos, negsuc, nat_abs, ◌+ℤ◌, ◌-ℤ◌, ◌*ℤ◌}
use mir.Syntax.{w32}
use mir.Val.{to_z, of_z}
use mir.ValLaws.{to_z-of_z}
use Rattle.algebra.specs.Lists.{at}
use Rattle.algebra.proofs.Word.{small}
use Rattle.algebra.proofs.Lists.{Filled, fill_none, fill-first, filled}
use Rattle.meaning.specs.Line.{forward_sum}
use Rattle.dct2_line.proofs.Four.{sums_first, sums-second, differences-first, differences-second}
use Rattle.dct2_line.proofs.ForwardStep.{less, less9, add_low, sub_low}
use Rattle.dct2_line.proofs.forward.forward_4.Statement.{statement}
use Rattle.dct2_line.proofs.forward.forward_4.Tie as tie

-- the inputs as they are read
module _ (S : tie.Start) where
  abbrev x : ℕ → ℤ
  x = at S.args.x.now

  low : (i : ℕ) → nat_abs (x i) ≤ 1000000000
  low i = less9 4 (nat_abs (x i)) (omega arith) (S.requires.0.low i)

  reads : (i : ℕ) → to_z w32 (of_z w32 (x i)) ≡ x i
  reads i = to_z-of_z w32 (x i) (small {B = 1000000000} (omega arith) (low i))

  added : (i j : ℕ) → (nat_abs (to_z w32 (of_z w32 (x i))) ≤ 1000000000) × (nat_abs (to_z w32 (of_z w32 (x j))) ≤ 1000000000)
  added i j = (subst (λ (z : ℤ). nat_abs z ≤ 1000000000) (sym (reads i)) (low i), subst (λ (z : ℤ). nat_abs z ≤ 1000000000) (sym (reads j)) (low j))

  here : (i : ℕ) → i < 4 → i < length S.args.x.now
  here i l = omega (arith, S.requires.0.long)

  room : (i : ℕ) → i < 4 → i < length S.args.out.now
  room i l = omega (arith, S.requires.1)

shared-slice-copy-out-plus : tie.Need-bounds-x-0
shared-slice-copy-out-plus c = here c 0 (omega arith)

shared-slice-copy-out-plus-2 : tie.Need-bounds-x-3
shared-slice-copy-out-plus-2 c = here c.before 3 (omega arith)

plus-requires : tie.Need-plus-s-requires
plus-requires c κs = added c.before.before 0 3

shared-slice-copy-out-plus-3 : tie.Need-bounds-x-1
shared-slice-copy-out-plus-3 c = here c.before.before.before 1 (omega arith)

shared-slice-copy-out-plus-4 : tie.Need-bounds-x-2
shared-slice-copy-out-plus-4 c = here c.before.before.before.before 2 (omega arith)

plus-requires-2 : tie.Need-plus-t-requires
plus-requires-2 c κs = added c.before.before.before.before.before 1 2

shared-slice-copy-out-minus : tie.Need-bounds-x-0-2
shared-slice-copy-out-minus c = here c.before.before.before.before.before.before 0 (omega arith)

shared-slice-copy-out-minus-2 : tie.Need-bounds-x-3-2
shared-slice-copy-out-minus-2 c = here c.before.before.before.before.before.before.before 3 (omega arith)

minus-requires : tie.Need-minus-c-requires
minus-requires c κs = added c.before.before.before.before.before.before.before.before 0 3

shared-slice-copy-out-minus-3 : tie.Need-bounds-x-1-2
shared-slice-copy-out-minus-3 c = here c.before.before.before.before.before.before.before.before.before 1 (omega arith)

shared-slice-copy-out-minus-4 : tie.Need-bounds-x-2-2
shared-slice-copy-out-minus-4 c = here c.before.before.before.before.before.before.before.before.before.before 2 (omega arith)

minus-requires-2 : tie.Need-minus-d-requires
minus-requires-2 c κs = added c.before.before.before.before.before.before.before.before.before.before.before 1 2

-- the sums and the differences as they are worked
module _ (c : tie.After-minus-d) where
  abbrev start : tie.Start
  start = c.before.before.before.before.before.before.before.before.before.before.before.before

  abbrev v : ℕ → ℤ
  v = x start

  outer : to_z w32 (of_z w32 c.before.before.before.before.before.before.before.before.before.plus-s.result) ≡ v 0 +ℤ v 3
  outer = to_z-of_z w32 _ (search rules) ∙ c.before.before.before.before.before.before.before.before.before.plus-s.ensures ∙ (λ t. reads start 0 t +ℤ reads start 3 t)

  inner : to_z w32 (of_z w32 c.before.before.before.before.before.before.plus-t.result) ≡ v 1 +ℤ v 2
  inner = to_z-of_z w32 _ (search rules) ∙ c.before.before.before.before.before.before.plus-t.ensures ∙ (λ t. reads start 1 t +ℤ reads start 2 t)

  outer-less : to_z w32 (of_z w32 c.before.before.before.minus-c.result) ≡ v 0 -ℤ v 3
  outer-less = to_z-of_z w32 _ (search rules) ∙ c.before.before.before.minus-c.ensures ∙ (λ t. reads start 0 t -ℤ reads start 3 t)

  inner-less : to_z w32 (of_z w32 c.minus-d.result) ≡ v 1 -ℤ v 2
  inner-less = to_z-of_z w32 _ (search rules) ∙ c.minus-d.ensures ∙ (λ t. reads start 1 t -ℤ reads start 2 t)

  sum-size : {z : ℤ} (i j : ℕ) → z ≡ v i +ℤ v j → nat_abs z ≤ 1048576
  sum-size i j e = subst (λ (z : ℤ). nat_abs z ≤ 1048576) (sym e) (less 2 _ 1048576 (omega arith) (add_low 2 (v i) (v j) (start.requires.0.low i) (start.requires.0.low j)))

  difference-size : {z : ℤ} (i j : ℕ) → z ≡ v i -ℤ v j → nat_abs z ≤ 1048576
  difference-size i j e = subst (λ (z : ℤ). nat_abs z ≤ 1048576) (sym e) (less 2 _ 1048576 (omega arith) (sub_low 2 (v i) (v j) (start.requires.0.low i) (start.requires.0.low j)))

  sums-small : (nat_abs (to_z w32 (of_z w32 c.before.before.before.before.before.before.before.before.before.plus-s.result)) ≤ 1048576) × (nat_abs (to_z w32 (of_z w32 c.before.before.before.before.before.before.plus-t.result)) ≤ 1048576)
  sums-small = (sum-size 0 3 outer, sum-size 1 2 inner)

  differences-small : (nat_abs (to_z w32 (of_z w32 c.before.before.before.minus-c.result)) ≤ 1048576) × (nat_abs (to_z w32 (of_z w32 c.minus-d.result)) ≤ 1048576)
  differences-small = (difference-size 0 3 outer-less, difference-size 1 2 inner-less)

both-requires : tie.Need-both-requires
both-requires c κs = let p = sums-small c in ((omega arith, p.0), (omega arith, p.1))

slice-set-from-out : tie.Need-bounds-out-0
slice-set-from-out c = room (start c.before) 0 (omega arith)

both-requires-2 : tie.Need-both-requires-2
both-requires-2 c κs = let p = differences-small c.before in ((omega arith, p.0), (omega arith, p.1))

-- the outputs one by one
module _ (c : tie.After-both) where
  abbrev after_one : List ℤ
  after_one = set (start c.before).args.out.now 0 (to_z w32 (of_z w32 c.both.result))

  one : Filled 0 1 after_one (start c.before).args.out.now (forward_sum 0 4 (x (start c.before)))
  one =
      let M = c.before in
      fill-first (to_z w32 (of_z w32 c.both.result)) (room (start M) 0 (omega arith)) (fill_none 0 (start M).args.out.now _)
      (to_z-of_z w32 c.both.result (search rules) ∙ c.both.ensures ∙ (λ t. pos 64 *ℤ outer M t +ℤ pos 64 *ℤ inner M t) ∙ sums_first (v M))

slice-set-from-out-2 : tie.Need-bounds-out-1
slice-set-from-out-2 c = omega (arith, room (start c.before.before) 1 (omega arith), (one c.before).long)

both-requires-3 : tie.Need-both-requires-3
both-requires-3 c κs = let p = sums-small c.before.before in ((omega arith, p.0), (omega arith, p.1))

module _ (c : tie.After-both-2) where
  abbrev after_two : List ℤ
  after_two = set (after_one c.before) 1 (to_z w32 (of_z w32 c.both-2.result))

  two : Filled 0 2 after_two (start c.before.before).args.out.now (forward_sum 0 4 (x (start c.before.before)))
  two =
      let M = c.before.before in
      fill-first (to_z w32 (of_z w32 c.both-2.result)) (room (start M) 1 (omega arith)) (one c.before)
      (to_z-of_z w32 c.both-2.result (search rules) ∙ c.both-2.ensures ∙ (λ t. pos 83 *ℤ outer-less M t +ℤ pos 36 *ℤ inner-less M t) ∙ differences-first (v M))

slice-set-from-out-3 : tie.Need-bounds-out-2
slice-set-from-out-3 c = omega (arith, room (start c.before.before.before) 2 (omega arith), (two c.before).long)

both-requires-4 : tie.Need-both-requires-4
both-requires-4 c κs = let p = differences-small c.before.before.before in ((omega arith, p.0), (omega arith, p.1))

module _ (c : tie.After-both-3) where
  abbrev after-three : List ℤ
  after-three = set (after_two c.before) 2 (to_z w32 (of_z w32 c.both-3.result))

  three : Filled 0 3 after-three (start c.before.before.before).args.out.now (forward_sum 0 4 (x (start c.before.before.before)))
  three =
      let M = c.before.before.before in
      fill-first (to_z w32 (of_z w32 c.both-3.result)) (room (start M) 2 (omega arith)) (two c.before)
      (to_z-of_z w32 c.both-3.result (search rules) ∙ c.both-3.ensures ∙ (λ t. pos 64 *ℤ outer M t +ℤ negsuc 63 *ℤ inner M t) ∙ sums-second (v M))

slice-set-from-out-4 : tie.Need-bounds-out-3
slice-set-from-out-4 c = omega (arith, room (start c.before.before.before.before) 3 (omega arith), (three c.before).long)

module _ (c : tie.After-both-4) where
  abbrev after-four : List ℤ
  after-four = set (after-three c.before) 3 (to_z w32 (of_z w32 c.both-4.result))

  four : Filled 0 4 after-four (start c.before.before.before.before).args.out.now (forward_sum 0 4 (x (start c.before.before.before.before)))
  four =
      let M = c.before.before.before.before in
      fill-first (to_z w32 (of_z w32 c.both-4.result)) (room (start M) 3 (omega arith)) (three c.before)
      (to_z-of_z w32 c.both-4.result (search rules) ∙ c.both-4.ensures ∙ (λ t. pos 36 *ℤ outer-less M t +ℤ negsuc 82 *ℤ inner-less M t) ∙ differences-second (v M))

same_length : tie.Need-shape_of-out
same_length c = (four c).long

returns : tie.Need-returns
returns c = filled (start c.before.before.before.before).requires.1 (four c)

pub forward_4_spec : {M : Type 1} → statement M
forward_4_spec =
    tie.close
    (tie.spec
    shared-slice-copy-out-plus
    shared-slice-copy-out-plus-2
    plus-requires
    shared-slice-copy-out-plus-3
    shared-slice-copy-out-plus-4
    plus-requires-2
    shared-slice-copy-out-minus
    shared-slice-copy-out-minus-2
    minus-requires
    shared-slice-copy-out-minus-3
    shared-slice-copy-out-minus-4
    minus-requires-2
    both-requires
    slice-set-from-out
    both-requires-2
    slice-set-from-out-2
    both-requires-3
    slice-set-from-out-3
    both-requires-4
    slice-set-from-out-4
    same_length
    returns)
