-- `carried` meets its contract: each sum has its first i products. Assumes nothing.
use borrow.Author.Rules.{rules}
use native.Mathlib.Omega.{arith}
use mathlib.Core.Path.{◌≡◌, refl, sym, ap, ◌∙◌, subst}
use mathlib.Core.List.{List}
use Prim.Native.Nat.{ℕ, ◌+◌, ◌*◌, ◌-◌, ◌/◌, ◌%◌, ◌≤◌, ◌<◌}
use lib.ListN.{length}
use lib.IntN.{ℤ, pos, nat_abs, ◌-ℤ◌, ◌*ℤ◌}
use mir.Syntax.{w16, w64}
use mir.Val.{to_z, of_z}
use mir.ValLaws.{to_z-of_z}
use Rattle.algebra.specs.Sum.{sum}
use Rattle.algebra.specs.Lists.{at}
use Rattle.meaning.specs.Line.{inverse_sum}
use Rattle.meaning.specs.Plan.{Plan, range_of, reach, long_plan}
use Rattle.meaning.specs.Inverse.{column_sum, rounded, middle, middle_at, row_sum}
use Rattle.meaning.specs.Exact.{carried, exact, middle_roundings, clippings}
use Rattle.meaning.proofs.LongRules.{reach-in}
use Rattle.product.specs.Product.{spot}
use Rattle.long_stages.specs.Work.{column_at}
use Rattle.why.specs.Work.{Clean}
use Rattle.why.proofs.Running.{product, Running, running_none, running-next}
use Rattle.why.proofs.Reading.{wide, narrow, dot-given, sum-read, weight-held, carried-read, middle-read, sum-small}
use Rattle.why.proofs.sums.carried.Statement.{statement}
use Rattle.why.proofs.sums.carried.Tie as tie

-- what a column sum gives to each part
abbrev added : ℤ → ℤ
added e = pos 128 *ℤ rounded e -ℤ e

abbrev cut : ℕ → ℤ → ℤ
cut reach e = pos 128 *ℤ (middle (range_of reach) e -ℤ rounded e)

abbrev invariant-loop : tie.invariant-loop-i
invariant-loop extended c x y w h columns reach down along exact₀ middle-roundings₀ clippings₀ row₀ i₀ exact middle-roundings clippings row i =
    let e : ℕ → ℤ = λ i. column_at down h c w (h / 2) i y in
    (i ≤ columns)
    × (Running along w x i e exact
    × (Running along w x i (λ i. added (e i)) middle-roundings
    × (Running along w x i (λ i. cut reach (e i)) clippings × Running along w x i (λ i. middle (range_of reach) (e i)) row)))

abbrev decreases-loop : tie.decreases-loop-i
decreases-loop extended c x y w h columns reach down along exact₀ middle-roundings₀ clippings₀ row₀ i₀ exact middle-roundings clippings row i =
    columns - i

clean : (s : tie.Start invariant-loop decreases-loop) → Clean s.args.extended s.args.shape s.args.c.now
clean s = s.requires.0

cast-w : tie.Need-overflow_cast-w invariant-loop decreases-loop
cast-w c = search rules

cast-h : tie.Need-overflow_cast-h invariant-loop decreases-loop
cast-h c = search rules

cast-columns : tie.Need-overflow_cast-columns invariant-loop decreases-loop
cast-columns c = search rules

reach-of-requires : tie.Need-reach_of-reach-requires invariant-loop decreases-loop
reach-of-requires c κs = search rules

put-1024-requires : tie.Need-put_1024-requires invariant-loop decreases-loop
put-1024-requires c κs = ((clean c.before.before.before.before.before).passed.taken.height, refl)

put-1024-requires-2 : tie.Need-put_1024-requires-2 invariant-loop decreases-loop
put-1024-requires-2 c κs = ((clean c.before.before.before.before.before.before.before).passed.taken.width, refl)

loop-holds : tie.Need-loop-i-init invariant-loop decreases-loop
loop-holds c = (omega arith, (running_none _ _ _ _, (running_none _ _ _ _, (running_none _ _ _ _, running_none _ _ _ _))))

-- where a turn starts
abbrev laid : tie.At-loop-i invariant-loop decreases-loop → tie.After-put_1024 invariant-loop decreases-loop
laid L = L.before.before.before

abbrev reached : tie.At-loop-i invariant-loop decreases-loop → tie.After-reach_of-reach invariant-loop decreases-loop
reached L = (laid L).before.before

abbrev start : tie.At-loop-i invariant-loop decreases-loop → tie.Start invariant-loop decreases-loop
start L = (reached L).before.before.before.before

abbrev down : tie.At-loop-i invariant-loop decreases-loop → List ℤ
down L = (laid L).put_1024.new.u

abbrev along : tie.At-loop-i invariant-loop decreases-loop → List ℤ
along L = L.before.put_1024-2.new.u

module _ (c : tie.In-loop-i invariant-loop decreases-loop) where
  abbrev s : tie.Start invariant-loop decreases-loop
  s = start c.before

  abbrev i : ℕ
  i = c.before.loop-i.i

  in-width : i < s.args.shape.width
  in-width = omega (arith, c.loop-i-test.true, narrow s.args.extended s.args.shape s.args.c.now (clean s))

  few : i ≤ 32
  few = omega (arith, in-width, wide s.args.extended s.args.shape s.args.c.now (clean s))

  held : 2 * s.args.x + spot (2 * s.args.shape.width) i < length (along c.before)
  held = weight-held s.args.extended s.args.shape s.args.c.now (clean s) (along c.before) c.before.before.put_1024-2.ensures.1 i s.args.x in-width s.requires.1.0

slice-aggregate-dot : tie.Need-slice_bounds-dot-end invariant-loop decreases-loop
slice-aggregate-dot c = search rules

mul-dot : tie.Need-overflow_mul-y invariant-loop decreases-loop
mul-dot c = search rules

mul-dot-2 : tie.Need-overflow_mul-h invariant-loop decreases-loop
mul-dot-2 c = search rules

dot-requires : tie.Need-dot-e-requires invariant-loop decreases-loop
dot-requires c κs =
    let I = c.before in
    let s = start I.before in
    dot-given s.args.extended s.args.shape s.args.c.now (clean s) (down I.before) (laid I.before).put_1024.ensures.1 (i I) s.args.y (in-width I) s.requires.1.1

-- the sum of column i, as its local has it
abbrev turn : tie.After-dot-e invariant-loop decreases-loop → tie.In-loop-i invariant-loop decreases-loop
turn D = D.before.before

abbrev e : tie.In-loop-i invariant-loop decreases-loop → ℕ → ℤ
e I k =
    let s = start I.before in
    column_at (down I.before) s.args.shape.height s.args.c.now s.args.shape.width (s.args.shape.height / 2) k s.args.y

e-is : (D : tie.After-dot-e invariant-loop decreases-loop) → to_z w64 (of_z w64 D.dot-e.result) ≡ e (turn D) (i (turn D))
e-is D = to_z-of_z w64 D.dot-e.result (search rules) ∙ D.dot-e.ensures.0

e-small : (D : tie.After-dot-e invariant-loop decreases-loop) → nat_abs (to_z w64 (of_z w64 D.dot-e.result)) ≤ 2147483648
e-small D =
    let I = turn D in
    let s = start I.before in
    let r = sum-read s.args.extended s.args.shape s.args.c.now (clean s) (down I.before) (laid I.before).put_1024.ensures.1 (i I) s.args.y (in-width I) s.requires.1.1 in
    subst (λ (z : ℤ). nat_abs z ≤ 2147483648) (sym (e-is D ∙ r)) (sum-small s.args.extended s.args.shape s.args.c.now (clean s) (i I) s.args.y s.requires.1.1)

-- where its weight stands
spot_is : (D : tie.After-dot-e invariant-loop decreases-loop) → let s = start (turn D).before in
    2 * s.args.x + i (turn D) / 2 * (2 * s.args.shape.width) + i (turn D) % 2 ≡ 2 * s.args.x + spot (2 * s.args.shape.width) (i (turn D))
spot_is D = omega arith

mul-weight : tie.Need-overflow_mul-weight invariant-loop decreases-loop
mul-weight c = search rules

mul-weight-2 : tie.Need-overflow_mul-weight-in-loop-i invariant-loop decreases-loop
mul-weight-2 c = search rules

mul-weight-3 : tie.Need-overflow_mul-weight-in-loop-i-2 invariant-loop decreases-loop
mul-weight-3 c = omega (arith, held (turn c), spot_is c)

add-weight : tie.Need-overflow_add-weight invariant-loop decreases-loop
add-weight c = omega (arith, held (turn c), spot_is c)

add-weight-2 : tie.Need-overflow_add-weight-in-loop-i invariant-loop decreases-loop
add-weight-2 c = omega (arith, held (turn c), spot_is c)

mul-weight-4 : tie.Need-offset_bounds-along-x invariant-loop decreases-loop
mul-weight-4 c = omega (arith, held (turn c), spot_is c)

array-copy-out-weight : tie.Need-bounds-along-x invariant-loop decreases-loop
array-copy-out-weight c = omega (arith, held (turn c), spot_is c)

weight_is : (c : tie.After-weight-1 invariant-loop decreases-loop) → let I = turn c.before in let s = start I.before in
    to_z w16 (of_z w16 (at (along I.before) (2 * s.args.x + i I / 2 * (2 * s.args.shape.width) + i I % 2))) ≡ at (along I.before) (2 * s.args.x + spot (2 * s.args.shape.width) (i I))
weight_is c =
    let I = turn c.before in
    let s = start I.before in
    to_z-of_z w16 (at (along I.before) (2 * s.args.x + i I / 2 * (2 * s.args.shape.width) + i I % 2)) (record { sfits = c.weight-1.given }) ∙ ap (at (along I.before)) (spot_is c.before)

far : (L : tie.At-loop-i invariant-loop decreases-loop) → (reached L).reach_of-reach.result ≤ 20
far L = let s = start L in omega (arith, (reached L).reach_of-reach.ensures, reach-in s.args.extended s.args.shape.depth)

carry-requires : tie.Need-carry-exact-requires invariant-loop decreases-loop
carry-requires c κs =
    let D = c.before in
    let I = turn D in
    (omega (arith, few I, I.before.loop-i.invariant.1.0.small), omega (arith, e-small D))

rounding-requires : tie.Need-rounding-requires invariant-loop decreases-loop
rounding-requires c κs = e-small c.before.before

-- what each call gave, as the next one is handed it
rounding-in : (c : tie.After-rounding invariant-loop decreases-loop) → nat_abs (to_z w64 (of_z w64 c.rounding.result)) ≤ 549755813888
rounding-in c = subst (λ (z : ℤ). nat_abs z ≤ 549755813888) (sym (to_z-of_z w64 c.rounding.result (search rules))) c.rounding.ensures.1

rounding-is : (c : tie.After-rounding invariant-loop decreases-loop) → let I = turn c.before.before.before in to_z w64 (of_z w64 c.rounding.result) ≡ added (e I (i I))
rounding-is c = to_z-of_z w64 c.rounding.result (search rules) ∙ c.rounding.ensures.0 ∙ ap added (e-is c.before.before.before)

carry-requires-2 : tie.Need-carry-middle_roundings-requires invariant-loop decreases-loop
carry-requires-2 c κs =
    let I = turn c.before.before.before in
    (omega (arith, few I, I.before.loop-i.invariant.1.1.0.small), rounding-in c)

clipping-requires : tie.Need-clipping-requires invariant-loop decreases-loop
clipping-requires c κs = let D = c.before.before.before.before in (e-small D, far (turn D).before)

clipping-in : (c : tie.After-clipping invariant-loop decreases-loop) → nat_abs (to_z w64 (of_z w64 c.clipping.result)) ≤ 549755813888
clipping-in c = subst (λ (z : ℤ). nat_abs z ≤ 549755813888) (sym (to_z-of_z w64 c.clipping.result (search rules))) c.clipping.ensures.1

clipping-is : (c : tie.After-clipping invariant-loop decreases-loop) → let I = turn c.before.before.before.before.before in
    to_z w64 (of_z w64 c.clipping.result) ≡ cut (reached I.before).reach_of-reach.result (e I (i I))
clipping-is c =
    let D = c.before.before.before.before.before in
    to_z-of_z w64 c.clipping.result (search rules) ∙ c.clipping.ensures.0 ∙ ap (cut (reached (turn D).before).reach_of-reach.result) (e-is D)

carry-requires-3 : tie.Need-carry-clippings-requires invariant-loop decreases-loop
carry-requires-3 c κs =
    let I = turn c.before.before.before.before.before in
    (omega (arith, few I, I.before.loop-i.invariant.1.1.1.0.small), clipping-in c)

between-requires : tie.Need-between-requires invariant-loop decreases-loop
between-requires c κs = let D = c.before.before.before.before.before.before in (e-small D, far (turn D).before)

between_in : (c : tie.After-between invariant-loop decreases-loop) → nat_abs (to_z w64 (of_z w64 c.between.result)) ≤ 549755813888
between_in c = subst (λ (z : ℤ). nat_abs z ≤ 549755813888) (sym (to_z-of_z w64 c.between.result (search rules))) (omega (arith, c.between.ensures.1))

between_is : (c : tie.After-between invariant-loop decreases-loop) → let I = turn c.before.before.before.before.before.before.before in
    to_z w64 (of_z w64 c.between.result) ≡ middle (range_of (reached I.before).reach_of-reach.result) (e I (i I))
between_is c =
    let D = c.before.before.before.before.before.before.before in
    to_z-of_z w64 c.between.result (search rules) ∙ c.between.ensures.0 ∙ ap (middle (range_of (reached (turn D).before).reach_of-reach.result)) (e-is D)

carry-requires-4 : tie.Need-carry-row-requires invariant-loop decreases-loop
carry-requires-4 c κs =
    let I = turn c.before.before.before.before.before.before.before in
    (omega (arith, few I, I.before.loop-i.invariant.1.1.1.1.small), between_in c)

add-i : tie.Need-overflow_add-i invariant-loop decreases-loop
add-i c = omega (arith, few (turn c.before.before.before.before.before.before.before.before))

loop-less : tie.Need-loop-i-smaller invariant-loop decreases-loop
loop-less c = let I = turn c.before.before.before.before.before.before.before.before in omega (arith, I.loop-i-test.true)

loop-again : tie.Need-loop-i-preserved invariant-loop decreases-loop
loop-again c =
    let B = c.before in
    let C3 = B.before in
    let K = C3.before in
    let C2 = K.before in
    let R = C2.before in
    let C1 = R.before in
    let W = C1.before in
    let I = turn W.before in
    let v = I.before.loop-i.invariant.1 in
    let r = (reached I.before).reach_of-reach.result in
    let q = weight_is W in (
      omega (arith, I.loop-i-test.true),
      (
        running-next {f = e I} v.0 C1.carry-exact.result _ _ (record { sfits = C1.carry-exact.type_inv }) C1.carry-exact.ensures q (e-is W.before),
        (
          running-next {f = λ k. added (e I k)} v.1.0 C2.carry-middle_roundings.result _ _ (record { sfits = C2.carry-middle_roundings.type_inv }) C2.carry-middle_roundings.ensures q (rounding-is R),
          (
            running-next {f = λ k. cut r (e I k)} v.1.1.0 C3.carry-clippings.result _ _ (record { sfits = C3.carry-clippings.type_inv }) C3.carry-clippings.ensures q (clipping-is K),
            running-next {f = λ k. middle (range_of r) (e I k)} v.1.1.1 c.carry-row.result _ _ (record { sfits = c.carry-row.type_inv }) c.carry-row.ensures q (between_is B),
          ),
        ),
      ),
    )

-- all kept columns are in: what was carried is what the definition carries
module _ (c : tie.After-loop-i invariant-loop decreases-loop) where
  abbrev L : tie.At-loop-i invariant-loop decreases-loop
  L = c.before

  abbrev o : tie.Start invariant-loop decreases-loop
  o = start L

  abbrev p : Plan
  p = long_plan o.args.extended o.args.shape

  all : (f g : ℕ → ℤ) {bits : ℕ} → Running (along L) o.args.shape.width o.args.x L.loop-i.i f bits
      → ((k : ℕ) → k < o.args.shape.columns → f k ≡ g k) → to_z w64 bits ≡ carried p o.args.x g
  all f g r same =
      let end : L.loop-i.i ≡ o.args.shape.columns = omega (arith, L.loop-i.invariant.0, c.loop-i-test.false) in
      r.is ∙ ap (λ (n : ℕ). sum n (product (along L) o.args.shape.width o.args.x f)) end
      ∙ carried-read o.args.extended o.args.shape o.args.c.now (clean o) (along L) L.before.put_1024-2.ensures.1 o.args.x f g o.requires.1.0 same

  abbrev read : ℕ → ℤ
  read k = column_at (down L) o.args.shape.height o.args.c.now o.args.shape.width (o.args.shape.height / 2) k o.args.y

  inside : (k : ℕ) → k < o.args.shape.columns → k < o.args.shape.width
  inside k l = omega (arith, narrow o.args.extended o.args.shape o.args.c.now (clean o))

  e-read : (k : ℕ) → k < o.args.shape.columns → read k ≡ column_sum p o.args.c.now k o.args.y
  e-read k l =
      sum-read o.args.extended o.args.shape o.args.c.now (clean o) (down L) (laid L).put_1024.ensures.1 k o.args.y (inside k l) o.requires.1.1

  m-read : (k : ℕ) → k < o.args.shape.columns → middle (range_of (reached L).reach_of-reach.result) (read k) ≡ middle_at p o.args.c.now k o.args.y
  m-read k l =
      (λ t. middle (range_of ((reached L).reach_of-reach.ensures t)) (e-read k l t))
      ∙ middle-read o.args.extended o.args.shape o.args.c.now (clean o) k o.args.y (inside k l)

returns : tie.Need-returns invariant-loop decreases-loop
unfolding exact middle_roundings clippings row_sum inverse_sum carried
returns c =
    let v = c.before.loop-i.invariant.1 in
    let R = (reached c.before).reach_of-reach.result in
    let a = all c (read c) _ v.0 (e-read c) in
    let b = all c (λ k. added (read c k)) _ v.1.0 (λ k l. ap added (e-read c k l)) in
    let d = all c (λ k. cut R (read c k)) _ v.1.1.0 (λ k l t. pos 128 *ℤ (m-read c k l t -ℤ rounded (e-read c k l t))) in
    let r = all c (λ k. middle (range_of R) (read c k)) _ v.1.1.1 (m-read c) in
    λ t. record { exact = a t; middle_roundings = b t; clippings = d t; row = r t }

pub carried_spec : {M : Type 1} → statement M
carried_spec =
    tie.close
    (tie.spec
    invariant-loop
    decreases-loop
    cast-w
    cast-h
    cast-columns
    reach-of-requires
    put-1024-requires
    put-1024-requires-2
    loop-holds
    slice-aggregate-dot
    mul-dot
    mul-dot-2
    dot-requires
    mul-weight
    mul-weight-2
    mul-weight-3
    add-weight
    add-weight-2
    mul-weight-4
    array-copy-out-weight
    carry-requires
    rounding-requires
    carry-requires-2
    clipping-requires
    carry-requires-3
    between-requires
    carry-requires-4
    add-i
    loop-less
    loop-again
    returns)
