use Rattle.std.proofs.Common.{rules, arith, ◌≡◌, ℕ, ◌+◌, ◌*◌, ◌<◌, ◌≤◌, Bool, true, false, cond, ltb, List, ℤ, length, refl, sym, ap, ◌∙◌, w16}
use Rattle.std.proofs.lemmas.Int.{to_z-of_z}
use borrow.Author.Tests.{ltb-true, lt-ltb, le-ltb}
use Rattle.algebra.specs.Lists.{at}
use Rattle.algebra.specs.First.{first_at}
use Rattle.meaning.specs.Plan.{plan_of}
use Rattle.meaning.specs.Inverse.{first_outside, outside, outside_at}
use Rattle.layout.proofs.Inside.{outside_of, outside-at, kept-not}
use Rattle.layout.proofs.Hunting.{Hunt, hunt-in, hunt-next, hunt-here, hunt-past, hunt-none}
use Rattle.inverse_hunt.proofs.hunt.searched.Goals as goal
use Rattle.inverse_hunt.proofs.hunt.searched.Goals.{After-outside, At-hunt}

-- the kept columns of a kept row are passed over
passed : {w h columns place y : ℕ} {l : List ℤ} (rows : ℕ) → length l ≡ w * h → columns ≤ w → y < h → Hunt (outside_of w columns rows) w h l place 0 y
    → Hunt (outside_of w columns rows) w h l place (cond (ltb y rows) columns 0) y
passed {w} {h} {columns} {place} {y} {l} rows long k v q = go (ltb y rows) refl
  where
    go : (b : Bool) → ltb y rows ≡ b → Hunt (outside_of w columns rows) w h l place (cond b columns 0) y
    go false t = q
    go true t = hunt-past long v q columns k (λ x g. outside-at w columns rows x y (at l (x + y * w)) (omega arith) ∙ kept-not columns rows x y (at l (x + y * w)) g (ltb-true y rows t))

pub loop-x-init : goal.loop-x-init
loop-x-init c =
    (rw c.first_column-x.ensures (passed c.kept_rows-rows.result c.requires.0 (omega arith) c.hunt-test.true c.hunt.invariant.0), c.hunt.invariant.1)

-- what `outside` said is the test at this place
told : (c : After-outside) → let s = c.args in let k = c.loop-x.x + c.hunt.y * s.shape.width in
    outside_of s.shape.width c.kept_columns-columns.result c.kept_rows-rows.result k (at s.c.now k) ≡ c.outside.result
told c =
    let s = c.args in
    let k = c.loop-x.x + c.hunt.y * s.shape.width in
    outside-at s.shape.width _ _ c.loop-x.x c.hunt.y (at s.c.now k) c.loop-x-test.true
    ∙ sym (c.outside.ensures ∙ ap (outside_at _ _ c.loop-x.x c.hunt.y) (to_z-of_z w16 (at s.c.now k) (search rules)))

pub loop-x-preserved : goal.loop-x-preserved
loop-x-preserved c =
    (hunt-next c.requires.0 c.hunt-test.true c.loop-x.invariant.0 c.loop-x-test.true (told (goal.at.loop-x-preserved c).After-outside ∙ c.if-outside.false), c.loop-x.invariant.1)

-- the contract's own test is this one
asked : (c : At-hunt) → let s = c.args in
    first_at (outside_of s.shape.width c.kept_columns-columns.result c.kept_rows-rows.result) 0 s.c.now ≡ first_at (outside (plan_of s.shape)) 0 s.c.now
asked c = let s = c.args in λ i. first_at (outside_of s.shape.width (c.kept_columns-columns.ensures i) (c.kept_rows-rows.ensures i)) 0 s.c.now

pub returns-after-hunt : goal.returns-after-hunt
returns-after-hunt c =
    let s = c.args in
    let e : length s.c.now ≡ first_outside (plan_of s.shape) s.c.now = hunt-none c.requires.0 c.hunt-test.false c.hunt.invariant.0 ∙ asked (goal.at.returns-after-hunt c).At-hunt in
    c.hunt.invariant.1 ∙ rw (← e, le-ltb (length s.c.now) (length s.c.now) (omega arith))

pub returns-then-outside : goal.returns-then-outside
returns-then-outside c =
    let s = c.args in
    let k = c.loop-x.x + c.hunt.y * s.shape.width in
    let e : k ≡ first_outside (plan_of s.shape) s.c.now =
    hunt-here c.requires.0 c.hunt-test.true c.loop-x.invariant.0 c.loop-x-test.true (told (goal.at.returns-then-outside c).After-outside ∙ c.if-outside.true) ∙ asked (goal.at.returns-then-outside c).At-hunt in
    rw (← e, lt-ltb k (length s.c.now) (hunt-in s.c.now c.requires.0 c.loop-x-test.true c.hunt-test.true))
