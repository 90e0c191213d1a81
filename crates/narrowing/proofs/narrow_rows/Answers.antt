use Rattle.std.proofs.Common.{arith, sym, ap, ◌∙◌, subst, ℕ, ◌+◌, ◌*◌, ◌≤◌, ◌<◌, length, ℤ}
use mir.Syntax.{w16}
use mir.Val.{SFits}
use native.Mathlib.Nat.{add_comm}
use Rattle.algebra.specs.Lists.{at}
use Rattle.algebra.proofs.Lists.{row_in, part_in, part_filled, tab-cong}
use Rattle.narrowing.proofs.Reading.{lent_at, narrow_next}
use Rattle.narrowing.proofs.narrow_rows.Goals as goal

pub narrow_row-requires : goal.narrow_row-requires
narrow_row-requires c =
    let s = c.args in
    let y = c.loop-y.y in
    let k = s.columns in
    let there : y * s.w + k ≤ length s.c.now = omega (arith, c.requires.there, c.requires.few, c.requires.within, row_in s.w c.loop-y-test.true) in
    let room : y * s.broad + k ≤ length c.loop-y.room = omega (arith, c.requires.low, c.requires.few, row_in s.broad c.loop-y-test.true, c.loop-y.invariant.long) in
    let e = part_in s.c.now (y * s.w) k there in (
      e ∙ sym (part_in c.loop-y.room (y * s.broad) k room),
      λ i h. let l : i < k = omega (arith, e) in
          subst (SFits w16) (sym (lent_at s.c.now (y * s.w) k i l ∙ ap (at s.c.now) (add_comm (y * s.w) i))) (c.requires.fits i y l c.loop-y-test.true),
    )

pub loop-y-preserved : goal.loop-y-preserved
loop-y-preserved c =
    let s = c.args in
    let y = c.loop-y.y in
    let k = s.columns in
    let f : ℕ → ℤ = λ x. at s.c.now (y * s.w + x) in
    let room : y * s.broad + k ≤ length c.loop-y.room = omega (arith, c.requires.low, c.requires.few, row_in s.broad c.loop-y-test.true, c.loop-y.invariant.long) in
    let n = part_in c.loop-y.room (y * s.broad) k room in
    narrow_next s.w k s.broad y c.requires.few c.loop-y.invariant
    (part_filled c.loop-y.room _ (y * s.broad) k f room
    (c.narrow_row.ensures ∙ tab-cong _ _ _ (λ i h. lent_at s.c.now (y * s.w) k i (omega (arith, n)))))
