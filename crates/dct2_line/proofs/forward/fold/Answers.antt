-- `forward::fold` meets its contract. Assumes nothing.
use Rattle.std.proofs.Common.{rules, arith, ◌≡◌, ℕ, ◌+◌, ◌-◌, ◌≤◌, ℤ, ◌+ℤ◌, ◌-ℤ◌, nat_abs, to_z, of_z, sym, subst, ◌∙◌}
use mir.Syntax.{w32}
use mir.ValLaws.{to_z-of_z}
use Rattle.algebra.specs.Lists.{at}
use Rattle.algebra.proofs.Word.{small}
use Rattle.algebra.proofs.Lists.{fill_none, fill-first, filled-to}
use Rattle.dct2_line.proofs.ForwardStep.{less9}
use Rattle.dct2_line.proofs.forward.fold.Goals as goal
use Rattle.dct2_line.proofs.forward.fold.Goals.{In-loop-j}

pub loop-j-init : goal.loop-j-init
loop-j-init c = (fill_none 0 _ _, fill_none 0 _ _)

module _ (c : In-loop-j) where
  abbrev j : ℕ
  j = c.loop-j.j

  -- the place from the other end
  abbrev k : ℕ
  k = c.args.h + c.args.h - 1 - j

  low : (i : ℕ) → nat_abs (at c.args.x.now i) ≤ 1000000000
  low i = less9 (c.args.h + c.args.h) (nat_abs (at c.args.x.now i)) c.requires.0.some (c.requires.0.low i)

  reads : (i : ℕ) → let z = at c.args.x.now i in to_z w32 (of_z w32 z) ≡ z
  reads i = to_z-of_z w32 (at c.args.x.now i) (small {B = 1000000000} (omega arith) (low i))

  added : let x = c.args.x.now in (nat_abs (to_z w32 (of_z w32 (at x j))) ≤ 1000000000) × (nat_abs (to_z w32 (of_z w32 (at x k))) ≤ 1000000000)
  added = (subst (λ (z : ℤ). nat_abs z ≤ 1000000000) (sym (reads j)) (low j), subst (λ (z : ℤ). nat_abs z ≤ 1000000000) (sym (reads k)) (low k))

pub plus-requires : goal.plus-requires
plus-requires c = added (goal.at.plus-requires c).In-loop-j

pub minus-requires : goal.minus-requires
minus-requires c = added (goal.at.minus-requires c).In-loop-j

pub loop-j-preserved : goal.loop-j-preserved
loop-j-preserved c =
    let I = (goal.at.loop-j-preserved c).In-loop-j in (
      fill-first _ (omega (arith, c.requires.1.0)) c.loop-j.invariant.0 (to_z-of_z w32 c.plus.result (search rules) ∙ c.plus.ensures ∙ (λ t. reads I (j I) t +ℤ reads I (k I) t)),
      fill-first _ (omega (arith, c.requires.1.1)) c.loop-j.invariant.1 (to_z-of_z w32 c.minus.result (search rules) ∙ c.minus.ensures ∙ (λ t. reads I (j I) t -ℤ reads I (k I) t)),
    )

pub returns : goal.returns
returns c = (
  filled-to c.requires.1.0 (omega arith) (omega arith) c.loop-j.invariant.0,
  filled-to c.requires.1.1 (omega arith) (omega arith) c.loop-j.invariant.1,
)
