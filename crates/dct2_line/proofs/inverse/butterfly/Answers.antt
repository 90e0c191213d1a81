-- `inverse::butterfly` meets its contract. Assumes nothing.
use Rattle.std.proofs.Common.{rules, arith, ◌≡◌, ℕ, ◌≤◌, ℤ, ◌+ℤ◌, ◌-ℤ◌, nat_abs, to_z, of_z, sym, subst, ◌∙◌}
use mir.Syntax.{w32}
use mir.ValLaws.{to_z-of_z}
use Rattle.algebra.specs.Lists.{at}
use Rattle.algebra.proofs.Word.{small}
use Rattle.dct2_line.specs.Lines.{Joined}
use Rattle.dct2_line.proofs.Joining.{join-none, join-next}
use Rattle.dct2_line.proofs.inverse.butterfly.Goals as goal
use Rattle.dct2_line.proofs.inverse.butterfly.Goals.{In-loop-j}

pub loop-j-init : goal.loop-j-init
loop-j-init c = join-none c.requires.1

-- the two sums as they are read
module _ (c : In-loop-j) where
  abbrev e : ℤ
  e = at c.args.e.now c.loop-j.j

  abbrev o : ℤ
  o = at c.args.o.now c.loop-j.j

  even-size : nat_abs e ≤ 1000000000
  even-size = c.requires.0.even c.loop-j.j c.loop-j-test.true

  odd-size : nat_abs o ≤ 1000000000
  odd-size = c.requires.0.odd c.loop-j.j c.loop-j-test.true

  reads-even : to_z w32 (of_z w32 e) ≡ e
  reads-even = to_z-of_z w32 e (small {B = 1000000000} (omega arith) even-size)

  reads-odd : to_z w32 (of_z w32 o) ≡ o
  reads-odd = to_z-of_z w32 o (small {B = 1000000000} (omega arith) odd-size)

  added : (nat_abs (to_z w32 (of_z w32 e)) ≤ 1000000000) × (nat_abs (to_z w32 (of_z w32 o)) ≤ 1000000000)
  added = (
    subst (λ (z : ℤ). nat_abs z ≤ 1000000000) (sym reads-even) even-size,
    subst (λ (z : ℤ). nat_abs z ≤ 1000000000) (sym reads-odd) odd-size,
  )

pub plus-requires : goal.plus-requires
plus-requires c = added (goal.at.plus-requires c).In-loop-j

pub minus-requires : goal.minus-requires
minus-requires c = added (goal.at.minus-requires c).In-loop-j

pub loop-j-preserved : goal.loop-j-preserved
loop-j-preserved c =
    let I = (goal.at.loop-j-preserved c).In-loop-j in
    join-next _ _ c.loop-j-test.true c.loop-j.invariant (to_z-of_z w32 c.plus.result (search rules) ∙ c.plus.ensures ∙ (λ t. reads-even I t +ℤ reads-odd I t))
    (to_z-of_z w32 c.minus.result (search rules) ∙ c.minus.ensures ∙ (λ t. reads-even I t -ℤ reads-odd I t))

pub returns : goal.returns
returns c =
    let q : c.loop-j.j ≡ c.args.h = omega arith in
    subst (λ (m : ℕ). Joined m c.args.h c.args.e.now c.args.o.now c.loop-j.out) q c.loop-j.invariant
