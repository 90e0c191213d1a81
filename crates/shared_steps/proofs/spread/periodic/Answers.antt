-- `spread::periodic` meets its contract. Assumes nothing.
use Rattle.std.proofs.Common.{arith, ◌≡◌, ◌+◌, ◌-◌, ◌*◌, ◌%◌, ◌≤◌, ℕ, refl, sym, ap, ◌∙◌}
use mathlib.Core.Bool.{Bool, not}
use lib.Dec.{ltb, leb}
use lib.IntN.{nat_abs}
use native.Mathlib.Nat.{mod-lt}
use mir.Syntax.{w32}
use mir.Val.{to_z, of_z}
use Rattle.std.proofs.lemmas.Bool.Decides.{leb_tells}
use Rattle.algebra.specs.Lists.{at}
use Rattle.meaning.specs.Weights.{signed}
use Rattle.shared_steps.specs.Folds.{folded}
use Rattle.shared_steps.proofs.Reading.{Reads, reads, reads-sign, is-small, nearer-in, lone-part, periodic-one, periodic-none}
use Rattle.shared_steps.proofs.spread.periodic.Goals as goal
use Rattle.shared_steps.proofs.spread.periodic.Goals.{After-nearer}

-- the sum that is taken
s-small : (c : After-nearer) → nat_abs (at c.args.c.now (c.nearer.result - 1)) ≤ 94371840
s-small c =
    let w = (c.args.k + 1) % c.args.q in
    let h = nearer-in w c.args.q c.requires.1.0.odd (omega (arith, c.if-w-eq0.false)) (mod-lt (c.args.k + 1) (omega (arith, c.requires.1.0.some))) in
    c.requires.1.1.small (c.nearer.result - 1) (omega (arith, c.nearer.ensures, h.0, h.1))

pub returns-then-w-eq0 : goal.returns-then-w-eq0
returns-then-w-eq0 c = (sym (ap (folded (at c.args.c.now)) (periodic-none c.args.q c.args.k c.if-w-eq0.true)), omega arith)

pub returns : goal.returns
returns c =
    let s = c.args in
    let w = (s.k + 1) % (2 * s.q) in
    let v = at s.c.now (c.nearer.result - 1) in
    let b : Bool = not (ltb w s.q) in
    let turned : leb s.q w ≡ b = grind (arith, leb_tells) in
    let n : Reads v v 94371840 = reads 94371840 refl (s-small (goal.at.returns c).After-nearer) (omega arith) in
    let r = reads-sign n b (c.sign.ensures ∙ ap (λ (d : Bool). signed d (to_z w32 (of_z w32 v))) turned) (omega arith) in (
      r.is ∙ ap (λ (j : ℕ). signed b (at s.c.now (j - 1))) c.nearer.ensures ∙ sym (lone-part b (at s.c.now) _)
          ∙ ap (folded (at s.c.now)) (sym (periodic-one s.q s.k c.if-w-eq0.false)),
      is-small r,
    )
