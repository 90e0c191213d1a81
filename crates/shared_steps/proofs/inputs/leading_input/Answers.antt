-- `inputs::leading_input` meets its contract. Assumes nothing.
use Rattle.std.proofs.Common.{arith, ◌+◌, ◌-◌, ◌*◌, ◌/◌, ℕ, ℤ, ◌+ℤ◌, sym, ap, ◌∙◌}
use lib.Dec.{ltb}
use lib.IntN.{+ℤ_idr}
use Rattle.meaning.specs.Weights.{signed}
use Rattle.shared_steps.specs.Folds.{half, folded}
use Rattle.shared_steps.specs.Lines.{reading}
use Rattle.shared_steps.proofs.Reading.{Reads, reads, reads-sign, reads-sum, is-small, lone-part, into-own, into-two}
use Rattle.shared_steps.proofs.inputs.leading_input.Goals as goal
use Rattle.shared_steps.proofs.inputs.leading_input.Goals.{After-taken-own}

own : (c : After-taken-own) → Reads c.taken-own.result (reading c.args.back c.args.n c.args.x.now c.args.g) 32768
own c = reads 32768 c.taken-own.ensures.0 c.taken-own.ensures.1 (omega arith)

pub returns-then-r-q : goal.returns-then-r-q
returns-then-r-q c =
    let s = c.args in
    let x = reading s.back s.n s.x.now in
    let r = own (goal.at.returns-then-r-q c).After-taken-own in
    (r.is ∙ sym (+ℤ_idr (x s.g)) ∙ ap (folded x) (sym (into-own s.p s.q s.g c.if-r-q.true)), omega (arith, is-small r))

pub returns : goal.returns
returns c =
    let s = c.args in
    let x = reading s.back s.n s.x.now in
    let k = half s.p * s.q in
    let less = ltb (s.g / s.q + 1) (half s.p) in
    let last : Reads c.taken-last.result (x (k + (c.nearer.result - 1))) 32768 = reads 32768 c.taken-last.ensures.0 c.taken-last.ensures.1 (omega arith) in
    let r = reads-sum (own (goal.at.returns c).After-taken-own) (reads-sign last less c.sign.ensures (omega arith)) c.two_inputs.ensures (omega arith) in (
      r.is
          ∙ ap (λ (z : ℤ). x s.g +ℤ z) (ap (λ (j : ℕ). signed less (x (k + (j - 1)))) c.nearer.ensures ∙ sym (lone-part less x _))
          ∙ ap (folded x) (sym (into-two s.p s.q s.g c.if-r-q.false)),
      omega (arith, is-small r),
    )
