use Rattle.std.proofs.Common.{List, ℤ, ap, ◌∙◌}
use Rattle.meaning.specs.Inverse.{inverse_outcome}
use Rattle.forward_and_back.proofs.Back.{forward-refused, forward-took, back}
use Rattle.forward_and_back.proofs.there_and_back.Goals as goal

pub returns-then-forward-ne0 : goal.returns-then-forward-ne0
returns-then-forward-ne0 c =
    let s = c.args in
    let f = c.forward-forward in
    (forward-refused s.shape s.residuals.now s.coefficients.now c.requires.0 f.result _ f.ensures c.if-forward-ne0.true, λ z. absurd (c.if-forward-ne0.true z))

pub returns : goal.returns
returns c =
    let s = c.args in
    let f = c.forward-forward in
    let i = c.inverse in
    let t = forward-took s.shape s.residuals.now s.coefficients.now c.requires.0 f.result _ f.ensures c.if-forward-ne0.false in
    let b = back s.shape s.residuals.now t.0 s.back.now c.requires.1 i.result _ (i.ensures ∙ ap (λ (l : List ℤ). inverse_outcome s.shape l s.back.now) t.1) in
    (b.0, λ _. b.1)
