-- What the inverse hands back is drawn, or refused. Assumes nothing.
use Rattle.std.proofs.Common.{ap, ◌∙◌}
use Rattle.file_picture.specs.declared.shown.View.{View}
use Rattle.file_picture.proofs.Drawing.{inverse-refused, inverse-drawn}
use Rattle.file_picture.proofs.shown.inverse_drawn.Goals as goal

pub returns-then-answer-ne0 : goal.returns-then-answer-ne0
returns-then-answer-ne0 c =
    let a = c.args in
    let call = c.inverse-answer in
    let out = a.picture.now in
    ap (λ (x : View). (x, out)) c.refused.ensures
    ∙ inverse-refused a.shape a.coefficients.now a.residuals.now a.offset out call.result call.new.residuals c.requires call.ensures c.if-answer-ne0.true

pub returns : goal.returns
returns c =
    let a = c.args in
    let call = c.inverse-answer in
    c.drawn.ensures
    ∙ inverse-drawn a.shape a.coefficients.now a.residuals.now a.offset a.picture.now call.result call.new.residuals c.requires call.ensures c.if-answer-ne0.false
