-- The sides, the rail count, the residuals, and the end of the line. Assumes nothing.
use Rattle.std.proofs.Common.{List, ℕ, [], ◌∷◌, ◌++◌, pos, ap, ◌∙◌, arith}
use Rattle.file_text.specs.Text.{spaced, line}
use Rattle.file_text.proofs.Spaced.{spaced-then}
use Rattle.file_text.proofs.Writing.{and_then, retext, within}
use Rattle.file_text.proofs.text.put_inverse.Goals as goal

pub returns : goal.returns
unfolding line
returns c =
    let two = pos c.args.w ∷ pos c.args.h ∷ [] in
    let rails = pos c.args.rails ∷ [] in
    let zs = c.args.residuals.now in
    let e = ap (λ (t : List ℕ). spaced two ++ t) (spaced-then rails zs (10 ∷ [])) ∙ spaced-then two (rails ++ zs) (10 ∷ []) in
    within (retext (ap (λ (t : List ℕ). 73 ∷ t) e)
    (and_then c.put_lead-lead.ensures (and_then c.put_natural-first.ensures (and_then c.put_residuals-end.ensures c.put.ensures)))) (omega arith)
