-- The sides, the coefficients, and the end of the line. Assumes nothing.
use Rattle.std.proofs.Common.{List, ℕ, [], ◌∷◌, pos, ap, arith}
use Rattle.file_text.specs.Text.{line}
use Rattle.file_text.proofs.Spaced.{spaced-then}
use Rattle.file_text.proofs.Writing.{and_then, retext, within}
use Rattle.file_text.proofs.text.put_forward.Goals as goal

pub returns : goal.returns
unfolding line
returns c =
    let two = pos c.args.w ∷ pos c.args.h ∷ [] in
    within (retext (ap (λ (t : List ℕ). 70 ∷ t) (spaced-then two c.args.coefficients.now (10 ∷ [])))
    (and_then c.put_lead-lead.ensures (and_then c.put_coefficients-end.ensures c.put.ensures))) (omega arith)
