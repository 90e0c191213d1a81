-- The letter, and then the two numbers. Assumes nothing.
use Rattle.std.proofs.Common.{List, ℕ, [], ◌∷◌, pos, sym, ap}
use Rattle.file_text.proofs.Spaced.{spaced-append}
use Rattle.file_text.proofs.Writing.{and_then, retext}
use Rattle.file_text.proofs.text.put_lead.Goals as goal

pub returns : goal.returns
returns c =
    retext (ap (λ (t : List ℕ). c.args.letter ∷ t) (sym (spaced-append (pos c.args.a ∷ []) (pos c.args.b ∷ []))))
    (and_then c.put-first.ensures (and_then c.put_natural-second.ensures c.put_natural.ensures))
