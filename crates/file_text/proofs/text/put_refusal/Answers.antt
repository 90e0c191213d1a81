-- The numbers, and the end of the line. Assumes nothing.
use Rattle.file_text.specs.Text.{line}
use Rattle.file_text.proofs.Writing.{and_then}
use Rattle.file_text.proofs.text.put_refusal.Goals as goal

pub returns : goal.returns
unfolding line
returns c = and_then c.put_lead-end.ensures c.put.ensures
