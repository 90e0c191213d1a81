-- A space, and then the number. Assumes nothing.
use Rattle.std.proofs.Common.{pos}
use Rattle.file_text.proofs.Spaced.{spaced-one}
use Rattle.file_text.proofs.Writing.{and_then, retext}
use Rattle.file_text.proofs.text.put_natural.Goals as goal

pub returns : goal.returns
returns c = retext (spaced-one (pos c.args.n)) (and_then c.put-next.ensures c.put_decimal.ensures)
