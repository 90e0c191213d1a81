-- A number of 32 bits has at most ten digits. Assumes nothing.
use Rattle.std.proofs.Common.{arith}
use Rattle.file_text.proofs.Digits.{ten-digits}
use Rattle.file_text.proofs.Writing.{retext}
use Rattle.file_text.proofs.text.put_decimal.Goals as goal

pub returns : goal.returns
returns c = retext (ten-digits c.args.n (omega arith)) c.put_digits.ensures
