-- A number below ten is its own digit, and any other has one digit behind those of its tenth.
use Rattle.std.proofs.Common.{arith}
use Rattle.file_text.proofs.Digits.{digits-small, digits_more, down}
use Rattle.file_text.proofs.Writing.{within, and_then}
use Rattle.file_text.proofs.text.+put_digits.Goals as goal

pub returns-then-n-lt10 : goal.returns-then-n-lt10
returns-then-n-lt10 t c = rw (digits-small c.args.k c.args.n c.if-n-lt10.true) (within c.put.ensures (omega arith))

pub returns : goal.returns
returns t c =
    let d = down c.args.k c.args.n c.requires.0 c.if-n-lt10.false in
    rw (digits_more c.args.k c.args.n c.if-n-lt10.false d.0) (within (and_then c.put_digits-next.ensures c.put-2.ensures) (omega arith))
