-- What the loop of `read_numbers` has filled, and what is left. Assumes nothing.
use Rattle.std.proofs.Common.{◌≡◌, ◌*◌, ◌++◌, take, drop}
use Rattle.file_numbers.specs.Numbers.{numbers}
use Rattle.file_numbers.proofs.bytes.read_numbers.Given as goal

abbrev pub invariant-loop-i : goal.invariant-loop-i
invariant-loop-i l = take l.i l.out ++ numbers (drop (2 * l.i) l.body) ≡ numbers l.body
