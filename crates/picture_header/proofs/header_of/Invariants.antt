-- What was read before start, and what reading on from there gives.
use Rattle.std.proofs.Common.{◌≡◌, drop}
use Rattle.picture_header.specs.Header.{behind_p5, read_from}
use Rattle.picture_header.proofs.header_of.Given as goal

abbrev pub invariant-loop-start : goal.invariant-loop-start
invariant-loop-start l = read_from l.header l.start (drop l.start l.file) ≡ read_from behind_p5 2 (drop 2 l.file)
