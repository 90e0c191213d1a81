-- The bytes so far are written.
use Rattle.std.proofs.Common.{take}
use Rattle.file_text.specs.Wrote.{Wrote}
use Rattle.salvage.proofs.saving.copy.Given as goal

abbrev pub invariant-loop-byte : goal.invariant-loop-byte
invariant-loop-byte l = Wrote (take l.byte-index l.part) l.byte-index l.at l.initial.out l.out l.p
