-- What is left to look through gives what all of it gives.
use Rattle.std.proofs.Common.{◌≡◌, ◌-◌, length}
use Rattle.salvage.specs.Pieces.{goes_on_in, next_after}
use Rattle.salvage.proofs.search.next_after.Given as goal

abbrev pub invariant-loop-i : goal.invariant-loop-i
invariant-loop-i l = goes_on_in (length l.file - l.i) l.file l.i ≡ next_after l.file l.at
