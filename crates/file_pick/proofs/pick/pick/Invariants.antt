-- What is still to pass over leads to the field that is meant. Assumes nothing.
use Rattle.std.proofs.Common.{◌≡◌, ◌-◌, length}
use Rattle.file_pick.specs.Pick.{walk, picked}
use Rattle.file_pick.proofs.pick.pick.Given as goal

abbrev pub invariant-fields : goal.invariant-fields
invariant-fields l = walk (length l.file) l.file l.left_over l.cursor ≡ picked l.file l.fn.n

-- the place moves on within the file
abbrev pub decreases-fields : goal.decreases-fields
decreases-fields l = length l.file - l.cursor.at
