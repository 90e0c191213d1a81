-- r is a size, and from row r on there is nothing. Assumes nothing.
use Rattle.std.proofs.Common.{◌≡◌, true, ◌*◌, ◌≤◌}
use Rattle.meaning.specs.Shape.{is_size}
use Rattle.layout.specs.Live.{Clear}
use Rattle.layout.proofs.live.live_rows.Given as goal

abbrev pub invariant-loop-r : goal.invariant-loop-r
invariant-loop-r l = (is_size l.r ≡ true) × ((l.r ≤ l.h) × Clear l.c (l.r * l.w) (l.h * l.w))

abbrev pub decreases-loop-r : goal.decreases-loop-r
decreases-loop-r l = l.r
