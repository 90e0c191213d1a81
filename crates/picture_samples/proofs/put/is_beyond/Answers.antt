use Rattle.std.proofs.Common.{◌≡◌, true, false, w32}
use lib.Signed.{lt_z}
use mir.ValLaws.{to_z-of_z}
use Rattle.meaning.specs.Plan.{short_range}
use Rattle.picture_samples.proofs.put.is_beyond.Goals as goal

pub returns-then-z-ltminus32768 : goal.returns-then-z-ltminus32768
unfolding short_range
returns-then-z-ltminus32768 c =
    let below : lt_z c.args.z short_range.low ≡ true = rw (to_z-of_z w32 c.args.z c.ranges.z) at c.if-z-ltminus32768.true in
    rw (to_z-of_z w32 c.args.z c.ranges.z, below)

pub returns-else-z-ltminus32768 : goal.returns-else-z-ltminus32768
unfolding short_range
returns-else-z-ltminus32768 c =
    let not-below : lt_z c.args.z short_range.low ≡ false = rw (to_z-of_z w32 c.args.z c.ranges.z) at c.if-z-ltminus32768.false in
    rw (to_z-of_z w32 c.args.z c.ranges.z, not-below)
