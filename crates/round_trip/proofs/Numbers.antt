-- "for N=4, DST-VII, D(0) is 44". Assumes nothing.
use mathlib.Core.Path.{◌≡◌, refl}
use Rattle.algebra.specs.Sum.{sum, sumℕ}
use Rattle.meaning.specs.Weights.{first, fold, S, weight}
use Rattle.round_trip.specs.RoundTrip.{G, less, D}

pub first-of-4 : D 1 4 0 ≡ 44
unfolding sum sumℕ first fold S weight G less D
first-of-4 = refl
