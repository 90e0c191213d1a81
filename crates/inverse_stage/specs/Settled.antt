-- Document 01, "Blocks", "Inverse": "the rail count", of middle values m whose rounded sums are e.
use Rattle.std.specs.Prelude.{List, ℕ, ℤ}
use Rattle.algebra.specs.Sum.{sumℕ}
use Rattle.algebra.specs.Lists.{at}
use Rattle.meaning.specs.Inverse.{railed, count}

unfoldable pub rails_of : ℕ → List ℤ → List ℤ → ℕ
rails_of n e m = sumℕ n (λ k. count (railed (at e k) (at m k)))
