-- Document 01, "The block file and its program": "lines printed before it stand". What a function that writes text at a place
-- promises.
use Rattle.std.specs.Prelude.{◌≡◌, List, ◌++◌, ℕ, ◌+◌, ◌≤◌, length, take, drop}

-- text, of at most `most` bytes, was put at `at`, behind what stood before it; r is the place after it, from which on all is
-- as it was
pub record Wrote (text : List ℕ) (most at : ℕ) (out out' : List ℕ) (r : ℕ) : Type 0 where
  pub next : r ≡ at + length text
  pub front : take r out' ≡ take at out ++ text
  pub beyond : drop r out' ≡ drop r out
  pub room : r ≤ at + most
