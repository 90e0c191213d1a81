-- Document 02, Wish 9: "where the order isn't each of 0..N-1 once".
use Rattle.std.specs.Prelude.{◌≡◌, ℕ, zero, suc, ◌+◌, ◌<◌, Bool, true, ◌&&◌, List, [], ◌∷◌, length, ◌==◌}
use Rattle.meaning.specs.Inverse.{count}

-- how often k stands in the list
unfoldable pub times : ℕ → List ℕ → ℕ
times k [] = 0
times k (x ∷ l) = count (x == k) + times k l

-- each number below n once
unfoldable pub once_to : ℕ → List ℕ → Bool
once_to zero l = true
once_to (suc n) l = times n l == 1 && once_to n l

-- .. and no other: a list of another length is no order
unfoldable pub is_order : ℕ → List ℕ → Bool
is_order n l = length l == n && once_to n l

-- the same as facts
pub record Order (n : ℕ) (l : List ℕ) : Type 0 where
  pub long : length l ≡ n
  pub once : (k : ℕ) → k < n → times k l ≡ 1
