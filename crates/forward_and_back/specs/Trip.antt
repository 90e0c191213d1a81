-- Document 02, Wish 10: "we run .. residual blocks forward and back". One block: the answer to it, and how far what is returned is
-- from what was given.
use Rattle.std.specs.Prelude.{List, [], ◌∷◌, ◌++◌, ℕ, zero, suc, ◌*◌, max, ℤ, nat_abs, ◌-ℤ◌, length}
use Rattle.algebra.specs.Sum.{sumℕ}
use Rattle.algebra.specs.Lists.{at}
use Rattle.algebra.specs.Refusals.{Test, first_of}
use Rattle.meaning.specs.declared.Shape.{Shape}
use Rattle.meaning.specs.declared.Answer.{Answer}
use Rattle.meaning.specs.Plan.{plan_of}
use Rattle.meaning.specs.Answer.{refused, accepted, input_test, shape_tests}
use Rattle.meaning.specs.Inverse.{rails, inverse_block}
use Rattle.meaning.specs.Forward.{too_large_test, forward_block}

abbrev pub elements : Shape → ℕ
elements sh = sh.width * sh.height

-- the forward's refusals, without 7: nothing is written that could have another length
abbrev pub trip_tests : Shape → List ℤ → List Test
trip_tests sh r =
    shape_tests sh ++ (input_test (elements sh) (length r) ∷ too_large_test sh r ∷ [])

-- "the rail counts": of the way back
unfoldable pub rail_count : Shape → List ℤ → ℕ
rail_count sh r = rails (plan_of sh) (forward_block sh r)

-- the answer to a block: its refusal, or the rail count
unfoldable pub trip_answer : Shape → List ℤ → Answer
trip_answer sh r = first_of (trip_tests sh r) refused (accepted (rail_count sh r))

-- "returned residual"
unfoldable pub returned : Shape → List ℤ → List ℤ
returned sh r = inverse_block (plan_of sh) (forward_block sh r)

-- the size of the "difference between input residual and returned residual", at place k
abbrev pub apart : List ℤ → List ℤ → ℕ → ℕ
apart r s k = nat_abs (at r k -ℤ at s k)

-- the largest of f 0, .., f (n - 1), and 0 of none
unfoldable pub greatest : ℕ → (ℕ → ℕ) → ℕ
greatest zero f = 0
greatest (suc n) f = max (greatest n f) (f n)

-- "the largest difference"
unfoldable pub largest : Shape → List ℤ → ℕ
largest sh r = greatest (elements sh) (apart r (returned sh r))

-- "the sum of squared differences"
unfoldable pub squares : Shape → List ℤ → ℕ
squares sh r = sumℕ (elements sh) (λ k. apart r (returned sh r) k * apart r (returned sh r) k)
