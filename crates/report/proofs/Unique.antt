-- Two outcomes that the contract of a public function allows are equal. Assumes nothing.
use Rattle.std.proofs.Common.{◌≡◌, ℕ, List, ℤ}
use Rattle.algebra.proofs.Unique.{one}
use Rattle.meaning.specs.declared.Shape.{Shape}
use Rattle.meaning.specs.declared.Answer.{Answer}
use Rattle.report.specs.Totals.{empty, add_outcome}

-- `empty` and `clear`
pub empty-one : {r s : List ℕ} → r ≡ empty → s ≡ empty → r ≡ s
empty-one = one

-- `add`: the answer and all 578 totals
pub add-one : (t : List ℕ) (sh : Shape) (r : List ℤ) {o p : Answer × List ℕ} → o ≡ add_outcome t sh r → p ≡ add_outcome t sh r → o ≡ p
add-one t sh r = one
