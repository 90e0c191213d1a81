-- Two answers that the contract of a function of this crate allows are equal: each is one equation. Assumes nothing.
use mathlib.Core.Path.{◌≡◌}
use mathlib.Core.Bool.{Bool}
use mathlib.Core.List.{◌++◌}
use Prim.Native.Nat.{ℕ, ◌*◌}
use Rattle.std.specs.Prelude.{Result}
use Rattle.algebra.specs.Refusals.{number_of}
use Rattle.algebra.proofs.Unique.{one}
use Rattle.meaning.specs.declared.Shape.{Shape}
use Rattle.meaning.specs.declared.Answer.{Answer}
use Rattle.meaning.specs.declared.refusal.Refusal.{Refusal}
use Rattle.meaning.specs.Refusal.{number_in}
use Rattle.meaning.proofs.RefusalNumbers.{result-one}
use Rattle.meaning.specs.Shape.{is_size, is_kind, is_depth, is_long_depth, most_kept, is_kept, shape_of, keeping}
use Rattle.meaning.specs.Answer.{shape_tests_by, shape_tests, length_tests, line_tests, refused, accepted}
use Rattle.meaning.specs.Long.{long_shape_tests}

-- `Shape::new`
pub new-one : (w h a b d : ℕ) {r s : Shape} → r ≡ shape_of w h a b d → s ≡ shape_of w h a b d → r ≡ s
new-one w h a b d = one

-- `Shape::keeping`
pub keeping-one : (sh : Shape) (columns rows : ℕ) {r s : Shape} → r ≡ keeping sh columns rows → s ≡ keeping sh columns rows → r ≡ s
keeping-one sh columns rows = one

-- `is_size`, `is_kind`, `is_depth`
module _ (n : ℕ) {r s : Bool} where
  pub size-one : r ≡ is_size n → s ≡ is_size n → r ≡ s
  size-one = one

  pub kind-one : r ≡ is_kind n → s ≡ is_kind n → r ≡ s
  kind-one = one

  pub depth-one : r ≡ is_depth n → s ≡ is_depth n → r ≡ s
  depth-one = one

-- `is_long_depth`
pub long-depth-one : (extended : Bool) (d : ℕ) {r s : Bool} → r ≡ is_long_depth extended d → s ≡ is_long_depth extended d → r ≡ s
long-depth-one extended d = one

-- `Shape::refusal_by`, `Shape::refusal` and `Shape::long_refusal`, here and below: the numbers, and then the results that have them
pub refusal-by-one : (width height depth : Bool) (sh : Shape) {r s : ℕ} → r ≡ number_of (shape_tests_by width height depth sh) → s ≡ number_of (shape_tests_by width height depth sh) → r ≡ s
refusal-by-one width height depth sh = one

pub refusal-by-result-one : (width height depth : Bool) (sh : Shape) {r s : Result Unit Refusal} → number_in r ≡ number_of (shape_tests_by width height depth sh)
    → number_in s ≡ number_of (shape_tests_by width height depth sh) → r ≡ s
refusal-by-result-one width height depth sh {r} {s} p q = result-one r s (refusal-by-one width height depth sh p q)

pub refusal-one : (sh : Shape) {r s : ℕ} → r ≡ number_of (shape_tests sh) → s ≡ number_of (shape_tests sh) → r ≡ s
refusal-one sh = one

pub refusal-result-one : (sh : Shape) {r s : Result Unit Refusal} → number_in r ≡ number_of (shape_tests sh)
    → number_in s ≡ number_of (shape_tests sh) → r ≡ s
refusal-result-one sh {r} {s} p q = result-one r s (refusal-one sh p q)

pub long-refusal-one : (extended : Bool) (sh : Shape) {r s : ℕ} → r ≡ number_of (long_shape_tests extended sh) → s ≡ number_of (long_shape_tests extended sh) → r ≡ s
long-refusal-one extended sh = one

pub long-refusal-result-one : (extended : Bool) (sh : Shape) {r s : Result Unit Refusal} → number_in r ≡ number_of (long_shape_tests extended sh)
    → number_in s ≡ number_of (long_shape_tests extended sh) → r ≡ s
long-refusal-result-one extended sh {r} {s} p q = result-one r s (long-refusal-one extended sh p q)

-- `most_kept`
pub most-one : (kind n : ℕ) {r s : ℕ} → r ≡ most_kept kind n → s ≡ most_kept kind n → r ≡ s
most-one kind n = one

-- `kept_columns`, `kept_rows`
pub columns-one : (sh : Shape) {r s : ℕ} → r ≡ sh.columns → s ≡ sh.columns → r ≡ s
columns-one sh = one

pub rows-one : (sh : Shape) {r s : ℕ} → r ≡ sh.rows → s ≡ sh.rows → r ≡ s
rows-one sh = one

-- `length_refusal`
pub length-refusal-one : (n input output : ℕ) {r s : ℕ} → r ≡ number_of (length_tests n input output) → s ≡ number_of (length_tests n input output) → r ≡ s
length-refusal-one n input output = one

pub length-refusal-result-one : (n input output : ℕ) {r s : Result Unit Refusal} → number_in r ≡ number_of (length_tests n input output)
    → number_in s ≡ number_of (length_tests n input output) → r ≡ s
length-refusal-result-one n input output {r} {s} p q = result-one r s (length-refusal-one n input output p q)

-- `block_refusal`
pub block-refusal-one : (extended : Bool) (sh : Shape) (input output : ℕ) {r s : ℕ} → r ≡ number_of (long_shape_tests extended sh ++ length_tests (sh.width * sh.height) input output)
    → s ≡ number_of (long_shape_tests extended sh ++ length_tests (sh.width * sh.height) input output) → r ≡ s
block-refusal-one extended sh input output = one

pub block-refusal-result-one : (extended : Bool) (sh : Shape) (input output : ℕ) {r s : Result Unit Refusal} → number_in r ≡ number_of (long_shape_tests extended sh ++ length_tests (sh.width * sh.height) input output)
    → number_in s ≡ number_of (long_shape_tests extended sh ++ length_tests (sh.width * sh.height) input output) → r ≡ s
block-refusal-result-one extended sh input output {r} {s} p q = result-one r s (block-refusal-one extended sh input output p q)

-- `line_refusal`
pub line-refusal-one : (n kind input output : ℕ) {r s : ℕ} → r ≡ number_of (line_tests n kind input output) → s ≡ number_of (line_tests n kind input output) → r ≡ s
line-refusal-one n kind input output = one

pub line-refusal-result-one : (n kind input output : ℕ) {r s : Result Unit Refusal} → number_in r ≡ number_of (line_tests n kind input output)
    → number_in s ≡ number_of (line_tests n kind input output) → r ≡ s
line-refusal-result-one n kind input output {r} {s} p q = result-one r s (line-refusal-one n kind input output p q)

-- `refused`, `accepted`
pub refused-one : (number place : ℕ) {r s : Answer} → r ≡ refused number place → s ≡ refused number place → r ≡ s
refused-one number place = one

pub accepted-one : (rails : ℕ) {r s : Answer} → r ≡ accepted rails → s ≡ accepted rails → r ≡ s
accepted-one rails = one

-- `is_kept`
pub kept-one : (kind n k : ℕ) {r s : Bool} → r ≡ is_kept kind n k → s ≡ is_kept kind n k → r ≡ s
kept-one kind n k = one
