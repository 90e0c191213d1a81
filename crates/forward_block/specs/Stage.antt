-- Document 01, "Blocks", "Forward": what the stages are given, and rows of rounded sums in the first places of the rows of a buffer.
use Rattle.std.specs.Prelude.{◌≡◌, List, ℕ, ◌+◌, ◌*◌, ◌/◌, ◌<◌, ◌≤◌, length, ℤ}
use Rattle.std.specs.Int.{w16}
use Rattle.std.proofs.Common.{SFits}
use Rattle.algebra.specs.Shift.{nearest}
use Rattle.algebra.specs.Lists.{at}
use Rattle.meaning.specs.declared.Shape.{Shape}
use Rattle.meaning.specs.Weights.{weight}
use Rattle.meaning.specs.Taken.{Taken, NoneAbove}
use Rattle.meaning.specs.Forward.{most_residual}
use Rattle.product.specs.Product.{Laid, line_sum, Lines}

-- residuals that tests 1 to 5, 20, 6 and 9 let pass
pub record Residuals (sh : Shape) (r : List ℤ) : Type 0 where
  pub taken : Taken sh
  pub long : length r ≡ sh.width * sh.height
  pub small : NoneAbove (most_residual sh) r

-- output x of line y, rounded
abbrev pub line_value : ℕ → List ℤ → ℕ → ℕ → List ℤ → ℕ → ℕ → ℕ → ℕ → ℤ
line_value pairs a step gap b apart shift x y = nearest shift (line_sum a (step * y) gap b apart pairs x)

-- `some` lines of `kept` outputs, none of which leaves 16 bits, and rows of `wide` for them in `room` numbers
pub record PutLines (pairs : ℕ) (a : List ℤ) (step gap : ℕ) (b : List ℤ) (apart kept some wide shift room : ℕ) : Type 0 where
  pub lines : Lines some kept pairs a step gap b apart
  pub few : kept ≤ 32
  pub narrow : kept ≤ wide
  pub held : some * wide ≤ room
  pub low : 0 < shift
  pub high : shift ≤ 20
  pub fits : (x y : ℕ) → x < kept → y < some → SFits w16 (line_value pairs a step gap b apart shift x y)

-- f x y stands in each of the first `kept` columns of `some` rows; all else is as it was
pub record Stage (kept wide some : ℕ) (f : ℕ → ℕ → ℤ) (a a₀ : List ℤ) : Type 0 where
  pub long : length a ≡ length a₀
  pub done : (x y : ℕ) → x < kept → y < some → at a (x + y * wide) ≡ f x y
  pub beside : (x y : ℕ) → kept ≤ x → x < wide → y < some → at a (x + y * wide) ≡ at a₀ (x + y * wide)
  pub below : (k : ℕ) → some * wide ≤ k → at a k ≡ at a₀ k

-- the weights of a stage of n points, all of them
abbrev pub Outputs : ℕ → ℕ → List ℤ → Type 0
Outputs kind n t = Laid n (n / 2) 2 (2 * n) (λ i j. weight kind n j i) t

-- those of both stages, and room for the pairs of rows between them
pub record Rooms (sh : Shape) (t u : List ℤ) (room : ℕ) : Type 0 where
  pub along : Outputs sh.horizontal sh.width t
  pub down : Outputs sh.vertical sh.height u
  pub between : sh.height * sh.columns ≤ room
