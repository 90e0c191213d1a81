-- Document 01, "Numbers handed back when a call is turned down": what a call that its tests let pass was handed, and what is
-- known of a plan then.
use Rattle.std.specs.Prelude.{◌≡◌, Bool, true, List, ℕ, ◌*◌, ◌≤◌, ℤ, nat_abs, length}
use Rattle.algebra.specs.Lists.{at}
use Rattle.meaning.specs.declared.Shape.{Shape}
use Rattle.meaning.specs.Shape.{is_size, is_kind, has_line, is_depth, is_long_depth, keeps}
use Rattle.meaning.specs.Plan.{Plan}

-- past 1 to 5 and 20: a shape, by what its call takes for a width, a height and a depth
pub record TakenBy (wide high deep : Bool) (sh : Shape) : Type 0 where
  pub width : wide ≡ true
  pub height : high ≡ true
  pub horizontal : is_kind sh.horizontal ≡ true
  pub vertical : is_kind sh.vertical ≡ true
  pub depth : deep ≡ true
  pub kept : keeps sh ≡ true

-- past 6 and 7 too: a block, its input and its output
pub record TakenBlockBy (deep : Bool) (sh : Shape) (input output : List ℤ) : Type 0 where
  pub taken : TakenBy (is_size sh.width) (is_size sh.height) deep sh
  pub long : length input ≡ sh.width * sh.height
  pub room : length output ≡ sh.width * sh.height

abbrev pub Taken : Shape → Type 0
Taken sh = TakenBy (is_size sh.width) (is_size sh.height) (is_depth sh.depth) sh

abbrev pub TakenBlock : Shape → List ℤ → List ℤ → Type 0
TakenBlock sh input output = TakenBlockBy (is_depth sh.depth) sh input output

-- by the call of long numbers
abbrev pub TakenLong : Bool → Shape → Type 0
TakenLong extended sh = TakenBy (is_size sh.width) (is_size sh.height) (is_long_depth extended sh.depth) sh

abbrev pub TakenLongBlock : Bool → Shape → List ℤ → List ℤ → Type 0
TakenLongBlock extended sh input output = TakenBlockBy (is_long_depth extended sh.depth) sh input output

-- past 1, 3, 6 and 7: a line, by the lengths of its input and its output
pub record TakenLine (n kind input output : ℕ) : Type 0 where
  pub size : is_size n ≡ true
  pub known : is_kind kind ≡ true
  pub long : input ≡ n
  pub room : output ≡ n

-- a plan by lines that there are, of which no more is kept than there is
pub record Sized (p : Plan) : Type 0 where
  pub along : has_line p.horizontal p.width ≡ true
  pub down : has_line p.vertical p.height ≡ true
  pub columns : p.columns ≤ p.width
  pub rows : p.rows ≤ p.height

-- "of size at most": no number of a list is above M in size
abbrev pub NoneAbove : ℕ → List ℤ → Type 0
NoneAbove M l = (k : ℕ) → nat_abs (at l k) ≤ M
