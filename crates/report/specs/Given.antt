-- Document 02, Wish 10: "Each total equals a sum, or a maximum, over the blocks given, refused blocks being counted apart. The order
-- of the blocks changes no total." Blocks one after the other from the empty totals, and what is said of any list of them.
use Rattle.std.specs.Prelude.{ℕ, ◌+◌, max, Bool, cond, ◌&&◌, List, [], ◌∷◌, ℤ, ◌==◌}
use Rattle.meaning.specs.declared.Shape.{Shape}
use Rattle.forward_and_back.specs.Trip.{trip_answer}
use Rattle.report.specs.Totals.{empty, add_outcome}

pub record GivenBlock : Type 0 where
  pub shape : Shape
  pub residuals : List ℤ

-- totals, and then blocks, the first of the list first
unfoldable pub after_all : List ℕ → List GivenBlock → List ℕ
after_all t [] = t
after_all t (b ∷ bs) = after_all (add_outcome t b.shape b.residuals).1 bs

-- the totals of a list of blocks
abbrev pub totals_of : List GivenBlock → List ℕ
totals_of bs = after_all empty bs

abbrev pub taken : GivenBlock → Bool
taken b = (trip_answer b.shape b.residuals).number == 0

-- "per size and kind": whether a block has the size and the kinds of a shape
abbrev pub alike : Shape → Shape → Bool
alike sh s = s.width == sh.width && (s.height == sh.height && (s.horizontal == sh.horizontal && s.vertical == sh.vertical))

-- a block of that size and kind that was not refused
abbrev pub among : Shape → GivenBlock → Bool
among sh b = taken b && alike sh b.shape

-- the sum, and the maximum, of a number for each block that a test lets pass
unfoldable pub sum_over : (GivenBlock → Bool) → (GivenBlock → ℕ) → List GivenBlock → ℕ
sum_over test f [] = 0
sum_over test f (b ∷ bs) = cond (test b) (f b) 0 + sum_over test f bs

unfoldable pub max_over : (GivenBlock → Bool) → (GivenBlock → ℕ) → List GivenBlock → ℕ
max_over test f [] = 0
max_over test f (b ∷ bs) = max (cond (test b) (f b) 0) (max_over test f bs)

-- the same blocks in another order
pub data Reordered : List GivenBlock → List GivenBlock → Type 0 where
  same : {bs : List GivenBlock} → Reordered bs bs
  under : {b : GivenBlock} {bs cs : List GivenBlock} → Reordered bs cs → Reordered (b ∷ bs) (b ∷ cs)
  swap : {b c : GivenBlock} {bs : List GivenBlock} → Reordered (b ∷ c ∷ bs) (c ∷ b ∷ bs)
  then : {bs cs ds : List GivenBlock} → Reordered bs cs → Reordered cs ds → Reordered bs ds
