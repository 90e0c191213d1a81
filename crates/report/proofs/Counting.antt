-- What a block does to the totals, case by case. Assumes nothing.
use Rattle.std.proofs.Common.{◌≡◌, ℕ, ◌<◌, ◌≤◌, List, ℤ, eq-eqb, ne_eqb, le-leb}
use borrow.Author.Tests.{lt-leb}
use Rattle.meaning.specs.declared.Shape.{Shape}
use Rattle.meaning.specs.Answer.{refused}
use Rattle.forward_and_back.specs.Trip.{trip_answer, rail_count, largest, squares}
use Rattle.report.specs.Totals.{total, plus, place, refused_place, given_place, entered, counted, add_outcome}

module _ (sh : Shape) (r : List ℤ) (t : List ℕ) where
  pub counted-refused : ((trip_answer sh r).number ≡ 0 → ⊥) → counted sh r t ≡ plus refused_place 1 t
  unfolding counted
  counted-refused n = rw (ne_eqb (trip_answer sh r).number 0 n)

  pub counted-taken : (trip_answer sh r).number ≡ 0 → counted sh r t ≡ entered (place sh) (rail_count sh r) (largest sh r) (squares sh r) t
  unfolding counted
  counted-taken e = rw (eq-eqb (trip_answer sh r).number 0 e)

module _ (t : List ℕ) (sh : Shape) (r : List ℤ) where
  pub add-limit : 65536 ≤ total t given_place → add_outcome t sh r ≡ (refused 22 0, t)
  unfolding add_outcome
  add-limit h = rw (le-leb 65536 (total t given_place) h)

  pub add-more : total t given_place < 65536 → add_outcome t sh r ≡ (trip_answer sh r, plus given_place 1 (counted sh r t))
  unfolding add_outcome
  add-more h = rw (lt-leb 65536 (total t given_place) h)
