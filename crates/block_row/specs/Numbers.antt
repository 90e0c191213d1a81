-- Document 02, Wish 5: the list of shapes and the answers as numbers, as the structs `Shape` and `Answer` have them: seven to a
-- shape, three to an answer.
use Rattle.std.specs.Prelude.{List, [], ◌∷◌, ◌++◌, ℕ, zero, suc, ◌+◌, ◌*◌, get_or, set}
use Rattle.meaning.specs.declared.Shape.{Shape}
use Rattle.meaning.specs.declared.Answer.{Answer}

abbrev pub row_shape : List ℕ → ℕ → Shape
row_shape l k =
    record {
      width = get_or l (k * 7) 0;
      height = get_or l (k * 7 + 1) 0;
      horizontal = get_or l (k * 7 + 2) 0;
      vertical = get_or l (k * 7 + 3) 0;
      depth = get_or l (k * 7 + 4) 0;
      columns = get_or l (k * 7 + 5) 0;
      rows = get_or l (k * 7 + 6) 0;
    }

-- the first n shapes
unfoldable pub shapes_of : ℕ → List ℕ → List Shape
shapes_of zero l = []
shapes_of (suc n) l = shapes_of n l ++ (row_shape l n ∷ [])

abbrev pub answer_at : List ℕ → ℕ → Answer
answer_at l k = record { number = get_or l (k * 3) 0; place = get_or l (k * 3 + 1) 0; rails = get_or l (k * 3 + 2) 0 }

-- the numbers with one answer put in its place, and with several from place k on; all others stay
abbrev pub put_at : List ℕ → ℕ → Answer → List ℕ
put_at l k a = set (set (set l (k * 3) a.number) (k * 3 + 1) a.place) (k * 3 + 2) a.rails

unfoldable pub put_all : List Answer → ℕ → List ℕ → List ℕ
put_all [] k l = l
put_all (a ∷ more) k l = put_all more (suc k) (put_at l k a)
