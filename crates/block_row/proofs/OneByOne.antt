-- "It equals the calls made one by one in order". Assumes nothing.
--   one_by_one:     the blocks of a list give what the calls give, each on its own stretch of both buffers
--   row-one-by-one: the same of the outcome of a row that was taken
--   answers_stay:   the numbers beyond the answers of the list stay
--   block-answer:   answer k of a row that was taken is the single call's, on its stretch
--   block-stretch:  .. and so is what its stretch of the output holds; where it is refused, that is what it held
--                   (`block_refused`)
use mathlib.Core.Path.{◌≡◌, refl, sym, ap, ◌∙◌, subst}
use mathlib.Core.List.{List, [], ◌∷◌, ◌++◌, append_assoc}
use Prim.Native.Nat.{ℕ, zero, suc, ◌+◌, ◌*◌, ◌≤◌, ◌<◌}
use native.Mathlib.Nat.{not-suc-le-zero, zero-add}
use native.Mathlib.Omega.{arith}
use borrow.Author.Tests.{le-ltb, eq-eqb}
use lib.IntN.{ℤ}
use lib.ListN.{length, take, drop, get_or, length-append, length-drop, take-append-drop}
use lib.Seq.{drop-drop, take_at, drop_at, length-take-le}
use Rattle.meaning.specs.declared.Shape.{Shape}
use Rattle.meaning.specs.declared.Answer.{Answer}
use Rattle.meaning.specs.Answer.{Outcome}
use Rattle.meaning.specs.Inverse.{inverse_outcome}
use Rattle.block_row.specs.Numbers.{answer_at, put_all}
use Rattle.block_row.specs.Row.{span, spans, blocks, row_answers, RowOutcome, row_outcome}
use Rattle.block_row.specs.Calls.{stretch, start_of, calls}
use Rattle.block_row.proofs.Answers.{beyond, answer_at_lem}
use Rattle.block_row.proofs.Lengths.{inverse-long, refused-keeps}
use Rattle.block_row.proofs.Passed.{Passed, passed-by}

-- the outcome of one block at a place of both buffers
abbrev pub block_at : Shape → ℕ → List ℤ → List ℤ → Outcome
block_at sh start c out = inverse_outcome sh (stretch start (span sh) c) (stretch start (span sh) out)

-- a call leaves as many numbers as its stretch has
left-long : (sh : Shape) (start : ℕ) (c out : List ℤ) → start + span sh ≤ length out → length (block_at sh start c out).1 ≡ span sh
left-long sh start c out h = inverse-long sh (stretch start (span sh) c) (stretch start (span sh) out) ∙ length-take-le (span sh) (drop start out) (omega (arith, length-drop start out))

-- ---- from any place on
from : (T : List Shape) (start : ℕ) (c out : List ℤ) → start + spans T ≤ length out
    → calls T start c out ≡ ((blocks T (drop start c) (drop start out)).0, take start out ++ (blocks T (drop start c) (drop start out)).1)
unfolding calls blocks spans
from [] start c out h = λ i. ([], sym (take-append-drop start out) i)
from (sh ∷ T) start c out h =
    let a = span sh in
    let ys = (block_at sh start c out).1 in
    let D = take start out in
    let O = drop (start + a) out in
    let d : length D ≡ start = length-take-le start out (omega arith) in
    let l : length (D ++ ys) ≡ start + a = length-append D ys ∙ omega (arith, left-long sh start c out (omega arith)) in
    let n : (start + a) + spans T ≤ length ((D ++ ys) ++ O) = omega (arith, length-append (D ++ ys) O, length-drop (start + a) out) in
    let t : take (start + a) ((D ++ ys) ++ O) ≡ D ++ ys = take_at (D ++ ys) O (start + a) l in
    let u : drop (start + a) ((D ++ ys) ++ O) ≡ drop a (drop start out) = drop_at (D ++ ys) O (start + a) l ∙ sym (drop-drop a start out) in
    let v : drop (start + a) c ≡ drop a (drop start c) = sym (drop-drop a start c) in
    let r = rw (t, u, v) at (from T (start + a) c ((D ++ ys) ++ O) n) in
    let R = blocks T (drop a (drop start c)) (drop a (drop start out)) in
    ap (λ (p : List Answer × List ℤ). ((block_at sh start c out).0 ∷ p.0, p.1)) r
    ∙ (λ i. ((block_at sh start c out).0 ∷ R.0, append_assoc D ys R.1 i))

pub one_by_one : (T : List Shape) (c out : List ℤ) → spans T ≤ length out → blocks T c out ≡ calls T 0 c out
one_by_one T c out h = sym (from T 0 c out (omega arith))

-- ---- block k: by the list
blocks-many : (T : List Shape) (c out : List ℤ) → length (blocks T c out).0 ≡ length T
unfolding blocks
blocks-many [] c out = refl
blocks-many (sh ∷ T) c out = ap suc (blocks-many T (drop (span sh) c) (drop (span sh) out))

list-answer : (T : List Shape) (k : ℕ) (d : Shape) (e : Answer) (c out : List ℤ) → k < length T
    → get_or (blocks T c out).0 k e ≡ (block_at (get_or T k d) (start_of T k) c out).0
unfolding blocks spans
list-answer [] k d e c out h = absurd (not-suc-le-zero h)
list-answer (sh ∷ T) zero d e c out h = refl
list-answer (sh ∷ T) (suc k) d e c out h =
    rw (drop-drop (start_of T k) (span sh) c, drop-drop (start_of T k) (span sh) out) at (list-answer T k d e (drop (span sh) c) (drop (span sh) out) (omega arith))

list-stretch : (T : List Shape) (k : ℕ) (d : Shape) (c out : List ℤ) → k < length T → spans T ≤ length out
    → stretch (start_of T k) (span (get_or T k d)) (blocks T c out).1 ≡ (block_at (get_or T k d) (start_of T k) c out).1
unfolding blocks spans
list-stretch [] k d c out h r = absurd (not-suc-le-zero h)
list-stretch (sh ∷ T) zero d c out h r =
    take_at (block_at sh 0 c out).1 (blocks T (drop (span sh) c) (drop (span sh) out)).1 (span sh) (left-long sh 0 c out (omega arith))
list-stretch (sh ∷ T) (suc k) d c out h r =
    let a = span sh in
    let s = start_of T k in
    let ys = (block_at sh 0 c out).1 in
    let R = (blocks T (drop a c) (drop a out)).1 in
    let l : length ys ≡ a = left-long sh 0 c out (omega arith) in
    let p : drop (a + s) (ys ++ R) ≡ drop s R = sym (drop-drop s a (ys ++ R)) ∙ ap (drop s) (drop_at ys R a l) in
    ap (take (span (get_or T k d))) p
    ∙ (rw (drop-drop s a c, drop-drop s a out) at (list-stretch T k d (drop a c) (drop a out) (omega arith) (omega (arith, length-drop a out))))

-- ---- of a row that was taken
module _ (shapes : List Shape) (answers : List ℕ) (c out : List ℤ) (number : (row_outcome shapes answers c out).0 ≡ 0) where
  row-passed : Passed shapes (length c) (length out)
  row-passed = passed-by (λ (o : RowOutcome). o.0) (λ number place. (number, (answers, out))) (0, row_answers shapes answers c out) (λ n place. refl) shapes (length c) (length out) number

  fits : spans shapes ≤ length out
  fits = omega (arith, row-passed.room)

  pub row_done : row_outcome shapes answers c out ≡ (0, row_answers shapes answers c out)
  row_done =
      let p = row-passed in
      rw (le-ltb 64 (length shapes) p.few, eq-eqb (length c) (spans shapes) p.long, eq-eqb (length out) (spans shapes) p.room)

  pub row-one-by-one : row_outcome shapes answers c out ≡ (0, (put_all (calls shapes 0 c out).0 0 answers, (calls shapes 0 c out).1))
  unfolding row_answers
  row-one-by-one = row_done ∙ ap (λ (p : List Answer × List ℤ). (0, (put_all p.0 0 answers, p.1))) (one_by_one shapes c out fits)

  pub answers_stay : (i : ℕ) → length shapes * 3 ≤ i → get_or (row_outcome shapes answers c out).1.0 i 0 ≡ get_or answers i 0
  unfolding row_answers
  answers_stay i h = ap (λ (o : RowOutcome). get_or o.1.0 i 0) row_done ∙ beyond (blocks shapes c out).0 0 answers i (omega (arith, blocks-many shapes c out))

  module _ (k : ℕ) (d : Shape) (h : k < length shapes) where
    -- the block's shape, and where its stretch starts
    abbrev pub shape : Shape
    shape = get_or shapes k d

    abbrev pub start : ℕ
    start = start_of shapes k

    -- there is room for the answers of all blocks
    pub block-answer : length shapes * 3 ≤ length answers → answer_at (row_outcome shapes answers c out).1.0 k ≡ (block_at shape start c out).0
    unfolding row_answers
    block-answer room =
        let made = (blocks shapes c out).0 in
        let e = (block_at shape start c out).0 in
        let at : answer_at (put_all made 0 answers) k ≡ get_or made k e
        = subst (λ (m : ℕ). answer_at (put_all made 0 answers) m ≡ get_or made k e) (zero-add k) (answer_at_lem made 0 k answers e (omega (arith, blocks-many shapes c out)) (omega (arith, blocks-many shapes c out))) in
        ap (λ (o : RowOutcome). answer_at o.1.0 k) row_done ∙ at ∙ list-answer shapes k d e c out h

    pub block-stretch : stretch start (span shape) (row_outcome shapes answers c out).1.1 ≡ (block_at shape start c out).1
    unfolding row_answers
    block-stretch = ap (λ (o : RowOutcome). stretch start (span shape) o.1.1) row_done ∙ list-stretch shapes k d c out h fits

    pub block_refused : length shapes * 3 ≤ length answers → ((answer_at (row_outcome shapes answers c out).1.0 k).number ≡ 0 → ⊥)
        → stretch start (span shape) (row_outcome shapes answers c out).1.1 ≡ stretch start (span shape) out
    block_refused room n =
        block-stretch
        ∙ refused-keeps shape (stretch start (span shape) c) (stretch start (span shape) out) (λ z. n (ap (λ (a : Answer). a.number) (block-answer room) ∙ z))
