-- "Each total equals a sum, or a maximum, over the blocks given, refused blocks being counted apart": after any list of at most
-- 65,536 blocks from the empty totals, of each size and pair of kinds (`report`), of the refused (`refused-total`) and of the given
-- (`given-total`). No sum leaves 64 bits: what stands there is the sum itself. Assumes nothing.
use Rattle.std.proofs.Common.{◌≡◌, ℕ, ◌+◌, ◌*◌, ◌%◌, ◌^◌, ◌<◌, ◌≤◌, max, Bool, true, false, not, ◌&&◌, eqb, List, [], ◌∷◌, length, sym, ap, ◌∙◌, subst, mul-le-mul, arith, eq-eqb, ne_eqb, eqb-true}
use native.Mathlib.Decide.{ℕ_discrete}
use borrow.Author.Tests.{eqb-false, not-true, not-false}
use lib.ListN.{get_or-replicate, length-replicate}
use Rattle.meaning.specs.declared.Shape.{Shape}
use Rattle.meaning.proofs.Cases.{and_cases, and_so}
use Rattle.forward_and_back.specs.Trip.{rail_count, largest, squares}
use Rattle.report.specs.Totals.{empty, total, class, place, refused_place, given_place}
use Rattle.report.specs.Given.{GivenBlock, after_all, totals_of, taken, alike, among, sum_over, max_over}
use Rattle.report.proofs.Fits.{rails-in, squares-fit, took-given}
use Rattle.report.proofs.Places.{Class, class_of, class-in, class-apart, class_same, alike_same, same_alike}
use Rattle.report.proofs.Cells.{Room, Here, here, with_block, with-block-given, taken-other, taken_here, refused-other, refused-here, either}
use Rattle.report.proofs.Sums.{taken-class, Rooms, room, rooms-next, adds, raises, sum-small}

-- ---- the empty totals
pub empty-at : (i : ℕ) → i < 578 → total empty i ≡ 0
unfolding empty
empty-at i h = get_or-replicate 578 i 0 0 h

pub empty-rooms : (n : ℕ) → n ≤ 65536 → Rooms empty n
unfolding empty
empty-rooms n h = record { long = length-replicate {A = ℕ} 578 0; more = omega (arith, empty-at given_place (omega arith), h) }

-- ---- a class by its number
abbrev pub in_class : ℕ → GivenBlock → Bool
in_class v b = taken b && eqb (class b.shape) v

module _ (v : ℕ) (h : v < 144) where
  -- the number of a block's class
  is-class : (b : GivenBlock) → in_class v b ≡ true → class b.shape ≡ v
  is-class b e = eqb-true (class b.shape) v (and_cases (taken b) (eqb (class b.shape) v) e).1

  is-taken : (b : GivenBlock) → in_class v b ≡ true → taken b ≡ true
  is-taken b e = (and_cases (taken b) (eqb (class b.shape) v) e).0

  other : (j : ℕ) → j < 4 → (t : List ℕ) (b : GivenBlock) → Room t → in_class v b ≡ false → total (with_block t b) (v * 4 + j) ≡ total t (v * 4 + j)
  other j l t b m e =
      either (total (with_block t b) (v * 4 + j) ≡ total t (v * 4 + j)) (taken b)
      (λ y.
      let d = and_so (taken b) (eqb (class b.shape) v) e y in
      taken-other t b m y (v * 4 + j) (λ q. omega (arith, q, h, l))
      (λ k i q. eqb-false (class b.shape) v d (omega (arith, q, i, l))))
      (λ n. refused-other t b m n (v * 4 + j) (λ q. omega (arith, q, h, l)) (λ q. omega (arith, q, h, l)))

  mine : (t : List ℕ) (b : GivenBlock) → Room t → in_class v b ≡ true → Here (place b.shape) (rail_count b.shape b.residuals) (largest b.shape b.residuals) (squares b.shape b.residuals) t
  mine t b m e =
      here (place b.shape) (rail_count b.shape b.residuals) (largest b.shape b.residuals) (squares b.shape b.residuals) t
      (omega (arith, m.long, is-class b e, h))

  -- one of the four, brought to the class's place
  own : (j : ℕ) (g : ℕ → ℕ) → j < 4 → (t : List ℕ) (b : GivenBlock) → Room t → (e : in_class v b ≡ true)
      → (total (with_block t b) (place b.shape + j) ≡ g (total t (place b.shape + j))) → total (with_block t b) (v * 4 + j) ≡ g (total t (v * 4 + j))
  own j g l t b m e s = subst (λ (u : ℕ). total (with_block t b) (u * 4 + j) ≡ g (total t (u * 4 + j))) (is-class b e) s

  below : (b : GivenBlock) → in_class v b ≡ true → (j : ℕ) → j < 4 → place b.shape + j < 576
  below b e j l = omega (arith, is-class b e, h, l)

  blocks-in : (t : List ℕ) (b : GivenBlock) → Room t → in_class v b ≡ true → total (with_block t b) (v * 4 + 0) ≡ (total t (v * 4 + 0) + 1) % 2 ^ 64
  blocks-in t b m e =
      let g : ℕ → ℕ = λ x. (x + 1) % 2 ^ 64 in
      own 0 g (omega arith) t b m e (taken_here t b m (is-taken b e) 0 g (below b e 0 (omega arith)) (mine t b m e).first)

  rails-sum : (t : List ℕ) (b : GivenBlock) → Room t → in_class v b ≡ true → total (with_block t b) (v * 4 + 1) ≡ (total t (v * 4 + 1) + rail_count b.shape b.residuals) % 2 ^ 64
  rails-sum t b m e =
      let g : ℕ → ℕ = λ x. (x + rail_count b.shape b.residuals) % 2 ^ 64 in
      own 1 g (omega arith) t b m e (taken_here t b m (is-taken b e) 1 g (below b e 1 (omega arith)) (mine t b m e).second)

  largest-max : (t : List ℕ) (b : GivenBlock) → Room t → in_class v b ≡ true → total (with_block t b) (v * 4 + 2) ≡ max (total t (v * 4 + 2)) (largest b.shape b.residuals)
  largest-max t b m e =
      let g : ℕ → ℕ = λ x. max x (largest b.shape b.residuals) in
      own 2 g (omega arith) t b m e (taken_here t b m (is-taken b e) 2 g (below b e 2 (omega arith)) (mine t b m e).third)

  squares-sum : (t : List ℕ) (b : GivenBlock) → Room t → in_class v b ≡ true → total (with_block t b) (v * 4 + 3) ≡ (total t (v * 4 + 3) + squares b.shape b.residuals) % 2 ^ 64
  squares-sum t b m e =
      let g : ℕ → ℕ = λ x. (x + squares b.shape b.residuals) % 2 ^ 64 in
      own 3 g (omega arith) t b m e (taken_here t b m (is-taken b e) 3 g (below b e 3 (omega arith)) (mine t b m e).fourth)

  -- ---- over a list
  module _ (bs : List GivenBlock) (few : length bs ≤ 65536) where
    -- sums of numbers up to B fit
    fitting : (f : GivenBlock → ℕ) (B : ℕ) → ((b : GivenBlock) → in_class v b ≡ true → f b ≤ B) → B ≤ 72584402043904 → sum_over (in_class v) f bs < 2 ^ 64
    fitting f B s l =
        let p : length bs * B ≤ 65536 * 72584402043904 = mul-le-mul few l in
        omega (arith, sum-small (in_class v) f B s bs, p)

    summed : (j : ℕ) → j < 4 → (f : GivenBlock → ℕ) → ((t : List ℕ) (b : GivenBlock) → Room t → in_class v b ≡ true → total (with_block t b) (v * 4 + j) ≡ (total t (v * 4 + j) + f b) % 2 ^ 64)
        → sum_over (in_class v) f bs < 2 ^ 64 → total (totals_of bs) (v * 4 + j) ≡ sum_over (in_class v) f bs
    summed j l f inside fits =
        let z = empty-at (v * 4 + j) (omega (arith, h, l)) in
        adds (v * 4 + j) (in_class v) f (other j l) inside bs empty (empty-rooms (length bs) few) (omega (arith, z, fits)) ∙ omega (arith, z)

    pub blocks-of : total (totals_of bs) (v * 4 + 0) ≡ sum_over (in_class v) (λ b. 1) bs
    blocks-of = summed 0 (omega arith) (λ b. 1) blocks-in (fitting (λ b. 1) 1 (λ b e. omega arith) (omega arith))

    pub rails-of : total (totals_of bs) (v * 4 + 1) ≡ sum_over (in_class v) (λ b. rail_count b.shape b.residuals) bs
    rails-of =
        summed 1 (omega arith) (λ b. rail_count b.shape b.residuals) rails-sum
        (fitting (λ b. rail_count b.shape b.residuals) 1024 (λ b e. rails-in b.shape b.residuals (took-given b (is-taken b e))) (omega arith))

    pub squares-of : total (totals_of bs) (v * 4 + 3) ≡ sum_over (in_class v) (λ b. squares b.shape b.residuals) bs
    squares-of =
        summed 3 (omega arith) (λ b. squares b.shape b.residuals) squares-sum
        (fitting (λ b. squares b.shape b.residuals) 72584402043904 (λ b e. squares-fit b.shape b.residuals (took-given b (is-taken b e))) (omega arith))

    pub largest-of : total (totals_of bs) (v * 4 + 2) ≡ max_over (in_class v) (λ b. largest b.shape b.residuals) bs
    largest-of =
        let f : GivenBlock → ℕ = λ b. largest b.shape b.residuals in
        let z = empty-at (v * 4 + 2) (omega (arith, h)) in
        raises (v * 4 + 2) (in_class v) f (other 2 (omega arith)) largest-max bs empty (empty-rooms (length bs) few) ∙ omega (arith, z)

-- ---- the refused and the given
refused-stays : (t : List ℕ) (b : GivenBlock) → Room t → not (taken b) ≡ false → total (with_block t b) refused_place ≡ total t refused_place
refused-stays t b m e =
    let y = not-false (taken b) e in
    taken-other t b m y refused_place (λ q. omega (arith, q)) (λ k l q. omega (arith, q, l, taken-class b y))

refused-more : (t : List ℕ) (b : GivenBlock) → Room t → not (taken b) ≡ true → total (with_block t b) refused_place ≡ (total t refused_place + 1) % 2 ^ 64
refused-more t b m e = refused-here t b m (not-true (taken b) e)

given-more : (bs : List GivenBlock) (t : List ℕ) → Rooms t (length bs) → total (after_all t bs) given_place ≡ total t given_place + length bs
unfolding after_all
given-more [] t m = omega arith
given-more (b ∷ bs) t m = given-more bs (with_block t b) (rooms-next b m) ∙ omega (arith, with-block-given t b (room m) (taken-class b))

module _ (bs : List GivenBlock) (few : length bs ≤ 65536) where
  pub refused-total : total (totals_of bs) refused_place ≡ sum_over (λ b. not (taken b)) (λ b. 1) bs
  refused-total =
      let z = empty-at refused_place (omega arith) in
      let s = sum-small (λ b. not (taken b)) (λ b. 1) 1 (λ b e. omega arith) bs in
      adds refused_place (λ b. not (taken b)) (λ b. 1) refused-stays refused-more bs empty (empty-rooms (length bs) few) (omega (arith, z, s, few)) ∙ omega (arith, z)

  pub given-total : total (totals_of bs) given_place ≡ length bs
  given-total = given-more bs empty (empty-rooms (length bs) few) ∙ omega (arith, empty-at given_place (omega arith))

-- ---- a class by its sizes and kinds
module _ (sh : Shape) (c : Class sh) where
  same_test : (b : GivenBlock) → in_class (class sh) b ≡ among sh b
  same_test b =
      either (in_class (class sh) b ≡ among sh b) (taken b)
      (λ y. rw y (agree (class_of b.shape (took-given b y).taken) (ℕ_discrete (class b.shape) (class sh))))
      (λ n. rw n)
    where
      agree : Class b.shape → Dec (class b.shape ≡ class sh) → eqb (class b.shape) (class sh) ≡ alike sh b.shape
      agree d (yes e) = eq-eqb (class b.shape) (class sh) e ∙ sym (same_alike sh b.shape (class-apart sh b.shape c d e))
      agree d (no e) =
          ne_eqb (class b.shape) (class sh) e
          ∙ either (false ≡ alike sh b.shape) (alike sh b.shape) (λ y. absurd (e (class_same sh b.shape (alike_same sh b.shape y)))) (λ n. sym n)

  pub record Reported (bs : List GivenBlock) : Type 0 where
    pub blocks : total (totals_of bs) (place sh) ≡ sum_over (among sh) (λ b. 1) bs
    pub rails : total (totals_of bs) (place sh + 1) ≡ sum_over (among sh) (λ b. rail_count b.shape b.residuals) bs
    pub largest : total (totals_of bs) (place sh + 2) ≡ max_over (among sh) (λ b. largest b.shape b.residuals) bs
    pub squares : total (totals_of bs) (place sh + 3) ≡ sum_over (among sh) (λ b. squares b.shape b.residuals) bs

  pub report : (bs : List GivenBlock) → length bs ≤ 65536 → Reported bs
  report bs few =
      let h = class-in sh c in
      let first : place sh + 0 ≡ place sh = omega arith in
      record {
        blocks = ap (total (totals_of bs)) (sym first) ∙ blocks-of (class sh) h bs few ∙ (λ i. sum_over (λ b. same_test b i) (λ b. 1) bs);
        rails = rails-of (class sh) h bs few ∙ (λ i. sum_over (λ b. same_test b i) (λ b. rail_count b.shape b.residuals) bs);
        largest = largest-of (class sh) h bs few ∙ (λ i. max_over (λ b. same_test b i) (λ b. largest b.shape b.residuals) bs);
        squares = squares-of (class sh) h bs few ∙ (λ i. sum_over (λ b. same_test b i) (λ b. squares b.shape b.residuals) bs);
      }
