-- What one block does to one total: below the limit, to each of the four of a class, to the refused and to the given. Assumes
-- nothing.
use Rattle.std.proofs.Common.{◌≡◌, ℕ, ◌+◌, ◌%◌, ◌^◌, ◌<◌, max, Bool, true, false, List, length, ℤ, refl, ap, ◌∙◌, mod-eq_of_lt, arith, length-set, get_or-set_other, get_or-set_same, eqb-true}
use borrow.Author.Tests.{eqb-false}
use Rattle.meaning.specs.declared.Shape.{Shape}
use Rattle.meaning.specs.declared.Answer.{Answer}
use Rattle.forward_and_back.specs.Trip.{trip_answer, rail_count, largest, squares}
use Rattle.report.specs.Totals.{total, plus, raised, class, place, entered, counted, refused_place, given_place, add_outcome}
use Rattle.report.specs.Given.{GivenBlock, taken}
use Rattle.report.proofs.Counting.{counted-refused, counted-taken, add-more}

-- ---- the four of a block
module _ (i rails far squared : ℕ) (t : List ℕ) where
  abbrev t0 : List ℕ
  t0 = plus i 1 t

  abbrev t1 : List ℕ
  t1 = plus (i + 1) rails t0

  abbrev t2 : List ℕ
  t2 = raised (i + 2) far t1

  entered-long : length (entered i rails far squared t) ≡ length t
  unfolding entered
  entered-long = simp length-set

  -- elsewhere nothing changes
  entered-other : (j : ℕ) → ((k : ℕ) → k < 4 → j ≡ i + k → ⊥) → total (entered i rails far squared t) j ≡ total t j
  unfolding entered
  entered-other j d =
      get_or-set_other t2 (i + 3) j ((total t2 (i + 3) + squared) % 2 ^ 64) 0 (d 3 (omega arith))
      ∙ get_or-set_other t1 (i + 2) j (max (total t1 (i + 2)) far) 0 (d 2 (omega arith))
      ∙ get_or-set_other t0 (i + 1) j ((total t0 (i + 1) + rails) % 2 ^ 64) 0 (d 1 (omega arith))
      ∙ get_or-set_other t i j ((total t i + 1) % 2 ^ 64) 0 (λ q. d 0 (omega arith) (omega (arith, q)))

  pub record Here : Type 0 where
    pub first : total (entered i rails far squared t) (i + 0) ≡ (total t (i + 0) + 1) % 2 ^ 64
    pub second : total (entered i rails far squared t) (i + 1) ≡ (total t (i + 1) + rails) % 2 ^ 64
    pub third : total (entered i rails far squared t) (i + 2) ≡ max (total t (i + 2)) far
    pub fourth : total (entered i rails far squared t) (i + 3) ≡ (total t (i + 3) + squared) % 2 ^ 64

  pub here : i + 3 < length t → Here
  unfolding entered
  here h =
      let l0 : length t0 ≡ length t = length-set t i _ in
      let l1 : length t1 ≡ length t = length-set t0 (i + 1) _ ∙ l0 in
      let l2 : length t2 ≡ length t = length-set t1 (i + 2) _ ∙ l1 in
      let z : i + 0 ≡ i = omega arith in
      record {
        first = rw z (get_or-set_other t2 (i + 3) i _ 0 (λ q. omega arith) ∙ get_or-set_other t1 (i + 2) i _ 0 (λ q. omega arith) ∙ get_or-set_other t0 (i + 1) i _ 0 (λ q. omega arith) ∙ get_or-set_same t i _ 0 (omega arith));
        second = get_or-set_other t2 (i + 3) (i + 1) _ 0 (λ q. omega arith) ∙ get_or-set_other t1 (i + 2) (i + 1) _ 0 (λ q. omega arith) ∙ get_or-set_same t0 (i + 1) _ 0 (omega arith)
            ∙ ap (λ (x : ℕ). (x + rails) % 2 ^ 64) (get_or-set_other t i (i + 1) _ 0 (λ q. omega arith));
        third = get_or-set_other t2 (i + 3) (i + 2) _ 0 (λ q. omega arith) ∙ get_or-set_same t1 (i + 2) _ 0 (omega arith)
            ∙ ap (λ (x : ℕ). max x far) (get_or-set_other t0 (i + 1) (i + 2) _ 0 (λ q. omega arith) ∙ get_or-set_other t i (i + 2) _ 0 (λ q. omega arith));
        fourth = get_or-set_same t2 (i + 3) _ 0 (omega arith)
            ∙ ap (λ (x : ℕ). (x + squared) % 2 ^ 64) (get_or-set_other t1 (i + 2) (i + 3) _ 0 (λ q. omega arith) ∙ get_or-set_other t0 (i + 1) (i + 3) _ 0 (λ q. omega arith) ∙ get_or-set_other t i (i + 3) _ 0 (λ q. omega arith));
      }

-- ---- a block that is added
abbrev pub with_block : List ℕ → GivenBlock → List ℕ
with_block t b = (add_outcome t b.shape b.residuals).1

-- 578 totals, and room for a block
pub record Room (t : List ℕ) : Type 0 where
  pub long : length t ≡ 578
  pub more : total t given_place < 65536

pub taken-zero : (b : GivenBlock) → taken b ≡ true → (trip_answer b.shape b.residuals).number ≡ 0
taken-zero b e = eqb-true (trip_answer b.shape b.residuals).number 0 e

not-zero : (b : GivenBlock) → taken b ≡ false → (trip_answer b.shape b.residuals).number ≡ 0 → ⊥
not-zero b e = eqb-false (trip_answer b.shape b.residuals).number 0 e

module _ (t : List ℕ) (b : GivenBlock) (m : Room t) where
  abbrev sh : Shape
  sh = b.shape

  abbrev r : List ℤ
  r = b.residuals

  with-block-is : with_block t b ≡ plus given_place 1 (counted sh r t)
  with-block-is = ap (λ (o : Answer × List ℕ). o.1) (add-more t sh r m.more)

  with-block-other : (i : ℕ) → (i ≡ given_place → ⊥) → total (with_block t b) i ≡ total (counted sh r t) i
  with-block-other i d = ap (λ (l : List ℕ). total l i) with-block-is ∙ get_or-set_other (counted sh r t) given_place i ((total (counted sh r t) given_place + 1) % 2 ^ 64) 0 d

  -- not refused
  module _ (y : taken b ≡ true) where
    entering : counted sh r t ≡ entered (place sh) (rail_count sh r) (largest sh r) (squares sh r) t
    entering = counted-taken sh r t (taken-zero b y)

    -- in another class, and among the refused and the given, nothing changes
    pub taken-other : (i : ℕ) → (i ≡ given_place → ⊥) → ((k : ℕ) → k < 4 → i ≡ place sh + k → ⊥) → total (with_block t b) i ≡ total t i
    taken-other i g d = with-block-other i g ∙ ap (λ (l : List ℕ). total l i) entering ∙ entered-other (place sh) (rail_count sh r) (largest sh r) (squares sh r) t i d

    pub taken_here : (j : ℕ) (g : ℕ → ℕ) → place sh + j < 576 → total (entered (place sh) (rail_count sh r) (largest sh r) (squares sh r) t) (place sh + j) ≡ g (total t (place sh + j))
        → total (with_block t b) (place sh + j) ≡ g (total t (place sh + j))
    taken_here j g h e = with-block-other (place sh + j) (λ q. omega (arith, q, h)) ∙ ap (λ (l : List ℕ). total l (place sh + j)) entering ∙ e

    taken-long : length (counted sh r t) ≡ length t
    taken-long = ap length entering ∙ entered-long (place sh) (rail_count sh r) (largest sh r) (squares sh r) t

  -- refused
  module _ (n : taken b ≡ false) where
    apart-only : counted sh r t ≡ plus refused_place 1 t
    apart-only = counted-refused sh r t (not-zero b n)

    pub refused-other : (i : ℕ) → (i ≡ given_place → ⊥) → (i ≡ refused_place → ⊥) → total (with_block t b) i ≡ total t i
    refused-other i g d = with-block-other i g ∙ ap (λ (l : List ℕ). total l i) apart-only ∙ get_or-set_other t refused_place i ((total t refused_place + 1) % 2 ^ 64) 0 d

    pub refused-here : total (with_block t b) refused_place ≡ (total t refused_place + 1) % 2 ^ 64
    refused-here =
        with-block-other refused_place (λ q. omega (arith, q)) ∙ ap (λ (l : List ℕ). total l refused_place) apart-only
        ∙ get_or-set_same t refused_place ((total t refused_place + 1) % 2 ^ 64) 0 (omega (arith, m.long))

    refused-long : length (counted sh r t) ≡ length t
    refused-long = ap length apart-only ∙ length-set t refused_place ((total t refused_place + 1) % 2 ^ 64)

pub either : (P : Type 0) (b : Bool) → (b ≡ true → P) → (b ≡ false → P) → P
either P true f g = f refl
either P false f g = g refl

module _ (t : List ℕ) (b : GivenBlock) (m : Room t) where
  counted-long : length (counted b.shape b.residuals t) ≡ length t
  counted-long = either (length (counted b.shape b.residuals t) ≡ length t) (taken b) (taken-long t b m) (refused-long t b m)

  pub with-block-long : length (with_block t b) ≡ 578
  with-block-long = ap length (with-block-is t b m) ∙ length-set (counted b.shape b.residuals t) given_place _ ∙ counted-long ∙ m.long

  -- the given, which no other change touches
  counted-given : taken b ≡ true → class b.shape < 144 → total (counted b.shape b.residuals t) given_place ≡ total t given_place
  counted-given y c =
      ap (λ (l : List ℕ). total l given_place) (entering t b m y)
      ∙ entered-other (place b.shape) (rail_count b.shape b.residuals) (largest b.shape b.residuals) (squares b.shape b.residuals) t given_place (λ k h q. omega (arith, q, h, c))

  refused-given : taken b ≡ false → total (counted b.shape b.residuals t) given_place ≡ total t given_place
  refused-given n = ap (λ (l : List ℕ). total l given_place) (apart-only t b m n) ∙ get_or-set_other t refused_place given_place _ 0 (λ q. omega (arith, q))

  pub with-block-given : (taken b ≡ true → class b.shape < 144) → total (with_block t b) given_place ≡ total t given_place + 1
  with-block-given c =
      let k = counted b.shape b.residuals t in
      let same : total k given_place ≡ total t given_place = either (total k given_place ≡ total t given_place) (taken b) (λ y. counted-given y (c y)) refused-given in
      let put : total (with_block t b) given_place ≡ (total k given_place + 1) % 2 ^ 64 = ap (λ (l : List ℕ). total l given_place) (with-block-is t b m) ∙ get_or-set_same k given_place _ 0 (omega (arith, counted-long, m.long)) in
      put ∙ ap (λ (x : ℕ). (x + 1) % 2 ^ 64) same ∙ mod-eq_of_lt (omega (arith, m.more))
