-- The facts about running, once over any list: a list that the test by forms accepts is run on every input of size at most 32768
-- with no refusal, and its outputs are the full product. Assumes nothing.
use mathlib.Core.Path.{◌≡◌, refl, sym, ap, subst, ◌∙◌}
use mathlib.Core.Bool.{◌&&◌}
use mathlib.Core.List.{List, [], ◌∷◌, ◌++◌}
use Prim.Native.Nat.{ℕ, zero, suc, ◌+◌, ◌-◌, ◌*◌, ◌≤◌, ◌<◌}
use native.Mathlib.Nat.{add-zero, zero-add, add-suc, suc-add, le_of_suc-le-suc, not-suc-le-zero}
use native.Mathlib.Omega.{arith}
use lib.Dec.{T, ltb, eqb, ltb→lt, lt→ltb, eqb→eq}
use lib.IntN.{ℤ, pos, neg_ℤ, nat_abs, ◌+ℤ◌, ◌*ℤ◌}
use lib.ListN.{length, get_or, replicate}
use lib.Signed.{mag}
use Rattle.algebra.specs.Equal.{eq_z}
use Rattle.algebra.specs.Lists.{at, tabulate}
use Rattle.algebra.specs.Sum.{sum}
use Rattle.algebra.specs.Refusals.{Test, number_of}
use Rattle.algebra.proofs.Refusals.{passed_first}
use Rattle.algebra.proofs.Order.{mag-abs}
use Rattle.algebra.proofs.Sum.{sum-cong}
use Rattle.algebra.proofs.Lists.{tabulated, zeros-at}
use Rattle.algebra.proofs.Table.{and_left, and_right, eq_z→eq, all_to, all_to-at}
use Rattle.steps.specs.Steps.{Step, StepList, Done, Run, refused, ran, multiplying, run, first_state, finished, whole_run, limit}
use Rattle.steps.specs.Outcome.{Result, whole_numbers, untouched, list_tests, given, steps_outcome, fits32, Sixteen}
use Rattle.steps.proofs.Forms.{Form, forms, bound, sizes, units, worth, rows_are, is_product, gives}
use Rattle.steps.proofs.Worth.{worth-plus, worth-less, worth-times, worth-size, worth-sum, worth-unit}
use Rattle.steps.proofs.Follow.{Keeps, Alike, nil, cons, Same, Follows, alike-length, alike_at, whole_like}
use Rattle.steps.proofs.Count.{Holds, whole-count}
use Rattle.steps.proofs.Inside.{Ran, ran_first, any, Fit, each-moment}

module _ (xs : List ℤ) (small : Sixteen xs) where
  -- a cell of the run by forms, and the same cell of the run by numbers
  abbrev Worth : Form → ℤ → Type 0
  Worth u z = worth u xs ≡ z

  fits : (u : Form) (z : ℤ) → worth u xs ≡ z → T (ltb (sizes u) bound) → T (fits32 z)
  fits u z e t =
      let p : nat_abs (worth u xs) ≤ sizes u * 32768 = worth-size 32768 u xs small in
      let q : sizes u < bound = ltb→lt (sizes u) bound t in
      subst (λ (y : ℤ). T (fits32 y)) e (lt→ltb (mag (worth u xs)) 2147483648 (omega (arith, mag-abs (worth u xs))))

  keeps : Keeps forms whole_numbers Worth
  keeps =
      record {
        none = refl;
        plus = λ {a} {a'} {b} {b'} p q. worth-plus a a' xs ∙ (λ i. p i +ℤ q i);
        minus = λ {a} {a'} {b} {b'} p q. worth-plus a _ xs ∙ (λ i. p i +ℤ (worth-less a' xs ∙ ap neg_ℤ q) i);
        less = λ {a} {b} p. worth-less a xs ∙ ap neg_ℤ p;
        times = λ c {a} {b} p. worth-times c a xs ∙ ap (λ (z : ℤ). c *ℤ z) p;
        fits = λ {a} {b} p t. fits a b p t;
      }

  units-are : (i : ℕ) (ys : List ℤ) → ((k : ℕ) → at xs (i + k) ≡ at ys k) → Alike forms whole_numbers Worth (units i (length ys)) ys
  units-are i [] e = nil
  units-are i (y ∷ ys) e = cons (worth-unit i xs ∙ ap (at xs) (sym (add-zero i)) ∙ e 0) (units-are (suc i) ys (λ k. ap (at xs) (suc-add i k ∙ sym (add-suc i k)) ∙ e (suc k)))

  -- THE GENERAL THEOREM: a list that followed by forms is not refused is not refused on these inputs, and each output is what its form is worth
  pub worth-run : (p : StepList) → Follows forms whole_numbers Worth (Same forms whole_numbers Worth) (whole_run forms p (units 0 (length xs))) (whole_run whole_numbers p xs)
  worth-run p = whole_like forms whole_numbers Worth keeps p (units-are 0 xs (λ k. ap (at xs) (zero-add k)))

-- ---- rows that the test compared
rows_at : (W : ℕ → ℕ → ℤ) (n i : ℕ) (us : List Form) → T (rows_are W n i us) → (k : ℕ) → k < length us → (j : ℕ) → j < n → at (get_or us k []) j ≡ W (i + k) j
unfolding rows_are
rows_at W n i [] t k h j l = absurd (not-suc-le-zero h)
rows_at W n i (u ∷ us) t zero h j l =
    eq_z→eq (at u j) (W i j) (all_to-at n (λ j. eq_z (at u j) (W i j)) (and_left (all_to n (λ j. eq_z (at u j) (W i j))) (rows_are W n (suc i) us) t) j l)
    ∙ ap (λ (m : ℕ). W m j) (sym (add-zero i))
rows_at W n i (u ∷ us) t (suc k) h j l =
    rows_at W n (suc i) us (and_right (all_to n (λ j. eq_z (at u j) (W i j))) (rows_are W n (suc i) us) t) k (le_of_suc-le-suc h) j l
    ∙ ap (λ (m : ℕ). W m j) (suc-add i k ∙ sym (add-suc i k))

-- the cells that a run starts from fit
started : (xs : List ℤ) → Sixteen xs → (k : ℕ) → T (fits32 (at (first_state whole_numbers xs).values k))
started xs h = behind (limit - length xs) xs h
  where
    zeros : (m k : ℕ) → T (fits32 (at (replicate m (pos 0)) k))
    zeros m k = subst (λ (z : ℤ). T (fits32 z)) (sym (zeros-at m k)) tt

    behind : (m : ℕ) (xs : List ℤ) → Sixteen xs → (k : ℕ) → T (fits32 (at (xs ++ replicate m (pos 0)) k))
    behind m [] h k = zeros m k
    behind m (x ∷ xs) h zero = lt→ltb (mag x) 2147483648 (omega (arith, mag-abs x, h 0 (omega arith)))
    behind m (x ∷ xs) h (suc k) = behind m xs (λ k l. h (suc k) (omega arith)) k

-- "the full product": y[i] = sum over j of W[i][j]*x[j]
abbrev pub product : (ℕ → ℕ → ℤ) → ℕ → List ℤ → List ℤ
product W n xs = tabulate n (λ i. sum n (λ j. W i j *ℤ at xs j))

module _ (W : ℕ → ℕ → ℤ) (n : ℕ) (p : StepList) (xs out : List ℤ) (long : length xs ≡ n) (room : length out ≡ n) (small : Sixteen xs) where
  outs-are : (us : List Form) (zs : List ℤ) → T (eqb (length us) n && rows_are W n 0 us) → Alike forms whole_numbers (λ u z. worth u xs ≡ z) us zs → zs ≡ product W n xs
  outs-are us zs t a =
      let e : length us ≡ n = eqb→eq (length us) n (and_left (eqb (length us) n) (rows_are W n 0 us) t) in
      let r = and_right (eqb (length us) n) (rows_are W n 0 us) t in
      tabulated n zs (λ i. sum n (λ j. W i j *ℤ at xs j)) (sym (alike-length forms whole_numbers (λ u z. worth u xs ≡ z) (keeps xs small) a) ∙ e)
      (λ k h.
      sym (alike_at forms whole_numbers (λ u z. worth u xs ≡ z) (keeps xs small) a k)
      ∙ worth-sum (get_or us k []) xs
      ∙ ap (λ (m : ℕ). sum m (λ j. at (get_or us k []) j *ℤ at xs j)) long
      ∙ sum-cong n (λ j. at (get_or us k []) j *ℤ at xs j) (λ j. W k j *ℤ at xs j)
      (λ j l. ap (λ (z : ℤ). z *ℤ at xs j) (rows_at W n 0 us r k (subst (λ (m : ℕ). k < m) (sym e) h) j l ∙ ap (λ (m : ℕ). W m j) (zero-add k))))

  -- the run by forms goes through, so the run by numbers does, and ends on the rows
  finish : (r : Run (Done Form)) (s : Run (Done ℤ)) → T (is_product W n r) → Follows forms whole_numbers (λ u z. worth u xs ≡ z) (Same forms whole_numbers (λ u z. worth u xs ≡ z)) r s
      → Holds (λ d. d.count ≡ multiplying p.steps) s → Ran (λ d. given out (ran d) ≡ (record { number = 0; count = multiplying p.steps }, product W n xs)) s
  finish (refused k) s t f c = absurd t
  finish (ran d) (refused k) t f c = absurd f
  finish (ran d) (ran e) t f c = λ i. (record { number = 0; count = c i }, outs-are d.outs e.outs t f i)

  module _ (passes : T (gives W n p)) where
    abbrev tests : ℕ → ℕ → List Test
    tests input output = list_tests (length p.steps) p.cells p.inputs (length p.outs) input output

    runs : Ran (λ d. given out (ran d) ≡ (record { number = 0; count = multiplying p.steps }, product W n xs)) (whole_run whole_numbers p xs)
    unfolding gives
    runs =
        finish (whole_run forms p (units 0 n)) (whole_run whole_numbers p xs) (and_right (eqb (number_of (tests n n)) 0) (is_product W n (whole_run forms p (units 0 n))) passes)
        (subst (λ (m : ℕ). Follows forms whole_numbers (λ u z. worth u xs ≡ z) (Same forms whole_numbers (λ u z. worth u xs ≡ z)) (whole_run forms p (units 0 m)) (whole_run whole_numbers p xs)) long (worth-run xs small p))
        (whole-count whole_numbers p xs)

    not-refused : number_of (tests (length xs) (length out)) ≡ 0
    unfolding gives
    not-refused = rw (long, room) (eqb→eq (number_of (tests n n)) 0 (and_left (eqb (number_of (tests n n)) 0) (is_product W n (whole_run forms p (units 0 n))) passes))

    -- "a run equals the full product on every 16-bit input", and its count is the number in the list
    pub gives-product : steps_outcome p xs out ≡ (record { number = 0; count = multiplying p.steps }, product W n xs)
    unfolding steps_outcome
    gives-product =
        passed_first [] (λ number place. untouched out number) (given out (whole_run whole_numbers p xs)) (tests (length xs) (length out)) tt not-refused
        ∙ ended (whole_run whole_numbers p xs) runs
      where
        ended : (r : Run (Done ℤ)) {o : Result} → Ran (λ d. given out (ran d) ≡ o) r → given out r ≡ o
        ended (refused k) h = absurd h
        ended (ran d) h = h

    -- "with every cell inside 32 bits": after each of the steps, es being those that were taken
    pub gives-inside : (es fs : List Step) → p.steps ≡ es ++ fs → Ran (Fit whole_numbers p.cells) (run whole_numbers p.cells es (first_state whole_numbers xs))
    gives-inside es fs e =
        each-moment whole_numbers p.cells es fs (first_state whole_numbers xs) (record { fit = started xs small })
        (subst (λ (ss : List Step). Ran (λ t. Unit {0}) (run whole_numbers p.cells ss (first_state whole_numbers xs))) e
        (ran_first (λ t. Unit {0}) (λ d. given out (ran d) ≡ (record { number = 0; count = multiplying p.steps }, product W n xs))
        (run whole_numbers p.cells p.steps (first_state whole_numbers xs)) (λ st. finished whole_numbers p.cells p.outs st) (any (run whole_numbers p.cells p.steps (first_state whole_numbers xs))) runs))
