-- The hunt for 27: a row at a time, over what is read. Assumes nothing.
use native.Mathlib.Omega.{arith}
use mathlib.Core.Path.{◌≡◌, refl, sym, ap, ◌∙◌, subst}
use mathlib.Core.Bool.{Bool, true, false, ◌&&◌}
use mathlib.Core.Logic.{◌⊎◌, inl, inr}
use mathlib.Core.List.{List}
use Prim.Native.Nat.{ℕ, zero, suc, ◌+◌, ◌*◌, ◌-◌, ◌/◌, ◌%◌, ◌≤◌, ◌<◌}
use native.Mathlib.Nat.{not-suc-le-zero, zero-add, lt_of_lt_of_le}
use native.Mathlib.Numerals.{add-one}
use native.Mathlib.Decide.{ℕ_discrete}
use borrow.Author.Tests.{lt-ltb, le-ltb}
use lib.Dec.{ltb}
use lib.IntN.{ℤ}
use lib.ListN.{length, drop}
use Rattle.algebra.specs.First.{first_at}
use Rattle.algebra.specs.Lists.{at}
use Rattle.algebra.proofs.First.{first_on, first-here, first_past, first-before}
use Rattle.algebra.proofs.Lists.{column-of, row_of, row_in, place_in, every-place}
use Rattle.meaning.specs.Plan.{range_of}
use Rattle.meaning.specs.Long.{beyond}
use Rattle.meaning.proofs.Cases.{and_so, le-or-lt}
use Rattle.transform_hunt.specs.Hunt.{is_outside, first_read, BeyondFrom}

-- ---- the first place, by what stands before it
module _ (p : ℕ → ℤ → Bool) (l : List ℤ) where
  from : (i : ℕ) → i ≤ length l → ((k : ℕ) → k < i → p k (at l k) ≡ false) → first_at p 0 (drop 0 l) ≡ first_at p i (drop i l)
  from zero h none = refl
  from (suc i) h none =
      from i (omega arith) (λ k g. none k (omega arith)) ∙ first_on p l i (omega arith) (none i (omega arith)) ∙ ap (λ (k : ℕ). first_at p k (drop k l)) (add-one i)

  pub first-is : (k : ℕ) → k < length l → ((i : ℕ) → i < k → p i (at l i) ≡ false) → p k (at l k) ≡ true → first_at p 0 l ≡ k
  first-is k h none here = from k (omega arith) none ∙ first-here p l k h here

-- ---- over what is read of a block
and-false : (a : Bool) {b : Bool} → b ≡ false → a && b ≡ false
and-false true e = e
and-false false e = refl

-- the number at place k is not refused
abbrev pub Fine : ℕ → ℕ → ℕ → ℕ → List ℤ → ℕ → Type 0
Fine w columns rows reach c k = is_outside w columns rows reach k (at c k) ≡ false

-- none before row y is
abbrev pub NoneTo : ℕ → ℕ → ℕ → ℕ → List ℤ → ℕ → Type 0
NoneTo w columns rows reach c y = (x z : ℕ) → x < w → z < y → Fine w columns rows reach c (x + z * w)

pub none_yet : (w columns rows reach : ℕ) (c : List ℤ) → NoneTo w columns rows reach c 0
none_yet w columns rows reach c x z h g = absurd (not-suc-le-zero g)

module _ (w high columns rows reach : ℕ) (c : List ℤ) (long : length c ≡ high * w) where
  -- place k is read
  abbrev is_read : ℕ → Bool
  is_read k = ltb (k % w) columns && ltb (k / w) rows

  -- beside the columns, and below the rows
  beside : (x y : ℕ) → columns ≤ x → x < w → Fine w columns rows reach c (x + y * w)
  beside x y l h = rw (column-of y h, le-ltb x columns l)

  below : (x y : ℕ) → rows ≤ y → x < w → Fine w columns rows reach c (x + y * w)
  below x y l h = rw (row_of y h, le-ltb y rows l) (off (ltb ((x + y * w) % w) columns))
    where
      off : (a : Bool) → (a && false) && beyond (range_of reach) (at c (x + y * w)) ≡ false
      off true = refl
      off false = refl

  -- one row more
  pub next_row : (y r : ℕ) → BeyondFrom c (y * w) columns reach r → y * w + columns ≤ r → NoneTo w columns rows reach c y → NoneTo w columns rows reach c (y + 1)
  next_row y r f l none x z h g = one (ℕ_discrete z y) (le-or-lt columns x)
    where
      one : Dec (z ≡ y) → (columns ≤ x) ⊎ (x < columns) → Fine w columns rows reach c (x + z * w)
      one (no n) _ = none x z h (omega (arith, n))
      one (yes e) (inl o) = beside x z o h
      one (yes e) (inr o) =
          subst (λ (z : ℕ). Fine w columns rows reach c (x + z * w)) (sym e) (and-false (is_read (x + y * w)) (f.none (x + y * w) (omega arith) (omega arith)))

  -- all rows
  pub none_at_all : NoneTo w columns rows reach c rows → first_read w columns rows reach c ≡ length c
  none_at_all none =
      first_past (is_outside w columns rows reach) c 0
      (λ i h. subst (λ (k : ℕ). is_outside w columns rows reach k (at c i) ≡ false) (sym (zero-add i)) (every-place w high (Fine w columns rows reach c) (λ x y l v. one x y l (le-or-lt rows y)) i (omega (arith, long))))
      ∙ zero-add (length c)
    where
      one : (x y : ℕ) → x < w → (rows ≤ y) ⊎ (y < rows) → Fine w columns rows reach c (x + y * w)
      one x y l (inl o) = below x y o l
      one x y l (inr o) = none x y l o

  -- the first one, in row y
  pub found : (y r : ℕ) → BeyondFrom c (y * w) columns reach r → r < y * w + columns → columns ≤ w → y < rows → rows ≤ high → NoneTo w columns rows reach c y → first_read w columns rows reach c ≡ r
  found y r f l narrow h low none =
      first-is (is_outside w columns rows reach) c r (omega (arith, long, row_in w (lt_of_lt_of_le h low), f.from))
      (λ i g. before i g (le-or-lt (y * w) i)) here
    where
      before : (i : ℕ) → i < r → (y * w ≤ i) ⊎ (i < y * w) → Fine w columns rows reach c i
      before i g (inl o) = and-false (is_read i) (f.none i o g)
      before i g (inr o) = every-place w y (Fine w columns rows reach c) (λ x z l v. none x z l v) i o

      here : is_outside w columns rows reach r (at c r) ≡ true
      here =
          let x = r - y * w in
          let e : x + y * w ≡ r = omega (arith, f.from) in
          let n : x < columns = omega (arith, f.from) in
          subst (λ (k : ℕ). is_outside w columns rows reach k (at c r) ≡ true) e
          (rw (column-of {x = x} {w = w} y (omega arith), row_of {x = x} {w = w} y (omega arith), lt-ltb x columns n, lt-ltb y rows h) (f.here l))

  -- where each number that is read is in the range
  pub none_inside : ((x y : ℕ) → x < columns → y < rows → beyond (range_of reach) (at c (x + y * w)) ≡ false) → NoneTo w columns rows reach c rows
  none_inside inside x y h g = one (le-or-lt columns x)
    where
      one : (columns ≤ x) ⊎ (x < columns) → Fine w columns rows reach c (x + y * w)
      one (inl o) = beside x y o h
      one (inr o) = and-false (is_read (x + y * w)) (inside x y o g)

  -- and back
  pub inside-none : length c ≤ first_read w columns rows reach c → columns ≤ w → rows ≤ high → (x y : ℕ) → x < columns → y < rows → beyond (range_of reach) (at c (x + y * w)) ≡ false
  inside-none l narrow low x y h g =
      let k = x + y * w in
      let v : x < w = lt_of_lt_of_le h narrow in
      let i : k < length c = omega (arith, long, place_in v (lt_of_lt_of_le g low)) in
      let f : Fine w columns rows reach c k = subst (λ (m : ℕ). is_outside w columns rows reach m (at c k) ≡ false) (zero-add k) (first-before (is_outside w columns rows reach) c 0 k i (omega arith)) in
      and_so (is_read k) (beyond (range_of reach) (at c k)) f (rw (column-of y v, row_of y v, lt-ltb x columns h, lt-ltb y rows g))
