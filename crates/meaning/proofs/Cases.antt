-- What tests leave: of two parts, each of them; of a size, a kind and a depth, each of the accepted numbers, one by one.
use mathlib.Core.Path.{◌≡◌, refl, sym, subst}
use mathlib.Core.Bool.{Bool, true, false, cond, ◌&&◌, ◌||◌, false≢true, and-eq-true_iff}
use mathlib.Mathlib.Data.Bool.Basic.{or-eq-false-eq-eq-false-and-eq-false}
use mathlib.Core.Logic.{◌⊎◌, inl, inr}
use Prim.Native.Nat.{ℕ, ◌≤◌, ◌<◌}
use native.Mathlib.Omega.{arith}
use borrow.Author.Tests.{eqb-true, leb-true, leb-false}
use lib.Dec.{eqb, leb}
use Rattle.meaning.specs.Shape.{is_size, is_kind, has_line, is_depth}

-- either branch of a test
pub pick : {A : Type 0} (P : A → Type 0) (b : Bool) {x y : A} → P x → P y → P (cond b x y)
pick P true p q = p
pick P false p q = q

pub or_cases : (a b : Bool) {P : Type 0} → a || b ≡ true → (a ≡ true → P) → (b ≡ true → P) → P
or_cases true b h f g = f h
or_cases false b h f g = g h

pub and_cases : (a b : Bool) → a && b ≡ true → (a ≡ true) × (b ≡ true)
and_cases a b = (and-eq-true_iff a b).0

pub neither : (a b : Bool) → a || b ≡ false → (a ≡ false) × (b ≡ false)
neither a b = (or-eq-false-eq-eq-false-and-eq-false a b).0

pub and_so : (a b : Bool) → a && b ≡ false → a ≡ true → b ≡ false
and_so true b h e = h
and_so false b h e = absurd (false≢true e)

module _ (P : ℕ → Type 0) where
  -- what holds of m holds of a number that passed the test of being m
  pub at-number : (n m : ℕ) → P m → eqb n m ≡ true → P n
  at-number n m p h = subst P (sym (eqb-true n m h)) p

  pub size-cases : P 4 → P 8 → P 16 → P 32 → (n : ℕ) → is_size n ≡ true → P n
  unfolding is_size
  size-cases p4 p8 p16 p32 n h =
      or_cases (eqb n 4) (eqb n 8 || (eqb n 16 || eqb n 32)) h (at-number n 4 p4)
      (λ h. or_cases (eqb n 8) (eqb n 16 || eqb n 32) h (at-number n 8 p8)
      (λ h. or_cases (eqb n 16) (eqb n 32) h (at-number n 16 p16) (at-number n 32 p32)))

  pub kind-cases : P 1 → P 2 → P 0 → (kind : ℕ) → is_kind kind ≡ true → P kind
  unfolding is_kind
  kind-cases p1 p2 p0 kind h =
      or_cases (eqb kind 1) (eqb kind 2 || eqb kind 0) h (at-number kind 1 p1)
      (λ h. or_cases (eqb kind 2) (eqb kind 0) h (at-number kind 2 p2) (at-number kind 0 p0))

pub depth-cases : (d : ℕ) → is_depth d ≡ true → (8 ≤ d) × (d ≤ 12)
unfolding is_depth
depth-cases d h =
    let both = and_cases (leb 8 d) (leb d 12) h in
    (leb-true 8 d both.0, leb-true d 12 both.1)

-- all kinds at all four sizes
pub line-cases : (P : ℕ → ℕ → Type 0) → P 1 4 → P 1 8 → P 1 16 → P 1 32 → P 2 4 → P 2 8 → P 2 16 → P 2 32 → P 0 4 → P 0 8 → P 0 16 → P 0 32
    → (kind n : ℕ) → is_kind kind ≡ true → is_size n ≡ true → P kind n
line-cases P s4 s8 s16 s32 c4 c8 c16 c32 d4 d8 d16 d32 kind n k s =
    kind-cases (λ m. P m n) (size-cases (P 1) s4 s8 s16 s32 n s) (size-cases (P 2) c4 c8 c16 c32 n s) (size-cases (P 0) d4 d8 d16 d32 n s) kind k

-- all lines that there are: of kind 0 at 2 and 64 points too
pub has-cases : (P : ℕ → ℕ → Type 0) → P 1 4 → P 1 8 → P 1 16 → P 1 32 → P 2 4 → P 2 8 → P 2 16 → P 2 32 → P 0 2 → P 0 4 → P 0 8 → P 0 16 → P 0 32 → P 0 64
    → (kind n : ℕ) → has_line kind n ≡ true → P kind n
unfolding has_line
has-cases P s4 s8 s16 s32 c4 c8 c16 c32 d2 d4 d8 d16 d32 d64 kind n h =
    let both = and_cases (is_kind kind) (is_size n || (eqb kind 0 && (eqb n 2 || eqb n 64))) h in
    or_cases (is_size n) (eqb kind 0 && (eqb n 2 || eqb n 64)) both.1
    (line-cases P s4 s8 s16 s32 c4 c8 c16 c32 d4 d8 d16 d32 kind n both.0)
    (λ h.
    let more = and_cases (eqb kind 0) (eqb n 2 || eqb n 64) h in
    at-number (λ m. P m n) kind 0 (or_cases (eqb n 2) (eqb n 64) more.1 (at-number (P 0) n 2 d2) (at-number (P 0) n 64 d64)) more.0)

-- .. those of kind 0
pub zero-cases : (P : ℕ → Type 0) → P 2 → P 4 → P 8 → P 16 → P 32 → P 64 → (n : ℕ) → has_line 0 n ≡ true → P n
unfolding has_line is_kind
zero-cases P d2 d4 d8 d16 d32 d64 n h =
    or_cases (is_size n) (eqb n 2 || eqb n 64) h (size-cases P d4 d8 d16 d32 n) (λ h. or_cases (eqb n 2) (eqb n 64) h (at-number P n 2 d2) (at-number P n 64 d64))

-- each kind has each size
pub has-line : (kind n : ℕ) → is_kind kind ≡ true → is_size n ≡ true → has_line kind n ≡ true
unfolding has_line
has-line kind n k s = rw (k, s)

-- no line has more than 64 points
pub line-in : (kind n : ℕ) → has_line kind n ≡ true → n ≤ 64
line-in =
    has-cases (λ kind n. n ≤ 64) (omega arith) (omega arith) (omega arith) (omega arith) (omega arith) (omega arith) (omega arith) (omega arith)
    (omega arith) (omega arith) (omega arith) (omega arith) (omega arith) (omega arith)

-- no size is above 32, and none below 4
pub size_in : (n : ℕ) → is_size n ≡ true → n ≤ 32
size_in = size-cases (λ n. n ≤ 32) (omega arith) (omega arith) (omega arith) (omega arith)

pub size-some : (n : ℕ) → is_size n ≡ true → 4 ≤ n
size-some = size-cases (λ n. 4 ≤ n) (omega arith) (omega arith) (omega arith) (omega arith)

-- a size that is none of the three others
pub thirty_two : (n : ℕ) → is_size n ≡ true → (n ≡ 4 → ⊥) → (n ≡ 8 → ⊥) → (n ≡ 16 → ⊥) → n ≡ 32
thirty_two =
    size-cases (λ n. (n ≡ 4 → ⊥) → (n ≡ 8 → ⊥) → (n ≡ 16 → ⊥) → n ≡ 32)
    (λ a b c. absurd (a refl)) (λ a b c. absurd (b refl)) (λ a b c. absurd (c refl)) (λ a b c. refl)

-- either side of a bound
pub le-or-lt : (a b : ℕ) → (a ≤ b) ⊎ (b < a)
le-or-lt a b = go (leb a b) refl
  where
    go : (t : Bool) → leb a b ≡ t → (a ≤ b) ⊎ (b < a)
    go true e = inl (leb-true a b e)
    go false e = inr (leb-false a b e)
