-- What each step of a folded line is given and leaves.
use Rattle.std.specs.Prelude.{◌≡◌, Bool, true, false, cond, List, ℕ, ◌+◌, ◌*◌, ◌/◌, ◌≤◌, ◌<◌, length, eqb, ℤ, pos, nat_abs, ◌+ℤ◌, ◌*ℤ◌}
use Rattle.algebra.specs.Sum.{sum}
use Rattle.algebra.specs.Lists.{at}
use Rattle.meaning.specs.Weights.{S}
use Rattle.tables.specs.Table.{Table}
use Rattle.shared_steps.specs.Folds.{half, class_of, width, signed_places, into, folded}
use Rattle.shared_steps.specs.Lines.{turned}

-- m numbers, of size at most B
pub record Bounded (m B : ℕ) (a : List ℤ) : Type 0 where
  pub long : length a ≡ m
  pub small : (k : ℕ) → k < m → nat_abs (at a k) ≤ B

-- a line of n places is whole stretches of s, and half of one
pub record Stretched (n s : ℕ) : Type 0 where
  pub few : n ≤ 32
  pub some : 3 ≤ s
  pub odd : s ≡ 2 * half s + 1
  pub number : n / s ≤ 6
  pub each : (k : ℕ) → k < n / s → k * s + s ≤ n
  pub last : n / s * s + half s ≡ n

-- the numbers of a size: L = 2n+1 = p * q
pub record Factored (n p q : ℕ) : Type 0 where
  pub by-q : Stretched n q
  pub by-p : Stretched n p
  pub all : half p * q + half q ≡ n
  pub whole : q ≤ half p * q
  pub least : half p ≤ half q
  pub five : (p ≡ 3 → ⊥) → p ≡ 5
  pub wide : (p ≡ 5) → half p * q ≡ 2 * q

-- ---- forward
-- the first k numbers of class c that the inputs X are folded to: at most 13 inputs of size at most 32768 each
pub record Gathered (n p q c : ℕ) (X : ℕ → ℤ) (k : ℕ) (t : List ℤ) : Type 0 where
  pub size : Factored n p q
  pub long : length t ≡ width p q c
  pub are : (g : ℕ) → g < k → at t g ≡ folded X (into n p q c g)
  pub small : (g : ℕ) → g < k → nat_abs (at t g) ≤ 425984

-- rows of weights, m folded numbers, and room for the line
pub record Ready (n m : ℕ) (w t y : List ℤ) : Type 0 where
  pub few : n ≤ 32
  pub fits : m ≤ n
  pub most : m ≤ 26
  pub table : Table n w
  pub numbers : Bounded m 425984 t
  pub room : length y ≡ n

-- row i times m folded numbers
unfoldable pub short_sum : ℕ → ℕ → List ℤ → ℕ → ℤ
short_sum n m t i = sum m (λ g. S n i g *ℤ at t g)

-- place i now holds v, and no other place changed
pub record PutAlone (i : ℕ) (v : ℤ) (y z : List ℤ) : Type 0 where
  pub long : length z ≡ length y
  pub here : at z i ≡ v
  pub others : (k : ℕ) → (k ≡ i → ⊥) → at z k ≡ at y k

-- the places of n that pass a test hold what f says, and the others are as they were
pub record WroteWhere (n : ℕ) (P : ℕ → Bool) (f : ℕ → ℤ) (y z : List ℤ) : Type 0 where
  pub long : length z ≡ length y
  pub these : (k : ℕ) → k < n → P k ≡ true → at z k ≡ f k
  pub others : (k : ℕ) → k < n → P k ≡ false → at z k ≡ at y k

-- ---- inverse
-- rows of weights, the inputs, and sums of m places over rows before row i: each product is at most 90 * 32768
pub record Adding (n m i : ℕ) (w x a : List ℤ) : Type 0 where
  pub few : n ≤ 32
  pub fits : m ≤ n
  pub table : Table n w
  pub inputs : length x ≡ n
  pub sums : Bounded m (i * 2949120) a

-- row i times v is added
pub record Added (n m i : ℕ) (v : ℤ) (a b : List ℤ) : Type 0 where
  pub are : (g : ℕ) → g < m → at b g ≡ at a g +ℤ S n i g *ℤ v

-- the inputs of a class, and 0 elsewhere
abbrev pub only : ℕ → ℕ → ℕ → (ℕ → ℤ) → ℕ → ℤ
only p q c x i = cond (eqb (class_of p q i) c) (x i) (pos 0)

-- the sums of a class, over its first places
pub record Class (n p q c : ℕ) (x : ℕ → ℤ) (a : List ℤ) : Type 0 where
  pub are : (g : ℕ) → g < width p q c → at a g ≡ sum n (λ i. S n i g *ℤ only p q c x i)

-- the sums of the three classes; 94371840 = 32 * 90 * 32768
pub record ClassSums (n p q : ℕ) (a c d : List ℤ) : Type 0 where
  pub size : Factored n p q
  pub first : Bounded (width p q 1) 94371840 a
  pub second : Bounded (width p q 2) 94371840 c
  pub third : Bounded (width p q 3) 94371840 d

-- place k of the line that they give
unfoldable pub joined_sums : ℕ → ℕ → List ℤ → List ℤ → List ℤ → ℕ → ℤ
joined_sums p q a c d k = folded (at a) (signed_places p q 1 k) +ℤ (folded (at c) (signed_places p q 2 k) +ℤ folded (at d) (signed_places p q 3 k))

-- places 0 .. k - 1 are written, from the end where asked
pub record FilledTo (back : Bool) (n k : ℕ) (f : ℕ → ℤ) (y : List ℤ) : Type 0 where
  pub long : length y ≡ n
  pub done : (j : ℕ) → j < k → at y (turned back n j) ≡ f j
