-- Tables of which a part was copied into a room: they have the same weights there. Assumes nothing.
use mathlib.Core.Path.{◌≡◌, refl, ◌∙◌, subst}
use mathlib.Core.Bool.{Bool, true}
use mathlib.Core.List.{List}
use Prim.Native.Nat.{ℕ, ◌+◌, ◌*◌, ◌≤◌, ◌<◌}
use native.Mathlib.Omega.{arith}
use lib.ListN.{length}
use lib.IntN.{ℤ}
use Rattle.meaning.specs.Shape.{is_size}
use Rattle.meaning.proofs.Cases.{size-cases, thirty_two}
use Rattle.product.specs.Product.{spot, Laid}
use Rattle.tables.specs.Term.{term}
use Rattle.stage_weights.specs.Stage.{Front, Weights}
use Rattle.tables.proofs.Pairs.{place-held}

-- a size of up to 8 that is not 4
pub is-eight : (n : ℕ) → is_size n ≡ true → (n ≡ 4 → ⊥) → n ≤ 8 → n ≡ 8
is-eight = size-cases (λ n. (n ≡ 4 → ⊥) → n ≤ 8 → n ≡ 8) (λ a l. absurd (a refl)) (λ a l. refl) (λ a l. absurd (omega arith)) (λ a l. absurd (omega arith))

-- a size of less than 16
pub is-few : (n : ℕ) → is_size n ≡ true → n ≤ 16 → (n ≡ 16 → ⊥) → n ≤ 8
is-few = size-cases (λ n. n ≤ 16 → (n ≡ 16 → ⊥) → n ≤ 8) (λ l a. omega arith) (λ l a. omega arith) (λ l a. absurd (a refl)) (λ l a. absurd (omega arith))

-- a size above 16
pub is-thirty-two : (n : ℕ) → is_size n ≡ true → 16 < n → n ≡ 32
is-thirty-two n s l = thirty_two n s (λ q. omega arith) (λ q. omega arith) (λ q. omega arith)

-- the first pairs
pub front : {n all room : ℕ} {W : ℕ → ℕ → ℤ} {r t : List ℤ} → Laid n all 2 (2 * n) W t → Front room r t
    → (pairs : ℕ) → 2 * pairs ≤ 2 * all → pairs * (2 * n) ≤ room → Laid n pairs 2 (2 * n) W r
front {n} z f pairs l m =
    record {
      held = λ i j h g. omega (arith, place-held n i j g pairs h, f.long);
      right = λ i j h g. f.same (2 * j + spot (2 * n) i) (omega (arith, place-held n i j g pairs h)) (z.held i j (omega arith) g) ∙ z.right i j (omega arith) g;
    }

-- the whole of 32 points
pub whole : (kind : ℕ) (forward : Bool) {r : List ℤ} → Laid 32 16 2 64 (λ i j. term forward kind 32 j i) r → Weights 1024 32 forward kind 32 r
whole kind forward z pairs l m = record { held = λ i j h g. z.held i j (omega arith) g; right = λ i j h g. z.right i j (omega arith) g }

pub all-32 : (n kind : ℕ) (forward : Bool) {r : List ℤ} → n ≡ 32 → Weights 1024 n forward kind n r → Laid 32 16 2 64 (λ i j. term forward kind 32 j i) r
all-32 n kind forward {r} e w = subst (λ (m : ℕ). Weights 1024 m forward kind m r) e w 16 (omega arith) (omega arith)

-- in a room whose length is known
pub in-room : {room long : ℕ} (n kind : ℕ) (forward : Bool) {r : List ℤ} → long ≡ room → (length r ≡ long) × Weights long n forward kind n r → (length r ≡ room) × Weights room n forward kind n r
in-room n kind forward {r} e w = (w.0 ∙ e, subst (λ (m : ℕ). Weights m n forward kind n r) e w.1)
