-- Document 02, Wish 14: R and the last shift s of every depth (`rules-hold`), and their bounds: R is 15 to 20, s is 8 to 12 where
-- the depth is taken. Assumes nothing.
use mathlib.Core.Path.{◌≡◌}
use mathlib.Core.Bool.{Bool, true, false, ◌&&◌}
use mathlib.Core.List.{List, [], ◌∷◌}
use Prim.Native.Nat.{ℕ, ◌+◌, ◌-◌, ◌^◌, ◌≤◌, ◌<◌}
use native.Mathlib.Omega.{arith}
use borrow.Author.Tests.{leb-true}
use lib.Dec.{T, eqb, leb}
use lib.IntN.{pos}
use lib.Pow.{pow_pos}
use lib.Signed.{le_z_yes}
use Rattle.algebra.proofs.Order.{parts-le}
use Rattle.meaning.specs.Shape.{is_long_depth, shape_of}
use Rattle.meaning.specs.Plan.{range_of, reach, long_plan}
use Rattle.meaning.proofs.Cases.{and_cases, depth-cases}
use Rattle.meaning.proofs.PlanSizes.{Around}

-- ---- the rules, depth by depth
pub record Rule : Type 0 where
  pub extended : Bool
  pub depth : ℕ
  pub r : ℕ
  pub s : ℕ

abbrev rule : Bool → ℕ → ℕ → ℕ → Rule
rule extended depth r s = record { extended = extended; depth = depth; r = r; s = s }

abbrev pub rules : List Rule
rules =
    rule false 8 15 12 ∷ rule false 9 15 11 ∷ rule false 10 15 10 ∷ rule false 11 15 9 ∷ rule false 12 15 8
    ∷ rule true 8 15 12 ∷ rule true 9 15 11 ∷ rule true 10 16 11 ∷ rule true 11 17 11 ∷ rule true 12 18 11
    ∷ rule true 13 19 11 ∷ rule true 14 20 11 ∷ rule true 15 20 10 ∷ rule true 16 20 9
    ∷ []

abbrev pub holds : Rule → Bool
holds q = eqb (reach q.extended q.depth) q.r && eqb (long_plan q.extended (shape_of 4 4 1 1 q.depth)).last q.s

abbrev pub all : List Rule → Bool
all [] = true
all (q ∷ qs) = holds q && all qs

pub rules-hold : T (all rules)
unfolding reach
rules-hold = tt

-- ---- their bounds
pub reach-in : (extended : Bool) (d : ℕ) → (15 ≤ reach extended d) × (reach extended d ≤ 20)
unfolding reach
reach-in true d = (omega arith, omega arith)
reach-in false d = (omega arith, omega arith)

pub long-depth : (extended : Bool) (d : ℕ) → is_long_depth extended d ≡ true → (8 ≤ d) × (d ≤ 16)
unfolding is_long_depth
long-depth true d h =
    let both = and_cases (leb 8 d) (leb d 16) h in
    (leb-true 8 d both.0, leb-true d 16 both.1)
long-depth false d h =
    let both = depth-cases d h in
    (both.0, omega arith)

pub last-in : (extended : Bool) (d : ℕ) → is_long_depth extended d ≡ true → (8 ≤ 5 + reach extended d - d) × (5 + reach extended d - d ≤ 12)
unfolding reach is_long_depth
last-in true d h = let both = long-depth true d h in (omega arith, omega arith)
last-in false d h = let both = depth-cases d h in (omega arith, omega arith)

-- -2^R .. 2^R - 1
pub around : (r : ℕ) → Around (2 ^ r) (range_of r)
around r =
    let p : 0 < 2 ^ r = pow_pos r in
    record { low = le_z_yes tt; high = parts-le (pos 0) (pos (2 ^ r - 1)) (omega arith); down = omega arith; up = omega arith }
