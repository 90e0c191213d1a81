-- `row_beyond` meets its contract: it finds the first that the test passes, or each fails it. Assumes nothing.
use borrow.Author.Rules.{rules}
use borrow.Author.Tests.{tests}
use native.Mathlib.Omega.{arith}
use mathlib.Core.Path.{◌≡◌}
use mathlib.Core.Bool.{true, false}
use mathlib.Core.List.{List}
use Prim.Native.Nat.{ℕ, ◌+◌, ◌≤◌, ◌<◌}
use native.Mathlib.Nat.{le_refl}
use lib.IntN.{ℤ}
use Rattle.std.specs.Prelude.{Option, None, Some, MatchOption}
use Rattle.std.proofs.lemmas.Iterator.{first_from_Range}
use Rattle.algebra.specs.Lists.{at}
use Rattle.meaning.specs.Plan.{range_of}
use Rattle.meaning.specs.Long.{beyond}
use Rattle.transform_hunt.specs.Hunt.{BeyondFrom}
use Rattle.transform_hunt.proofs.row_beyond.Goals as goal

told : (c : List ℤ) (o count reach : ℕ) (r : Option ℕ)
    → MatchOption r ((k : ℕ) → o ≤ k → k < o + count → beyond (range_of reach) (at c k) ≡ false)
    (λ i. (o ≤ i) × (i < o + count) × (beyond (range_of reach) (at c i) ≡ true) × ((k : ℕ) → o ≤ k → k < i → beyond (range_of reach) (at c k) ≡ false))
    → MatchOption r (BeyondFrom c o count reach (o + count)) (λ k. (k < o + count) × BeyondFrom c o count reach k)
told c o count reach None m = record { from = omega arith; to = le_refl (o + count); none = m; here = λ h. absurd (omega arith) }
told c o count reach (Some i) m = (m.1, record { from = m.0; to = omega (arith, m.1); none = m.3; here = λ h. m.2 })

pub returns : goal.returns
returns c =
    told c.args.c.now c.args.o c.args.count c.args.reach c.find.result
    (first_from_Range _ _ _ c.find.result (λ k. beyond (range_of c.args.reach) (at c.args.c.now k) ≡ true) (λ k. beyond (range_of c.args.reach) (at c.args.c.now k) ≡ false) c.find.ensures.ran (λ k q h. search (rules, tests)) (λ k q h. search (rules, tests)))
