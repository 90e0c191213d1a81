-- `any` meets its contract: where it finds nothing, each row has nothing in column x. Assumes nothing.
use borrow.Author.Rules.{rules}
use borrow.Author.Tests.{tests}
use native.Mathlib.Omega.{arith}
use mathlib.Core.Path.{◌≡◌, refl, ◌∙◌, subst}
use mathlib.Core.Bool.{Bool, true, false, true≢false}
use Prim.Native.Nat.{ℕ, ◌+◌, ◌*◌, ◌<◌}
use native.Mathlib.Nat.{zero-add}
use lib.ListN.{length}
use lib.IntN.{pos}
use Rattle.std.specs.Bool.{MatchBool}
use Rattle.std.specs.List.{range_with_len, AllWithin, HoldsAt}
use Rattle.std.proofs.lemmas.Iterator.{cases_from_any, YieldsList-from_range}
use Rattle.std.proofs.lemmas.List.FromFn.{length-range_with_len, get_or-range_with_len}
use Rattle.algebra.specs.Lists.{at}
use Rattle.long_stages.proofs.live.any.Goals as goal

-- what `any` says at false
none : (r : Bool) (n : ℕ) (P : ℕ → Type 0) → MatchBool r ((k : ℕ) × (k < length (range_with_len 0 n)) × HoldsAt (λ i. Unit {0}) (range_with_len 0 n) k) (AllWithin P (range_with_len 0 n) 0 (length (range_with_len 0 n))) → r ≡ false → (i : ℕ) → i < n → P i
none true n P m e i h = absurd (true≢false e)
none false n P m e i h =
    subst P (get_or-range_with_len 0 n i 0 h ∙ zero-add i) (m i 0 (omega arith) (rw (length-range_with_len 0 n) h))

pub returns : goal.returns
returns c =
    none c.any.result c.args.rows (λ i. at c.args.c.now (c.args.x + i * c.args.w) ≡ pos 0)
    (cases_from_any _ _ c.any.result (λ i. Unit {0}) (λ i. at c.args.c.now (c.args.x + i * c.args.w) ≡ pos 0) c.any.ensures.ran (YieldsList-from_range 0 c.args.rows c.args.rows refl (omega arith)) (λ i q k. tt) (λ i q k. search (rules, tests)))
