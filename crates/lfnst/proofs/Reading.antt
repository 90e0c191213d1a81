-- The corner by a stored order of its places, which one computed test holds to the definition. Assumes nothing.
use mathlib.Core.Path.{◌≡◌, sym, ap, subst}
use mathlib.Core.Bool.{Bool, ◌&&◌}
use mathlib.Core.List.{List}
use Prim.Native.Nat.{ℕ, ◌+◌, ◌*◌, ◌<◌}
use lib.Dec.{T, eqb, ltb, eqb→eq, ltb→lt}
use lib.IntN.{ℤ}
use lib.ListN.{get_or}
use lib.Signed.{◌≤ℤ◌}
use Rattle.algebra.specs.Lists.{at, tabulate}
use Rattle.algebra.proofs.Table.{all_to, all_to-at, and_left, and_right}
use Rattle.algebra.proofs.Lists.{tab-length, tab-at}
use Rattle.meaning.specs.Plan.{range_of}
use Rattle.lfnst.specs.LowFrequency.{order, input}
use Rattle.lfnst.specs.Work.{Ranged}

-- column and row of u(i), as a place of the corner row by row
abbrev place : ℕ → ℕ
place i = (get_or order i (0, 0)).0 + 4 * (get_or order i (0, 0)).1

abbrev right_order : List ℕ → Bool
right_order l = all_to 16 (λ i. eqb (get_or l i 0) (place i) && ltb (get_or l i 0) 16)

pub record Ordered (l : List ℕ) : Type 0 where
  pub right : T (right_order l)

module _ {l : List ℕ} (t : Ordered l) (i : ℕ) (h : i < 16) where
  both : T (eqb (get_or l i 0) (place i) && ltb (get_or l i 0) 16)
  both = all_to-at 16 (λ i. eqb (get_or l i 0) (place i) && ltb (get_or l i 0) 16) t.right i h

  pub in-corner : get_or l i 0 < 16
  in-corner = ltb→lt (get_or l i 0) 16 (and_right (eqb (get_or l i 0) (place i)) (ltb (get_or l i 0) 16) both)

  pub reads : (c : List ℤ) → at c (get_or l i 0) ≡ input (λ x y. at c (x + 4 * y)) i
  unfolding input
  reads c = ap (at c) (eqb→eq (get_or l i 0) (place i) (and_left (eqb (get_or l i 0) (place i)) (ltb (get_or l i 0) 16) both))

-- ---- every place of the order is one of the corner
places-tested : T (all_to 16 (λ i. ltb (place i) 16))
unfolding order
places-tested = tt

module _ {reach : ℕ} {c : List ℤ} (r : Ranged reach c) where
  pub ranged-inputs : Ranged reach (tabulate 16 (input (λ x y. at c (x + 4 * y))))
  unfolding input
  ranged-inputs =
      record {
        long = tab-length 16 (input (λ x y. at c (x + 4 * y)));
        inside = λ k h.
            subst (λ (z : ℤ). ((range_of reach).low ≤ℤ z) × (z ≤ℤ (range_of reach).high)) (sym (tab-at 16 (input (λ x y. at c (x + 4 * y))) k h))
            (r.inside (place k) (ltb→lt (place k) 16 (all_to-at 16 (λ i. ltb (place i) 16) places-tested k h)));
      }
