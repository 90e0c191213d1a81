-- Numbers that were copied: a line, and the rows of a room. Assumes nothing.
use native.Mathlib.Omega.{arith}
use mathlib.Core.Path.{◌≡◌, refl, sym, ap, ◌∙◌, subst}
use mathlib.Core.Bool.{Bool, true, false, cond}
use mathlib.Core.List.{List}
use Prim.Native.Nat.{ℕ, ◌+◌, ◌*◌, ◌≤◌, ◌<◌}
use native.Mathlib.Nat.{zero-add, not-suc-le-zero, add_comm}
use native.Mathlib.Decide.{ℕ_discrete}
use borrow.Author.Tests.{ltb-true, ltb-false}
use lib.Dec.{ltb}
use lib.ListN.{length, replicate, length-replicate}
use lib.IntN.{ℤ, pos}
use Rattle.algebra.specs.Lists.{at}
use Rattle.algebra.proofs.Lists.{tabulated, tab-cong, tab-length, zeros-at}
use Rattle.transform_stages.specs.Work.{line_from, Copied, RoomRead}

-- a line of 32
pub copied-line : {c r : List ℤ} (o count : ℕ) → Copied c o count 0 (replicate 32 (pos 0)) r → r ≡ line_from c o count
unfolding line_from
copied-line {c} {r} o count p = tabulated 32 r (λ i. cond (ltb i count) (at c (o + i)) (pos 0)) (p.long ∙ length-replicate 32 (pos 0)) (λ i _. each i (ltb i count) refl)
  where
    each : (i : ℕ) (b : Bool) → ltb i count ≡ b → at r i ≡ cond b (at c (o + i)) (pos 0)
    each i true e = ap (at r) (sym (zero-add i)) ∙ p.done i (ltb-true i count e)
    each i false e = p.after i (omega (arith, ltb-false i count e)) ∙ zeros-at 32 i

-- no row yet
pub read_none : (c : List ℤ) (w columns : ℕ) → RoomRead c w columns 0 (replicate 1024 (pos 0))
read_none c w columns =
    record { long = length-replicate 1024 (pos 0); inside = λ x y h g. absurd (not-suc-le-zero g); below = λ x y h l g. zeros-at 1024 (x + y * 32) }

-- one row more
pub read_next : {c room room₁ : List ℤ} (w columns y : ℕ) → columns ≤ 32 → RoomRead c w columns y room → Copied c (y * w) columns (y * 32) room room₁ → RoomRead c w columns (y + 1) room₁
read_next {c} {room} {room₁} w columns y n p q =
    record {
      long = q.long ∙ p.long;
      inside = λ x z h g. one x z h g (ℕ_discrete z y);
      below = λ x z h l g. q.after (x + z * 32) (omega arith) ∙ p.below x z h (omega arith) g;
    }
  where
    one : (x z : ℕ) → x < columns → z < y + 1 → Dec (z ≡ y) → at room₁ (x + z * 32) ≡ at c (x + z * w)
    one x z h g (yes e) =
        subst (λ (z : ℕ). at room₁ (x + z * 32) ≡ at c (x + z * w)) (sym e)
        (ap (at room₁) (add_comm x (y * 32)) ∙ q.done x h ∙ ap (at c) (add_comm (y * w) x))
    one x z h g (no n') =
        let l : z < y = omega (arith, n') in
        q.before (x + z * 32) (omega arith) ∙ p.inside x z h l

-- lines of lists that are the same there
pub line_same : (c d : List ℤ) (o count : ℕ) → ((i : ℕ) → i < count → at c (o + i) ≡ at d (o + i)) → line_from c o count ≡ line_from d o count
unfolding line_from
line_same c d o count e = tab-cong 32 _ _ (λ i _. each i (ltb i count) refl)
  where
    each : (i : ℕ) (b : Bool) → ltb i count ≡ b → cond b (at c (o + i)) (pos 0) ≡ cond b (at d (o + i)) (pos 0)
    each i true h = e i (ltb-true i count h)
    each i false h = refl

pub line-long : (c : List ℤ) (o count : ℕ) → length (line_from c o count) ≡ 32
unfolding line_from
line-long c o count = tab-length 32 _
