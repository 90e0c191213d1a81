-- The outputs of a forward line, written row by row in any order. Assumes nothing.
use mathlib.Core.Path.{◌≡◌, refl, sym, ap, ◌∙◌, subst}
use mathlib.Core.Bool.{Bool, true, false, not, ◌||◌}
use mathlib.Core.List.{List}
use Prim.Native.Nat.{ℕ, ◌≤◌, ◌<◌}
use native.Mathlib.Omega.{arith}
use borrow.Author.Tests.{eqb-true, eqb-false}
use lib.Dec.{T, eqb, eqb→eq}
use lib.ListN.{length, set, length-set}
use lib.Seq.{get_or-set_same, get_or-set_other}
use lib.IntN.{ℤ, pos}
use Rattle.algebra.specs.Lists.{at}
use Rattle.algebra.proofs.Table.{all_to, all_to-at}
use Rattle.meaning.specs.Line.{forward_line}
use Rattle.tables.specs.Table.{Table}
use Rattle.shared_steps.specs.Folds.{class_of, width}
use Rattle.shared_steps.specs.Lines.{alternated, reading, kind_of}
use Rattle.shared_steps.specs.Steps.{Gathered, Ready, PutAlone, WroteWhere, short_sum}
use Rattle.shared_steps.proofs.Classes.{implied, folds, short-is}
use Rattle.shared_steps.proofs.TwoKinds.{output, forward-whole}

-- one row
pub put_one : {n i : ℕ} {f : ℕ → ℤ} {y z : List ℤ} → PutAlone i (f i) y z → WroteWhere n (eqb i) f y z
put_one {n} {i} {f} {y} {z} p =
    record {
      long = p.long;
      these = λ k h e. subst (λ (j : ℕ). at z j ≡ f j) (eqb-true i k e) p.here;
      others = λ k h e. p.others k (λ d. eqb-false i k e (sym d));
    }

-- one after the other
pub and_then : {n : ℕ} {P Q : ℕ → Bool} {f : ℕ → ℤ} {x y z : List ℤ} → WroteWhere n P f x y → WroteWhere n Q f y z → WroteWhere n (λ k. Q k || P k) f x z
and_then {n} {P} {Q} {f} {x} {y} {z} p q =
    record {
      long = q.long ∙ p.long;
      these = λ k h e. some k h (Q k) refl e;
      others = λ k h e. q.others k h (left (Q k) (P k) e) ∙ p.others k h (right (Q k) (P k) e);
    }
  where
    left : (a b : Bool) → a || b ≡ false → a ≡ false
    left true b e = e
    left false b e = refl

    right : (a b : Bool) → a || b ≡ false → b ≡ false
    right true b e = absurd (subst T e tt)
    right false b e = e

    some : (k : ℕ) → k < n → (b : Bool) → Q k ≡ b → Q k || P k ≡ true → at z k ≡ f k
    some k h true e t = q.these k h e
    some k h false e t = q.others k h e ∙ p.these k h (sym (ap (λ (b : Bool). b || P k) e) ∙ t)

-- by another test, the same at every place
abbrev same : Bool → Bool → Bool
same true b = b
same false b = not b

same-eq : (a b : Bool) → T (same a b) → a ≡ b
same-eq true true t = refl
same-eq true false t = absurd t
same-eq false true t = absurd t
same-eq false false t = refl

pub by-test : {n : ℕ} {P : ℕ → Bool} {f : ℕ → ℤ} {y z : List ℤ} (Q : ℕ → Bool) → T (all_to n (λ k. same (P k) (Q k))) → WroteWhere n P f y z → WroteWhere n Q f y z
by-test {n} {P} Q t p =
    let e : (k : ℕ) → k < n → P k ≡ Q k = λ k h. same-eq (P k) (Q k) (all_to-at n (λ k. same (P k) (Q k)) t k h) in
    record { long = p.long; these = λ k h q. p.these k h (e k h ∙ q); others = λ k h q. p.others k h (e k h ∙ q) }

-- the rows of one class are the line's outputs
pub of-class : (n p q c : ℕ) (back : Bool) (x : List ℤ) {P : ℕ → Bool} {t y z : List ℤ} → T (folds n p q c) → Gathered n p q c (reading back n x) (width p q c) t
    → T (all_to n (λ k. not (P k) || eqb (class_of p q k) c))
    → WroteWhere n P (λ i. alternated back i (short_sum n (width p q c) t i)) y z → WroteWhere n P (output back n x) y z
unfolding output
of-class n p q c back x {P} {t} f g e w =
    record {
      long = w.long;
      these = λ k h b. w.these k h b ∙ ap (alternated back k) (short-is n p q c f (reading back n x) t g.are k h (eqb→eq (class_of p q k) c (implied (P k) (eqb (class_of p q k) c) b (all_to-at n (λ k. not (P k) || eqb (class_of p q k) c) e k h))));
      others = w.others;
    }

pub all-rows : (back : Bool) {n : ℕ} (x : List ℤ) {P : ℕ → Bool} {y z : List ℤ} → length y ≡ n → T (all_to n P) → WroteWhere n P (output back n x) y z → z ≡ forward_line (kind_of back) n (at x)
all-rows back {n} x {P} l t w = forward-whole back n x (w.long ∙ l) (λ i h. w.these i h (yes (P i) (all_to-at n P t i h)))
  where
    yes : (b : Bool) → T b → b ≡ true
    yes true t = refl
    yes false t = absurd t

-- row i is written
pub put-done : {n m i : ℕ} {w t y : List ℤ} {v : ℤ} (z : ℤ) → i < n → Ready n m w t y → z ≡ v → PutAlone i v y (set y i z) × Ready n m w t (set y i z)
put-done {n} {m} {i} {y = y} z h r e = (
  record { long = length-set y i z; here = get_or-set_same y i z (pos 0) (omega (arith, r.room)) ∙ e; others = λ k d. get_or-set_other y i k z (pos 0) d },
  record { few = r.few; fits = r.fits; most = r.most; table = r.table; numbers = r.numbers; room = length-set y i z ∙ r.room },
)

-- what the rows of a class are given
pub ready : {n p q c : ℕ} {X : ℕ → ℤ} {w t y : List ℤ} → n ≤ 32 → width p q c ≤ n → width p q c ≤ 26 → Table n w → Gathered n p q c X (width p q c) t → length y ≡ n
    → Ready n (width p q c) w t y
ready f h m a g l = record { few = f; fits = h; most = m; table = a; numbers = record { long = g.long; small = g.small }; room = l }
