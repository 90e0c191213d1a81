-- Each of 0..n-1 once: a sum in such an order is the sum. Assumes nothing.
use Rattle.std.proofs.Common.{◌≡◌, ℕ, zero, suc, ◌+◌, ◌*◌, ◌<◌, ◌≤◌, Bool, true, false, cond, ◌&&◌, eqb, ltb, List, [], ◌∷◌, length, get_or, drop, sym, refl, ap, ◌∙◌, le_of_suc-le-suc, not-suc-le-zero, add-mul, le_antisymm, one-mul, zero-add, zero-mul, mul-one, add-one, arith, drop_of_length-le, drop-cons, ltb-false, ltb-true, le-ltb, lt-ltb, eq-eqb, ne_eqb, eqb-true}
use native.Mathlib.Decide.{ℕ_discrete}
use Rattle.algebra.specs.Sum.{sumℕ}
use Rattle.algebra.proofs.Sum.{sumℕ-add, sumℕ-cong, sumℕ-const, zero-sum}
use Rattle.algebra.proofs.Table.{last}
use Rattle.meaning.proofs.Cases.{and_cases}
use Rattle.wrapping.specs.Order.{times, once_to, is_order, Order}

one : ℕ → ℕ → ℕ
one x k = cond (eqb x k) 1 0

one_same : (x : ℕ) → one x x ≡ 1
unfolding one
one_same x = rw (eq-eqb x x refl)

one-other : (x k : ℕ) → (x ≡ k → ⊥) → one x k ≡ 0
unfolding one
one-other x k h = rw (ne_eqb x k h)

-- what stands at n or past it
past : ℕ → (ℕ → ℕ) → ℕ → ℕ
past n g x = cond (ltb x n) 0 (g x)

past-none : (n : ℕ) (g : ℕ → ℕ) (x : ℕ) → x < n → past n g x ≡ 0
unfolding past
past-none n g x h = rw (lt-ltb x n h)

past_all : (n : ℕ) (g : ℕ → ℕ) (x : ℕ) → n ≤ x → past n g x ≡ g x
unfolding past
past_all n g x h = rw (le-ltb x n h)

far : (x n : ℕ) → n ≤ x → (x ≡ n → ⊥) → suc n ≤ x
far x n l d = go (ltb n x) refl
  where
    go : (b : Bool) → ltb n x ≡ b → suc n ≤ x
    go true e = ltb-true n x e
    go false e = absurd (d (le_antisymm (ltb-false n x e) l))

past_same : (n : ℕ) (g : ℕ → ℕ) (x : ℕ) → (x ≡ n → ⊥) → past (suc n) g x ≡ past n g x
past_same n g x d = go (ltb x n) refl
  where
    go : (b : Bool) → ltb x n ≡ b → past (suc n) g x ≡ past n g x
    go true e = past-none (suc n) g x (omega (arith, ltb-true x n e)) ∙ sym (past-none n g x (ltb-true x n e))
    go false e =
        let l = ltb-false x n e in
        let m : suc n ≤ x = far x n l d in
        past_all (suc n) g x m ∙ sym (past_all n g x l)

-- a sum in which one number stands
spike : (g : ℕ → ℕ) (x n : ℕ) → sumℕ n (λ k. one x k * g k) + past n g x ≡ g x
unfolding sumℕ
spike g x zero = zero-add (past 0 g x) ∙ past_all 0 g x (omega arith)
spike g x (suc n) = at (spike g x n) (ℕ_discrete x n)
  where
    at : sumℕ n (λ k. one x k * g k) + past n g x ≡ g x → Dec (x ≡ n) → sumℕ n (λ k. one x k * g k) + one x n * g n + past (suc n) g x ≡ g x
    at h (yes e) =
        let o : one x n * g n ≡ g n = ap (λ (m : ℕ). one m n * g n) e ∙ rw (one_same n) (one-mul (g n)) in
        let q : g x ≡ g n = ap g e in
        omega (arith, past_all n g x (omega arith), past-none (suc n) g x (omega arith))
    at h (no d) =
        let o : one x n * g n ≡ 0 = rw (one-other x n d) (zero-mul (g n)) in
        omega (arith, past_same n g x d)

-- the sum over a list: each number below n as often as it stands there, and the rest
unfoldable pub sum_over : List ℕ → (ℕ → ℕ) → ℕ
sum_over [] g = 0
sum_over (x ∷ l) g = g x + sum_over l g

by-times : (n : ℕ) (l : List ℕ) (g : ℕ → ℕ) → sum_over l g ≡ sumℕ n (λ k. times k l * g k) + sum_over l (past n g)
unfolding times one sum_over
by-times n [] g = sym (none n)
  where
    none : (n : ℕ) → sumℕ n (λ k. 0 * g k) + 0 ≡ 0
    none n = omega (arith, zero-sum n (λ k. 0 * g k) (λ k h. zero-mul (g k)))
by-times n (x ∷ l) g =
    let s : sumℕ n (λ k. (one x k + times k l) * g k) ≡ sumℕ n (λ k. one x k * g k) + sumℕ n (λ k. times k l * g k)
    = sumℕ-cong n (λ k. (one x k + times k l) * g k) (λ k. one x k * g k + times k l * g k) (λ k h. add-mul (one x k) (times k l) (g k)) ∙ sumℕ-add n (λ k. one x k * g k) (λ k. times k l * g k) in
    omega (arith, s, spike g x n, by-times n l g)

-- each number of such a list is below n
long-is : (l : List ℕ) → sum_over l (λ x. 1) ≡ length l
unfolding sum_over
long-is [] = refl
long-is (x ∷ l) = omega (arith, long-is l)

counts : (n : ℕ) (l : List ℕ) (g : ℕ → ℕ) → Order n l → sumℕ n (λ k. times k l * g k) ≡ sumℕ n g
counts n l g o = sumℕ-cong n (λ k. times k l * g k) g (λ k h. rw (o.once k h) (one-mul (g k)))

none-past : (n : ℕ) (l : List ℕ) → Order n l → sum_over l (past n (λ x. 1)) ≡ 0
none-past n l o = omega (arith, by-times n l (λ x. 1), counts n l (λ x. 1) o, long-is l, o.long, sumℕ-const n 1, mul-one n)

below : (n : ℕ) (l : List ℕ) → sum_over l (past n (λ x. 1)) ≡ 0 → (i : ℕ) → i < length l → get_or l i 0 < n
unfolding sum_over
below n [] e i h = absurd (not-suc-le-zero h)
below n (x ∷ l) e zero h = go (ltb x n) refl
  where
    go : (b : Bool) → ltb x n ≡ b → x < n
    go true q = ltb-true x n q
    go false q = absurd (omega (arith, past_all n (λ x. 1) x (ltb-false x n q)))
below n (x ∷ l) e (suc i) h = below n l (omega arith) i (le_of_suc-le-suc h)

pub order_below : {n : ℕ} {l : List ℕ} → Order n l → (i : ℕ) → i < length l → get_or l i 0 < n
order_below {n} {l} o = below n l (none-past n l o)

rest-none : (n : ℕ) (l : List ℕ) (g : ℕ → ℕ) → sum_over l (past n (λ x. 1)) ≡ 0 → sum_over l (past n g) ≡ 0
unfolding sum_over
rest-none n [] g e = refl
rest-none n (x ∷ l) g e = omega (arith, past-none n g x (below n (x ∷ l) e 0 (omega arith)), rest-none n l g (omega arith))

-- the sum does not depend on the order
pub any_order : {n : ℕ} {l : List ℕ} → Order n l → (g : ℕ → ℕ) → sum_over l g ≡ sumℕ n g
any_order {n} {l} o g = omega (arith, by-times n l g, counts n l g o, rest-none n l g (none-past n l o))

-- ---- as the code counts
pub times-on : (l : List ℕ) (k i : ℕ) → i < length l → times k (drop i l) ≡ cond (eqb (get_or l i 0) k) 1 0 + times k (drop (i + 1) l)
unfolding times
times-on l k i h = rw (drop-cons l i 0 h, add-one i)

pub times-end : (l : List ℕ) (k i : ℕ) → length l ≤ i → times k (drop i l) ≡ 0
unfolding times
times-end l k i h = rw (drop_of_length-le l h)

pub over-on : (l : List ℕ) (g : ℕ → ℕ) (i : ℕ) → i < length l → sum_over (drop i l) g ≡ g (get_or l i 0) + sum_over (drop (i + 1) l) g
unfolding sum_over
over-on l g i h = rw (drop-cons l i 0 h, add-one i)

pub over-end : (l : List ℕ) (g : ℕ → ℕ) (i : ℕ) → length l ≤ i → sum_over (drop i l) g ≡ 0
unfolding sum_over
over-end l g i h = rw (drop_of_length-le l h)

pub once-next : (l : List ℕ) (k : ℕ) → once_to (k + 1) l ≡ eqb (times k l) 1 && once_to k l
unfolding once_to
once-next l k = rw (add-one k)

pub once-none : (l : List ℕ) → once_to 0 l ≡ true
unfolding once_to
once-none l = refl

-- the test is the fact
once-at : (n : ℕ) (l : List ℕ) → once_to n l ≡ true → (k : ℕ) → k < n → times k l ≡ 1
unfolding once_to
once-at zero l e k h = absurd (not-suc-le-zero h)
once-at (suc n) l e k h =
    let both = and_cases (eqb (times n l) 1) (once_to n l) e in
    last (λ (m : ℕ). times m l ≡ 1) n k h (eqb-true (times n l) 1 both.0) (λ i. once-at n l both.1 k i)

-- a number that does not stand once
pub once-off : (n : ℕ) (l : List ℕ) (k : ℕ) → k < n → (times k l ≡ 1 → ⊥) → once_to n l ≡ false
once-off n l k h d = go (once_to n l) refl
  where
    go : (b : Bool) → once_to n l ≡ b → b ≡ false
    go true e = absurd (d (once-at n l e k h))
    go false e = refl

pub is-order : (n : ℕ) (l : List ℕ) → is_order n l ≡ true → Order n l
unfolding is_order
is-order n l e =
    let both = and_cases (eqb (length l) n) (once_to n l) e in
    record { long = eqb-true (length l) n both.0; once = once-at n l both.1 }
