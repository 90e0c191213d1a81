-- Answers among the numbers of an array: each stands where it was put (`answer_at_lem`), and the numbers beyond the last one stay
-- (`beyond`). Assumes nothing.
use mathlib.Core.Path.{◌≡◌, refl, ◌∙◌, subst}
use mathlib.Core.List.{List, [], ◌∷◌}
use Prim.Native.Nat.{ℕ, zero, suc, ◌+◌, ◌*◌, ◌≤◌, ◌<◌}
use native.Mathlib.Nat.{not-suc-le-zero}
use native.Mathlib.Omega.{arith}
use lib.ListN.{length, get_or, set, length-set}
use lib.Seq.{get_or-set_same, get_or-set_other}
use Rattle.meaning.specs.declared.Answer.{Answer}
use Rattle.block_row.specs.Numbers.{answer_at, put_at, put_all}

module _ (l : List ℕ) (k : ℕ) (a : Answer) where
  abbrev first : List ℕ
  first = set l (k * 3) a.number

  abbrev second : List ℕ
  second = set first (k * 3 + 1) a.place

  put-length : length (put_at l k a) ≡ length l
  put-length = length-set second (k * 3 + 2) a.rails ∙ length-set first (k * 3 + 1) a.place ∙ length-set l (k * 3) a.number

  put_other : (i : ℕ) → (i ≡ k * 3 → ⊥) → (i ≡ k * 3 + 1 → ⊥) → (i ≡ k * 3 + 2 → ⊥) → get_or (put_at l k a) i 0 ≡ get_or l i 0
  put_other i x y z = get_or-set_other second (k * 3 + 2) i a.rails 0 z ∙ get_or-set_other first (k * 3 + 1) i a.place 0 y ∙ get_or-set_other l (k * 3) i a.number 0 x

  put_same : k * 3 + 3 ≤ length l → answer_at (put_at l k a) k ≡ a
  put_same h =
      let x = get_or-set_other second (k * 3 + 2) (k * 3) a.rails 0 (λ e. omega (arith, e)) ∙ get_or-set_other first (k * 3 + 1) (k * 3) a.place 0 (λ e. omega (arith, e))
      ∙ get_or-set_same l (k * 3) a.number 0 (omega arith) in
      let y = get_or-set_other second (k * 3 + 2) (k * 3 + 1) a.rails 0 (λ e. omega (arith, e))
      ∙ get_or-set_same first (k * 3 + 1) a.place 0 (omega (arith, length-set l (k * 3) a.number)) in
      let z = get_or-set_same second (k * 3 + 2) a.rails 0 (omega (arith, length-set first (k * 3 + 1) a.place, length-set l (k * 3) a.number)) in
      λ i. record { number = x i; place = y i; rails = z i }

-- numbers before the first place stay, and so do those behind the last
below : (more : List Answer) (k : ℕ) (l : List ℕ) (i : ℕ) → i < k * 3 → get_or (put_all more k l) i 0 ≡ get_or l i 0
unfolding put_all
below [] k l i h = refl
below (a ∷ more) k l i h = below more (suc k) (put_at l k a) i (omega arith) ∙ put_other l k a i (λ e. omega (arith, e)) (λ e. omega (arith, e)) (λ e. omega (arith, e))

pub beyond : (more : List Answer) (k : ℕ) (l : List ℕ) (i : ℕ) → (k + length more) * 3 ≤ i → get_or (put_all more k l) i 0 ≡ get_or l i 0
unfolding put_all
beyond [] k l i h = refl
beyond (a ∷ more) k l i h = beyond more (suc k) (put_at l k a) i (omega arith) ∙ put_other l k a i (λ e. omega (arith, e)) (λ e. omega (arith, e)) (λ e. omega (arith, e))

pub answer_at_lem : (more : List Answer) (j k : ℕ) (l : List ℕ) (e : Answer) → k < length more → (j + length more) * 3 ≤ length l → answer_at (put_all more j l) (j + k) ≡ get_or more k e
unfolding put_all
answer_at_lem [] j k l e h r = absurd (not-suc-le-zero h)
answer_at_lem (a ∷ more) j zero l e h r =
    let L = put_at l j a in
    let n : j ≡ j + 0 = omega arith in
    let kept : answer_at (put_all more (suc j) L) j ≡ answer_at L j
    = λ i. record { number = below more (suc j) L (j * 3) (omega arith) i; place = below more (suc j) L (j * 3 + 1) (omega arith) i; rails = below more (suc j) L (j * 3 + 2) (omega arith) i } in
    subst (λ (m : ℕ). answer_at (put_all more (suc j) L) m ≡ a) n (kept ∙ put_same l j a (omega arith))
answer_at_lem (a ∷ more) j (suc k) l e h r =
    let n : suc j + k ≡ j + suc k = omega arith in
    subst (λ (m : ℕ). answer_at (put_all more (suc j) (put_at l j a)) m ≡ get_or more k e) n
    (answer_at_lem more (suc j) k (put_at l j a) e (omega arith) (omega (arith, put-length l j a)))
