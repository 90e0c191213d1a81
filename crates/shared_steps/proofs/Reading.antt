-- Numbers of a known size as they are read, places of a line, and the cases of a fold. Assumes nothing.
use mathlib.Core.Path.{◌≡◌, refl, sym, ap, ◌∙◌, subst}
use mathlib.Core.Bool.{Bool, true, false, not}
use mathlib.Core.List.{List, [], ◌∷◌}
use Prim.Native.Nat.{ℕ, ◌+◌, ◌*◌, ◌-◌, ◌/◌, ◌%◌, ◌≤◌, ◌<◌}
use native.Mathlib.Numerals.{add-one}
use native.Mathlib.Omega.{arith}
use borrow.Author.Tests.{eq-eqb, ne_eqb, lt-ltb, le-ltb, ltb-true, ltb-false}
use lib.Dec.{ltb}
use lib.IntN.{ℤ, nat_abs, ◌+ℤ◌, +ℤ_idr, +ℤ_comm, +ℤ_assoc, neg_ℤ-+ℤ}
use mir.Syntax.{w32}
use mir.Val.{to_z, of_z}
use mir.ValLaws.{to_z-of_z}
use Rattle.algebra.proofs.Word.{small}
use Rattle.algebra.proofs.Order.{abs-add}
use Rattle.meaning.specs.Weights.{signed}
use Rattle.meaning.proofs.Sizes.{abs-signed}
use Rattle.shared_steps.specs.Folds.{SignedPlace, signed_place, folded, half, is_odd, nearer, leading, periodic, leading_into, stretches, periodic_into, plus, minus}
use Rattle.shared_steps.specs.Lines.{turned}

pub read_back : (z : ℤ) (B : ℕ) → nat_abs z ≤ B → B ≤ 1000000000 → to_z w32 (of_z w32 z) ≡ z
read_back z B h g = to_z-of_z w32 z (small {B = B} (omega arith) h)

pub read_small : (z : ℤ) (B : ℕ) → nat_abs z ≤ B → B ≤ 1000000000 → nat_abs (to_z w32 (of_z w32 z)) ≤ B
read_small z B h g = subst (λ (y : ℤ). nat_abs y ≤ B) (sym (read_back z B h g)) h

-- a number of 32 bits that stands for v
pub record Reads (z v : ℤ) (B : ℕ) : Type 0 where
  pub is : to_z w32 (of_z w32 z) ≡ v
  pub size : nat_abs v ≤ B

pub reads : {z v : ℤ} (B : ℕ) → z ≡ v → nat_abs z ≤ B → B ≤ 1000000000 → Reads z v B
reads {z} B e h g = record { is = read_back z B h g ∙ e; size = subst (λ (y : ℤ). nat_abs y ≤ B) e h }

module _ {z v : ℤ} {B : ℕ} (p : Reads z v B) where
  pub is-small : nat_abs (to_z w32 (of_z w32 z)) ≤ B
  is-small = subst (λ (y : ℤ). nat_abs y ≤ B) (sym p.is) p.size

  pub safe : B ≤ 1000000000 → nat_abs (to_z w32 (of_z w32 z)) ≤ 1000000000
  safe h = omega (arith, is-small)

  pub reads-sign : {r : ℤ} (b : Bool) → r ≡ signed b (to_z w32 (of_z w32 z)) → B ≤ 1000000000 → Reads r (signed b v) B
  reads-sign {r} b e h = reads B (e ∙ ap (signed b) p.is) (omega (arith, ap nat_abs e, abs-signed b (to_z w32 (of_z w32 z)), is-small)) h

  pub reads-sum : {y u r : ℤ} {A : ℕ} → Reads y u A → r ≡ to_z w32 (of_z w32 z) +ℤ to_z w32 (of_z w32 y) → B + A ≤ 1000000000 → Reads r (v +ℤ u) (B + A)
  reads-sum {y} {u} {r} {A} q e h =
      reads (B + A) (e ∙ (λ t. p.is t +ℤ q.is t)) (omega (arith, ap nat_abs (e ∙ (λ t. p.is t +ℤ q.is t)), abs-add v u, p.size, q.size)) h

pub turned-in : (back : Bool) (n k : ℕ) → k < n → turned back n k < n
turned-in true n k h = omega arith
turned-in false n k h = h

pub turned-twice : (back : Bool) (n k : ℕ) → k < n → turned back n (turned back n k) ≡ k
turned-twice true n k h = omega arith
turned-twice false n k h = refl

pub turned_apart : (back : Bool) (n j k : ℕ) → j < n → k < n → (j ≡ k → ⊥) → turned back n j ≡ turned back n k → ⊥
turned_apart true n j k h l d e = d (omega arith)
turned_apart false n j k h l d e = d e

-- the nearer of w and q - w
pub nearer-in : (w q : ℕ) → q ≡ 2 * half q + 1 → 0 < w → w < q → (0 < nearer w q) × (nearer w q ≤ half q)
nearer-in w q o s l = go (ltb (w + w) q) refl
  where
    go : (b : Bool) → ltb (w + w) q ≡ b → (0 < nearer w q) × (nearer w q ≤ half q)
    go true e =
        let h : w + w < q = ltb-true (w + w) q e in
        rw e (s, omega arith)
    go false e =
        let h : q ≤ w + w = ltb-false (w + w) q e in
        rw e (omega arith, omega arith)

-- one part
pub part-sum : (b : Bool) (f : ℕ → ℤ) (g : ℕ) (E : List SignedPlace) → folded f (signed_place b g ∷ E) ≡ signed b (f g) +ℤ folded f E
part-sum true f g E = refl
part-sum false f g E = refl

pub lone-part : (b : Bool) (f : ℕ → ℤ) (g : ℕ) → folded f (signed_place b g ∷ []) ≡ signed b (f g)
lone-part b f g = part-sum b f g [] ∙ +ℤ_idr (signed b (f g))

pub signed_add : (b : Bool) (y z : ℤ) → signed b (y +ℤ z) ≡ signed b y +ℤ signed b z
signed_add true y z = neg_ℤ-+ℤ y z
signed_add false y z = refl

-- one stretch more
pub stretch-next : (f : ℕ → ℤ) (q g k : ℕ) → folded f (stretches q g (k + 1)) ≡ folded f (stretches q g k) +ℤ signed (is_odd k) (f (k * q + g) +ℤ f (k * q + q - 2 - g))
stretch-next f q g k =
    let b = is_odd k in
    let u = f (k * q + g) in
    let v = f (k * q + q - 2 - g) in
    let s = folded f (stretches q g k) in
    ap (λ (j : ℕ). folded f (stretches q g j)) (add-one k)
    ∙ part-sum b f (k * q + g) (signed_place b (k * q + q - 2 - g) ∷ stretches q g k) ∙ ap (λ (z : ℤ). signed b u +ℤ z) (part-sum b f (k * q + q - 2 - g) (stretches q g k))
    ∙ sym (+ℤ_assoc (signed b u) (signed b v) s) ∙ +ℤ_comm (signed b u +ℤ signed b v) s ∙ ap (λ (z : ℤ). s +ℤ z) (sym (signed_add b u v))

pub stretch-last : (f : ℕ → ℤ) (n q g : ℕ) → folded f (periodic_into n q g) ≡ folded f (stretches q g (n / q)) +ℤ signed (is_odd (n / q)) (f (n / q * q + g))
unfolding periodic_into
stretch-last f n q g = part-sum (is_odd (n / q)) f (n / q * q + g) (stretches q g (n / q)) ∙ +ℤ_comm (signed (is_odd (n / q)) (f (n / q * q + g))) (folded f (stretches q g (n / q)))

-- ---- the cases of leading_into, leading and periodic
pub into-own : (p q g : ℕ) → g % q + 1 ≡ q → leading_into p q g ≡ plus g ∷ []
unfolding leading_into
into-own p q g e = rw (eq-eqb (g % q + 1) q e)

pub into-two : (p q g : ℕ) → (g % q + 1 ≡ q → ⊥)
    → leading_into p q g ≡ plus g ∷ signed_place (ltb (g / q + 1) (half p)) (half p * q + (nearer (g % q + 1) q - 1)) ∷ []
unfolding leading_into
into-two p q g d = rw (ne_eqb (g % q + 1) q d)

pub leading-own : (p q k : ℕ) → k < half p * q → leading p q k ≡ plus k ∷ []
unfolding leading
leading-own p q k h = rw (lt-ltb k (half p * q) h)

pub leading_two : (p q k : ℕ) → half p * q ≤ k → p ≡ 3 → leading p q k ≡ plus (k - half p * q) ∷ plus (q - 2 - (k - half p * q)) ∷ []
unfolding leading
leading_two p q k h e = rw (le-ltb k (half p * q) h, eq-eqb p 3 e)

pub leading-four : (p q k : ℕ) → half p * q ≤ k → (p ≡ 3 → ⊥)
    → let g = k - half p * q in leading p q k ≡ minus g ∷ minus (q - 2 - g) ∷ plus (q + g) ∷ plus (2 * q - 2 - g) ∷ []
unfolding leading
leading-four p q k h d = rw (le-ltb k (half p * q) h, ne_eqb p 3 d)

pub periodic-one : (q k : ℕ) → ((k + 1) % q ≡ 0 → ⊥) → periodic q k ≡ signed_place (not (ltb ((k + 1) % (2 * q)) q)) (nearer ((k + 1) % q) q - 1) ∷ []
unfolding periodic
periodic-one q k d = rw (ne_eqb ((k + 1) % q) 0 d)

pub periodic-none : (q k : ℕ) → (k + 1) % q ≡ 0 → periodic q k ≡ []
unfolding periodic
periodic-none q k e = rw (eq-eqb ((k + 1) % q) 0 e)
