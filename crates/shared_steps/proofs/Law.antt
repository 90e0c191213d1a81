-- The law of folding: one exchange of two finite sums.
--
-- A row w is folded over its first m places where each of its places k is a signed sum of those: w(k) = Σ over the parts of E(k)
-- of sign · w(g), each g < m. `law` moves a factor from the inner sum of a double sum to the outer one. Read with the parts as the
-- inner sum it folds the inputs of one row (`fold-inputs`), and read with the rows there it folds the sums of a class of rows
-- (`fold-sums`). No property of sines is used, and no order of rows or places. Assumes nothing.
use mathlib.Core.Path.{◌≡◌, refl, sym, ap, ap₂, ◌∙◌, subst}
use mathlib.Core.Bool.{Bool, true, cond, ◌&&◌}
use mathlib.Core.List.{List, [], ◌∷◌}
use Prim.Native.Nat.{ℕ, zero, suc, ◌<◌}
use native.Mathlib.Nat.{not-suc-le-zero}
use native.Mathlib.Decide.{ℕ_discrete}
use native.Mathlib.Omega.{arith}
use borrow.Author.Tests.{eq-eqb, ne_eqb}
use lib.Dec.{T, eqb, ltb, ltb→lt}
use lib.IntN.{ℤ, pos, negsuc, neg_ℤ, ◌+ℤ◌, ◌*ℤ◌, +ℤ_idl, +ℤ_idr, zero-*ℤ, *ℤ_comm}
use Rattle.algebra.specs.Sum.{sum}
use Rattle.algebra.proofs.Ring.{add-*ℤ, neg-*ℤ, one-*ℤ, *ℤ-assoc}
use Rattle.algebra.proofs.Sum.{sum-cong, sum-add, sum-scale, sum-none, sum-swap}
use Rattle.algebra.proofs.Table.{and_left, and_right}
use Rattle.shared_steps.specs.Folds.{SignedPlace, plus, minus, folded, occurrence}

pub law : (n m : ℕ) (A : ℕ → ℕ → ℤ) (w x : ℕ → ℤ) → sum n (λ i. sum m (λ g. A i g *ℤ w g) *ℤ x i) ≡ sum m (λ g. w g *ℤ sum n (λ i. A i g *ℤ x i))
law n m A w x =
    sum-cong n (λ i. sum m (λ g. A i g *ℤ w g) *ℤ x i) (λ i. sum m (λ g. w g *ℤ (A i g *ℤ x i)))
    (λ i h. *ℤ_comm (sum m (λ g. A i g *ℤ w g)) (x i) ∙ sym (sum-scale m (x i) (λ g. A i g *ℤ w g))
    ∙ sum-cong m (λ g. x i *ℤ (A i g *ℤ w g)) (λ g. w g *ℤ (A i g *ℤ x i)) (λ g l. inner (A i g) (w g) (x i)))
    ∙ sum-swap n m (λ i g. w g *ℤ (A i g *ℤ x i))
    ∙ sum-cong m (λ g. sum n (λ i. w g *ℤ (A i g *ℤ x i))) (λ g. w g *ℤ sum n (λ i. A i g *ℤ x i)) (λ g h. sum-scale n (w g) (λ i. A i g *ℤ x i))
  where
    inner : (a w x : ℤ) → x *ℤ (a *ℤ w) ≡ w *ℤ (a *ℤ x)
    inner a w x = *ℤ_comm x (a *ℤ w) ∙ ap (λ (z : ℤ). z *ℤ x) (*ℤ_comm a w) ∙ *ℤ-assoc w a x

-- ---- a signed sum of places as a sum over all places
abbrev pub below : ℕ → List SignedPlace → Bool
below m [] = true
below m (plus g ∷ E) = ltb g m && below m E
below m (minus g ∷ E) = ltb g m && below m E

-- one place alone
abbrev lone : ℕ → ℤ → (ℕ → ℤ) → ℕ → ℤ
lone g c f k = cond (eqb g k) c (pos 0) *ℤ f k

lone-off : (g : ℕ) (c : ℤ) (f : ℕ → ℤ) (k : ℕ) → (g ≡ k → ⊥) → lone g c f k ≡ pos 0
lone-off g c f k d = ap (λ (b : Bool). cond b c (pos 0) *ℤ f k) (ne_eqb g k d) ∙ zero-*ℤ (f k)

lone-on : (g : ℕ) (c : ℤ) (f : ℕ → ℤ) → lone g c f g ≡ c *ℤ f g
lone-on g c f = ap (λ (b : Bool). cond b c (pos 0) *ℤ f g) (eq-eqb g g refl)

none : (m g : ℕ) (c : ℤ) (f : ℕ → ℤ) → ((k : ℕ) → k < m → g ≡ k → ⊥) → sum m (lone g c f) ≡ pos 0
none m g c f d = sum-cong m (lone g c f) (λ k. pos 0) (λ k h. lone-off g c f k (d k h)) ∙ sum-none m

sum-lone : (m g : ℕ) (c : ℤ) (f : ℕ → ℤ) → g < m → sum m (lone g c f) ≡ c *ℤ f g
unfolding sum
sum-lone zero g c f h = absurd (not-suc-le-zero h)
sum-lone (suc m) g c f h = pick (ℕ_discrete g m) (sum-lone m g c f)
  where
    pick : Dec (g ≡ m) → (g < m → sum m (lone g c f) ≡ c *ℤ f g) → sum m (lone g c f) +ℤ lone g c f m ≡ c *ℤ f g
    pick (yes e) r =
        ap₂ (λ (y z : ℤ). y +ℤ z) (none m g c f (λ k l d. omega arith)) (subst (λ (k : ℕ). lone g c f k ≡ c *ℤ f g) e (lone-on g c f)) ∙ +ℤ_idl (c *ℤ f g)
    pick (no d) r = ap₂ (λ (y z : ℤ). y +ℤ z) (r (omega arith)) (lone-off g c f m d) ∙ +ℤ_idr (c *ℤ f g)

-- one part more
one_more : (m : ℕ) (f : ℕ → ℤ) (g : ℕ) (c : ℤ) (E : List SignedPlace) (z : ℤ) → z ≡ c *ℤ f g → T (ltb g m) → folded f E ≡ sum m (λ k. occurrence E k *ℤ f k)
    → z +ℤ folded f E ≡ sum m (λ k. (cond (eqb g k) c (pos 0) +ℤ occurrence E k) *ℤ f k)
one_more m f g c E z e t r =
    ap₂ (λ (u v : ℤ). u +ℤ v) (e ∙ sym (sum-lone m g c f (ltb→lt g m t))) r ∙ sym (sum-add m (lone g c f) (λ k. occurrence E k *ℤ f k))
    ∙ sum-cong m (λ k. lone g c f k +ℤ occurrence E k *ℤ f k) (λ k. (cond (eqb g k) c (pos 0) +ℤ occurrence E k) *ℤ f k) (λ k h. sym (add-*ℤ (cond (eqb g k) c (pos 0)) (occurrence E k) (f k)))

pub folded-sum : (m : ℕ) (f : ℕ → ℤ) (E : List SignedPlace) → T (below m E) → folded f E ≡ sum m (λ k. occurrence E k *ℤ f k)
folded-sum m f [] t = sym (sum-cong m (λ k. pos 0 *ℤ f k) (λ k. pos 0) (λ k h. zero-*ℤ (f k)) ∙ sum-none m)
folded-sum m f (plus g ∷ E) t =
    one_more m f g (pos 1) E (f g) (sym (one-*ℤ (f g))) (and_left (ltb g m) (below m E) t) (folded-sum m f E (and_right (ltb g m) (below m E) t))
folded-sum m f (minus g ∷ E) t =
    one_more m f g (negsuc 0) E (neg_ℤ (f g)) (sym (neg-*ℤ (pos 1) (f g) ∙ ap neg_ℤ (one-*ℤ (f g)))) (and_left (ltb g m) (below m E) t)
    (folded-sum m f E (and_right (ltb g m) (below m E) t))

-- ---- the law from either side
pub fold-inputs : (n m : ℕ) (w x : ℕ → ℤ) (E : ℕ → List SignedPlace) → ((k : ℕ) → k < n → T (below m (E k))) → ((k : ℕ) → k < n → w k ≡ folded w (E k))
    → sum n (λ k. w k *ℤ x k) ≡ sum m (λ g. w g *ℤ sum n (λ k. occurrence (E k) g *ℤ x k))
fold-inputs n m w x E b e =
    sum-cong n (λ k. w k *ℤ x k) (λ k. sum m (λ g. occurrence (E k) g *ℤ w g) *ℤ x k) (λ k h. ap (λ (z : ℤ). z *ℤ x k) (e k h ∙ folded-sum m w (E k) (b k h)))
    ∙ law n m (λ k. occurrence (E k)) w x

pub fold-sums : (n m : ℕ) (W : ℕ → ℕ → ℤ) (x : ℕ → ℤ) (k : ℕ) (E : List SignedPlace) → T (below m E) → ((i : ℕ) → i < n → W i k *ℤ x i ≡ folded (W i) E *ℤ x i)
    → sum n (λ i. W i k *ℤ x i) ≡ folded (λ g. sum n (λ i. W i g *ℤ x i)) E
fold-sums n m W x k E b e =
    sum-cong n (λ i. W i k *ℤ x i) (λ i. sum m (λ g. W i g *ℤ occurrence E g) *ℤ x i)
    (λ i h. e i h ∙ ap (λ (z : ℤ). z *ℤ x i) (folded-sum m (W i) E b ∙ sum-cong m (λ g. occurrence E g *ℤ W i g) (λ g. W i g *ℤ occurrence E g) (λ g l. *ℤ_comm (occurrence E g) (W i g))))
    ∙ law n m W (occurrence E) x ∙ sym (folded-sum m (λ g. sum n (λ i. W i g *ℤ x i)) E b)
