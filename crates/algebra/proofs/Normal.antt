-- A reflective normaliser for ring identities over ℤ. Assumes nothing.
--   ring (a ∷ b ∷ c ∷ []) ((ν 0 ⊕ ν 1) ⊗ ν 2 ⊖ ν 0 ⊗ ν 2) (ν 1 ⊗ ν 2) refl : (a +ℤ b) *ℤ c -ℤ a *ℤ c ≡ b *ℤ c
use mathlib.Core.Path.{◌≡◌, refl, sym, ap, ◌∙◌}
use mathlib.Core.List.{List, [], ◌∷◌}
use mathlib.Core.Bool.{Bool, true, false}
use Prim.Native.Nat.{ℕ, zero, suc}
use lib.Dec.{T, ltb, eqb, eqb→eq}
use lib.IntN.{ℤ, pos, negsuc, neg_ℤ, ◌+ℤ◌, ◌-ℤ◌, ◌*ℤ◌, +ℤ_idl, +ℤ_idr, +ℤ_assoc, +ℤ_comm, +ℤ_invr, zero-*ℤ, *ℤ-zero, *ℤ_comm}
use Rattle.algebra.proofs.Ring.{+ℤ-left-comm, add-*ℤ, *ℤ-add, neg-*ℤ, *ℤ-assoc, *ℤ-left-comm, one-*ℤ}

infixl 6 ◌⊕◌ ◌⊖◌
infixl 7 ◌⊗◌
pub data Expr : Type 0 where
  ν : ℕ → Expr
  κ : ℤ → Expr
  ◌⊕◌ ◌⊖◌ ◌⊗◌ : Expr → Expr → Expr
  ⊝ : Expr → Expr

abbrev pub nth : List ℤ → ℕ → ℤ
nth [] n = pos zero
nth (x ∷ xs) zero = x
nth (x ∷ xs) (suc n) = nth xs n

abbrev pub eval : List ℤ → Expr → ℤ
eval ρ (ν i) = nth ρ i
eval ρ (κ z) = z
eval ρ (a ⊕ b) = eval ρ a +ℤ eval ρ b
eval ρ (a ⊖ b) = eval ρ a -ℤ eval ρ b
eval ρ (a ⊗ b) = eval ρ a *ℤ eval ρ b
eval ρ (⊝ a) = neg_ℤ (eval ρ a)

-- a monomial is a sorted list of variables; a polynomial is a list of terms, sorted by monomial
abbrev pub Mono : Type 0
Mono = List ℕ

pub data Poly : Type 0 where
  nil : Poly
  term : ℤ → Mono → Poly → Poly

abbrev pub eval_m : List ℤ → Mono → ℤ
eval_m ρ [] = pos (suc zero)
eval_m ρ (i ∷ m) = nth ρ i *ℤ eval_m ρ m

abbrev pub eval_p : List ℤ → Poly → ℤ
eval_p ρ nil = pos zero
eval_p ρ (term c m p) = c *ℤ eval_m ρ m +ℤ eval_p ρ p

-- ---- monomials
abbrev pub pick_m : Bool → Mono → Mono → Mono
pick_m true a b = a
pick_m false a b = b

abbrev pub ins_m : ℕ → Mono → Mono
ins_m i [] = i ∷ []
ins_m i (j ∷ m) = let r = j ∷ ins_m i m in pick_m (ltb i j) (i ∷ j ∷ m) r

abbrev pub mul_m : Mono → Mono → Mono
mul_m [] n = n
mul_m (i ∷ m) n = ins_m i (mul_m m n)

pub data Cmp : Type 0 where
  less same more : Cmp

abbrev pub then_c : Bool → Bool → Cmp → Cmp
then_c true e c = less
then_c false true c = c
then_c false false c = more

abbrev pub lex_m : Mono → Mono → Cmp
lex_m [] [] = same
lex_m [] (j ∷ n) = less
lex_m (i ∷ m) [] = more
lex_m (i ∷ m) (j ∷ n) = let r = lex_m m n in then_c (ltb i j) (eqb i j) r

abbrev pub deg : Mono → ℕ
deg [] = zero
deg (i ∷ m) = suc (deg m)

-- by degree, and then by the variables: so a product by one monomial keeps the order
abbrev pub cmp_m : Mono → Mono → Cmp
cmp_m m n = let r = lex_m m n in then_c (ltb (deg m) (deg n)) (eqb (deg m) (deg n)) r

abbrev IsSame : Cmp → Type 0
IsSame less = ⊥
IsSame same = Unit {0}
IsSame more = ⊥

then_c-same : (l e : Bool) (c : Cmp) → IsSame (then_c l e c) → T e × IsSame c
then_c-same true e c h = absurd h
then_c-same false true c h = (tt, h)
then_c-same false false c h = absurd h

lex_m-same : (m n : Mono) → IsSame (lex_m m n) → m ≡ n
lex_m-same [] [] h = refl
lex_m-same [] (j ∷ n) h = absurd h
lex_m-same (i ∷ m) [] h = absurd h
lex_m-same (i ∷ m) (j ∷ n) h =
    let q = then_c-same (ltb i j) (eqb i j) (lex_m m n) h in
    λ t. eqb→eq i j q.0 t ∷ lex_m-same m n q.1 t

cmp_m-same : (m n : Mono) → IsSame (cmp_m m n) → m ≡ n
cmp_m-same m n h = lex_m-same m n (then_c-same (ltb (deg m) (deg n)) (eqb (deg m) (deg n)) (lex_m m n) h).1

-- ---- polynomials
abbrev pub cons : ℤ → Mono → Poly → Poly
cons (pos zero) m p = p
cons (pos (suc n)) m p = term (pos (suc n)) m p
cons (negsuc n) m p = term (negsuc n) m p

abbrev pub pick_p : Cmp → Poly → Poly → Poly → Poly
pick_p less a b c = a
pick_p same a b c = b
pick_p more a b c = c

-- c m + (q merged by f)
abbrev pub add_t : ℤ → Mono → (Poly → Poly) → Poly → Poly
add_t c m f nil = term c m (f nil)
add_t c m f (term d n q) =
    let a = term c m (f (term d n q)) in
    let b = cons (c +ℤ d) n (f q) in
    let r = term d n (add_t c m f q) in
    pick_p (cmp_m m n) a b r

abbrev pub add_p : Poly → Poly → Poly
add_p nil q = q
add_p (term c m p) q = add_t c m (λ r. add_p p r) q

-- (c m) p
abbrev pub mul_t : ℤ → Mono → Poly → Poly
mul_t c m nil = nil
mul_t c m (term d n p) = term (c *ℤ d) (mul_m m n) (mul_t c m p)

abbrev pub mul_p : Poly → Poly → Poly
mul_p nil q = nil
mul_p (term c m p) q = add_p (mul_t c m q) (mul_p p q)

abbrev pub lit : ℤ → Poly
lit c = cons c [] nil

abbrev pub norm : Expr → Poly
norm (ν i) = term (pos (suc zero)) (i ∷ []) nil
norm (κ z) = lit z
norm (a ⊕ b) = add_p (norm a) (norm b)
norm (a ⊖ b) = add_p (mul_t (negsuc zero) [] (norm b)) (norm a)
norm (a ⊗ b) = mul_p (norm a) (norm b)
norm (⊝ a) = mul_t (negsuc zero) [] (norm a)

-- ---- soundness
module _ (ρ : List ℤ) where
  pick_m-is : (b : Bool) (x y : Mono) (z : ℤ) → eval_m ρ x ≡ z → eval_m ρ y ≡ z → eval_m ρ (pick_m b x y) ≡ z
  pick_m-is true x y z p q = p
  pick_m-is false x y z p q = q

  ins_m-is : (i : ℕ) (m : Mono) → eval_m ρ (ins_m i m) ≡ nth ρ i *ℤ eval_m ρ m
  ins_m-is i [] = refl
  ins_m-is i (j ∷ m) = pick_m-is (ltb i j) (i ∷ j ∷ m) (j ∷ ins_m i m) _ refl (ap (λ (x : ℤ). nth ρ j *ℤ x) (ins_m-is i m) ∙ *ℤ-left-comm (nth ρ j) (nth ρ i) (eval_m ρ m))

  mul_m-is : (m n : Mono) → eval_m ρ (mul_m m n) ≡ eval_m ρ m *ℤ eval_m ρ n
  mul_m-is [] n = sym (one-*ℤ (eval_m ρ n))
  mul_m-is (i ∷ m) n = ins_m-is i (mul_m m n) ∙ ap (λ (x : ℤ). nth ρ i *ℤ x) (mul_m-is m n) ∙ sym (*ℤ-assoc (nth ρ i) (eval_m ρ m) (eval_m ρ n))

  cons-is : (c : ℤ) (m : Mono) (p : Poly) → eval_p ρ (cons c m p) ≡ c *ℤ eval_m ρ m +ℤ eval_p ρ p
  cons-is (pos zero) m p = sym (ap (λ (x : ℤ). x +ℤ eval_p ρ p) (zero-*ℤ (eval_m ρ m)) ∙ +ℤ_idl (eval_p ρ p))
  cons-is (pos (suc n)) m p = refl
  cons-is (negsuc n) m p = refl

  pick_p-is : (c : Cmp) (x y w : Poly) (z : ℤ) → eval_p ρ x ≡ z → (IsSame c → eval_p ρ y ≡ z) → eval_p ρ w ≡ z → eval_p ρ (pick_p c x y w) ≡ z
  pick_p-is less x y w z p q r = p
  pick_p-is same x y w z p q r = q tt
  pick_p-is more x y w z p q r = r

  add_t-is : (c : ℤ) (m : Mono) (f : Poly → Poly) (P : ℤ) → ((r : Poly) → eval_p ρ (f r) ≡ P +ℤ eval_p ρ r) → (q : Poly) → eval_p ρ (add_t c m f q) ≡ c *ℤ eval_m ρ m +ℤ P +ℤ eval_p ρ q
  add_t-is c m f P h nil = ap (λ (x : ℤ). c *ℤ eval_m ρ m +ℤ x) (h nil) ∙ sym (+ℤ_assoc (c *ℤ eval_m ρ m) P (pos zero))
  add_t-is c m f P h (term d n q) =
      pick_p-is (cmp_m m n) (term c m (f (term d n q))) (cons (c +ℤ d) n (f q)) (term d n (add_t c m f q)) _
      (ap (λ (x : ℤ). c *ℤ eval_m ρ m +ℤ x) (h (term d n q)) ∙ sym (+ℤ_assoc (c *ℤ eval_m ρ m) P (eval_p ρ (term d n q))))
      (λ e. cons-is (c +ℤ d) n (f q) ∙ (λ t. add-*ℤ c d (eval_m ρ n) t +ℤ h q t) ∙ exch (c *ℤ eval_m ρ n) (d *ℤ eval_m ρ n) P (eval_p ρ q)
      ∙ ap (λ (x : Mono). c *ℤ eval_m ρ x +ℤ P +ℤ (d *ℤ eval_m ρ n +ℤ eval_p ρ q)) (sym (cmp_m-same m n e)))
      (ap (λ (x : ℤ). d *ℤ eval_m ρ n +ℤ x) (add_t-is c m f P h q) ∙ +ℤ-left-comm (d *ℤ eval_m ρ n) (c *ℤ eval_m ρ m +ℤ P) (eval_p ρ q))
    where
      exch : (a b x y : ℤ) → (a +ℤ b) +ℤ (x +ℤ y) ≡ a +ℤ x +ℤ (b +ℤ y)
      exch a b x y = +ℤ_assoc a b (x +ℤ y) ∙ ap (λ (u : ℤ). a +ℤ u) (+ℤ-left-comm b x y) ∙ sym (+ℤ_assoc a x (b +ℤ y))

  add_p-is : (p q : Poly) → eval_p ρ (add_p p q) ≡ eval_p ρ p +ℤ eval_p ρ q
  add_p-is nil q = sym (+ℤ_idl (eval_p ρ q))
  add_p-is (term c m p) q = add_t-is c m (λ r. add_p p r) (eval_p ρ p) (λ r. add_p-is p r) q

  -- (c d)(m n) = (c m)(d n)
  swap : (c d m n : ℤ) → c *ℤ d *ℤ (m *ℤ n) ≡ c *ℤ m *ℤ (d *ℤ n)
  swap c d m n = *ℤ-assoc c d (m *ℤ n) ∙ ap (λ (x : ℤ). c *ℤ x) (*ℤ-left-comm d m n) ∙ sym (*ℤ-assoc c m (d *ℤ n))

  mul_t-is : (c : ℤ) (m : Mono) (p : Poly) → eval_p ρ (mul_t c m p) ≡ c *ℤ eval_m ρ m *ℤ eval_p ρ p
  mul_t-is c m nil = sym (*ℤ-zero (c *ℤ eval_m ρ m))
  mul_t-is c m (term d n p) =
      (λ t. (ap (λ (x : ℤ). c *ℤ d *ℤ x) (mul_m-is m n) ∙ swap c d (eval_m ρ m) (eval_m ρ n)) t +ℤ mul_t-is c m p t)
      ∙ sym (*ℤ-add (c *ℤ eval_m ρ m) (d *ℤ eval_m ρ n) (eval_p ρ p))

  mul_p-is : (p q : Poly) → eval_p ρ (mul_p p q) ≡ eval_p ρ p *ℤ eval_p ρ q
  mul_p-is nil q = sym (zero-*ℤ (eval_p ρ q))
  mul_p-is (term c m p) q =
      add_p-is (mul_t c m q) (mul_p p q) ∙ (λ t. mul_t-is c m q t +ℤ mul_p-is p q t) ∙ sym (add-*ℤ (c *ℤ eval_m ρ m) (eval_p ρ p) (eval_p ρ q))

  neg_p-is : (p : Poly) → eval_p ρ (mul_t (negsuc zero) [] p) ≡ neg_ℤ (eval_p ρ p)
  neg_p-is p = mul_t-is (negsuc zero) [] p ∙ neg-*ℤ (pos (suc zero)) (eval_p ρ p) ∙ ap neg_ℤ (one-*ℤ (eval_p ρ p))

  lit_is : (c : ℤ) → eval_p ρ (lit c) ≡ c
  lit_is c = cons-is c [] nil ∙ +ℤ_idr (c *ℤ pos (suc zero)) ∙ *ℤ_comm c (pos (suc zero)) ∙ one-*ℤ c

  pub sound : (e : Expr) → eval_p ρ (norm e) ≡ eval ρ e
  sound (ν i) = +ℤ_idr (pos (suc zero) *ℤ (nth ρ i *ℤ pos (suc zero))) ∙ one-*ℤ (nth ρ i *ℤ pos (suc zero)) ∙ *ℤ_comm (nth ρ i) (pos (suc zero)) ∙ one-*ℤ (nth ρ i)
  sound (κ z) = lit_is z
  sound (a ⊕ b) = add_p-is (norm a) (norm b) ∙ (λ t. sound a t +ℤ sound b t)
  sound (a ⊖ b) = add_p-is (mul_t (negsuc zero) [] (norm b)) (norm a) ∙ (λ t. (neg_p-is (norm b) ∙ ap neg_ℤ (sound b)) t +ℤ sound a t) ∙ +ℤ_comm (neg_ℤ (eval ρ b)) (eval ρ a)
  sound (a ⊗ b) = mul_p-is (norm a) (norm b) ∙ (λ t. sound a t *ℤ sound b t)
  sound (⊝ a) = neg_p-is (norm a) ∙ ap neg_ℤ (sound a)

  pub ring : (e f : Expr) → norm e ≡ norm f → eval ρ e ≡ eval ρ f
  ring e f h = sym (sound e) ∙ ap (eval_p ρ) h ∙ sound f

-- ---- the same by a test: `ring! ρ e f tt`
abbrev pub none : Poly → Bool
none nil = true
none (term c m p) = false

none_is : (ρ : List ℤ) (p : Poly) → T (none p) → eval_p ρ p ≡ pos zero
none_is ρ nil t = refl
none_is ρ (term c m p) t = absurd t

pub ring! : (ρ : List ℤ) (e f : Expr) → T (none (norm (e ⊖ f))) → eval ρ e ≡ eval ρ f
ring! ρ e f t =
    sym (+ℤ_idr (eval ρ e)) ∙ ap (λ (x : ℤ). eval ρ e +ℤ x) (sym (+ℤ_comm (neg_ℤ (eval ρ f)) (eval ρ f) ∙ +ℤ_invr (eval ρ f)))
    ∙ sym (+ℤ_assoc (eval ρ e) (neg_ℤ (eval ρ f)) (eval ρ f)) ∙ ap (λ (x : ℤ). x +ℤ eval ρ f) (sym (sound ρ (e ⊖ f)) ∙ none_is ρ (norm (e ⊖ f)) t) ∙ +ℤ_idl (eval ρ f)
