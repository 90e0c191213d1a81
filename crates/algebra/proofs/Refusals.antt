-- Tests in two parts: where the first part refuses, its number is the answer (`refused-first`); where it does not, the second part
-- decides (`passed_first`). What a number of 0 says: no test applied (`clear`). And what is made of two lists that begin alike
-- (`side_by_side`), as with a test left out. Assumes nothing.
use mathlib.Core.Path.{◌≡◌, refl, sym, ap, ◌∙◌, subst}
use mathlib.Core.Bool.{Bool, true, false, cond, not, ◌&&◌}
use mathlib.Core.List.{List, [], ◌∷◌, ◌++◌}
use Prim.Native.Nat.{ℕ}
use lib.Dec.{T, eqb, eqb→eq}
use Rattle.algebra.specs.Refusals.{Test, first_of, number_of}
use Rattle.algebra.proofs.Table.{and_left, and_right}

-- ---- no test of a list applies
abbrev pub Clear : List Test → Type 0
Clear [] = Unit {0}
Clear (t ∷ ts) = (t.applies ≡ false) × Clear ts

pub clear-split : (ts us : List Test) → Clear (ts ++ us) → Clear ts × Clear us
clear-split [] us c = (tt, c)
clear-split (t ∷ ts) us c = ((c.0, (clear-split ts us c.1).0), (clear-split ts us c.1).1)

pub clear-join : (ts us : List Test) → Clear ts → Clear us → Clear (ts ++ us)
clear-join [] us c d = d
clear-join (t ∷ ts) us c d = (c.0, clear-join ts us c.1 d)

pub none-applies : {A : Type 0} (refused : ℕ → ℕ → A) (done : A) (ts : List Test) → Clear ts → first_of ts refused done ≡ done
none-applies refused done [] c = refl
none-applies refused done (t ∷ ts) (e, c) = rw e (none-applies refused done ts c)

-- no number of a list is 0
abbrev pub numbered : List Test → Bool
numbered [] = true
numbered (t ∷ ts) = not (eqb t.number 0) && numbered ts

-- an outcome that tells the number of its refusal, and whose number is 0
module _ {A : Type 0} (number : A → ℕ) (refused : ℕ → ℕ → A) (done : A) (tells : (n place : ℕ) → number (refused n place) ≡ n) where
  pub clear : (ts : List Test) → T (numbered ts) → number (first_of ts refused done) ≡ 0 → Clear ts
  clear [] n e = tt
  clear (t ∷ ts) n e =
      let here = and_left (not (eqb t.number 0)) (numbered ts) n in
      one t.applies here (λ e. clear ts (and_right (not (eqb t.number 0)) (numbered ts) n) e) e
    where
      one : (b : Bool) → T (not (eqb t.number 0)) → (number (first_of ts refused done) ≡ 0 → Clear ts)
          → number (cond b (refused t.number t.place) (first_of ts refused done)) ≡ 0 → (b ≡ false) × Clear ts
      one true n next e = absurd (subst (λ (m : ℕ). T (not (eqb m 0))) (sym (tells t.number t.place) ∙ e) n)
      one false n next e = (refl, next e)

-- by the number alone
pub no_number : (ts : List Test) → T (numbered ts) → number_of ts ≡ 0 → Clear ts
no_number = clear (λ (n : ℕ). n) (λ number place. number) 0 (λ n place. refl)

-- ---- two lists that begin alike: what holds of both outcomes where one of these tests refuses, and where none applies, holds of both
module _ {A B : Type 0} (f : ℕ → ℕ → A) (d : A) (g : ℕ → ℕ → B) (e : B) (P : A → B → Type 0) (refused : (number place : ℕ) → P (f number place) (g number place)) (us vs : List Test) where
  pub side_by_side : (ts : List Test) → (Clear ts → P (first_of us f d) (first_of vs g e)) → P (first_of (ts ++ us) f d) (first_of (ts ++ vs) g e)
  side_by_side [] h = h tt
  side_by_side (t ∷ ts) h = one t.applies refl (λ h. side_by_side ts h)
    where
      one : (b : Bool) → t.applies ≡ b → ((Clear ts → P (first_of us f d) (first_of vs g e)) → P (first_of (ts ++ us) f d) (first_of (ts ++ vs) g e))
          → P (cond b (f t.number t.place) (first_of (ts ++ us) f d)) (cond b (g t.number t.place) (first_of (ts ++ vs) g e))
      one true q next = refused t.number t.place
      one false q next = next (λ c. h (q, c))

module _ {A : Type 0} (refused : ℕ → ℕ → A) (done : A) where
  -- a test that does not apply where those before it do not can be left out
  pub left_out : (ts : List Test) (t : Test) (us : List Test) → (Clear ts → t.applies ≡ false) → first_of (ts ++ (t ∷ us)) refused done ≡ first_of (ts ++ us) refused done
  left_out ts t us none = side_by_side refused done refused done (λ x y. x ≡ y) (λ number place. refl) (t ∷ us) us ts (λ c. rw (none c))

-- ---- tests in two parts; those of the first name no place
abbrev pub plain : List Test → Bool
plain [] = true
plain (t ∷ ts) = eqb t.place 0 && plain ts

module _ {A : Type 0} (us : List Test) (f : ℕ → ℕ → A) (d : A) where
  pub refused-first : (ts : List Test) → T (plain ts) → (number_of ts ≡ 0 → ⊥) → first_of (ts ++ us) f d ≡ f (number_of ts) 0
  refused-first [] p n = absurd (n refl)
  refused-first (t ∷ ts) p n =
      here t.applies (and_left (eqb t.place 0) (plain ts) p) (λ m. refused-first ts (and_right (eqb t.place 0) (plain ts) p) m) n
    where
      here : (b : Bool) → T (eqb t.place 0) → ((number_of ts ≡ 0 → ⊥) → first_of (ts ++ us) f d ≡ f (number_of ts) 0)
          → (cond b t.number (number_of ts) ≡ 0 → ⊥) → cond b (f t.number t.place) (first_of (ts ++ us) f d) ≡ f (cond b t.number (number_of ts)) 0
      here true z next n = ap (f t.number) (eqb→eq t.place 0 z)
      here false z next n = next n

  past : (ts : List Test) → Clear ts → first_of (ts ++ us) f d ≡ first_of us f d
  past [] c = refl
  past (t ∷ ts) (e, c) = rw e (past ts c)

  pub passed_first : (ts : List Test) → T (numbered ts) → number_of ts ≡ 0 → first_of (ts ++ us) f d ≡ first_of us f d
  passed_first ts n e = past ts (no_number ts n e)
