-- What the lines ask for, from what a call has passed. Assumes nothing.
use mathlib.Core.Path.{◌≡◌, refl, sym, subst}
use mathlib.Core.Bool.{true, false, ◌&&◌, false≢true}
use mathlib.Core.List.{List}
use Prim.Native.Nat.{ℕ}
use borrow.Author.Tests.{ltb-true}
use lib.Dec.{ltb}
use lib.IntN.{ℤ}
use lib.ListN.{length}
use Rattle.meaning.specs.Shape.{is_size, is_kind}
use Rattle.meaning.specs.Taken.{TakenLine}
use Rattle.meaning.proofs.Cases.{and_cases, size-cases, kind-cases}
use Rattle.full_line.specs.Lines.{Place}
use Rattle.shared_steps.specs.Lines as Folded
use Rattle.shared_steps.specs.Lines.{is_shared, is_folded}
use Rattle.line.specs.Line.{is_place}

-- a place of a matrix
pub place : (kind n i j : ℕ) → is_place kind n i j ≡ true → Place n i j
place kind n i j e =
    let k = and_cases (is_kind kind) (is_size n && (ltb i n && ltb j n)) e in
    let s = and_cases (is_size n) (ltb i n && ltb j n) k.1 in
    let r = and_cases (ltb i n) (ltb j n) s.1 in
    record { size = s.0; row = ltb-true i n r.0; column = ltb-true j n r.1 }

-- the lines by halves, of kind 0
pub halves-given : {n kind a b : ℕ} → TakenLine n kind a b → kind ≡ 0 → TakenLine n 0 a b
halves-given {n} {kind} {a} {b} p e = subst (λ (k : ℕ). TakenLine n k a b) e p

-- the folded lines, of the other kinds at the sizes with shared weights
pub folded-given : {n kind : ℕ} {x y : List ℤ} → TakenLine n kind (length x) (length y) → (kind ≡ 0 → ⊥) → is_shared n ≡ true → Folded.GivenLine n kind x y
folded-given {n} {kind} p k s =
    record {
      size = s;
      known = kind-cases (λ k. (k ≡ 0 → ⊥) → is_folded k ≡ true) (λ k. refl) (λ k. refl) (λ k. absurd (k refl)) kind p.known k;
      inputs = p.long;
      outputs = p.room;
    }

-- the product of 8 points, the one size without
pub without : {n kind a b : ℕ} → TakenLine n kind a b → is_shared n ≡ false → n ≡ 8
without {n} p s =
    size-cases (λ n. is_shared n ≡ false → n ≡ 8) (λ s. absurd (false≢true (sym s))) (λ s. refl) (λ s. absurd (false≢true (sym s))) (λ s. absurd (false≢true (sym s))) n p.size s

pub eight : {n kind a b : ℕ} → TakenLine n kind a b → is_shared n ≡ false → TakenLine 8 kind a b
eight {n} {kind} {a} {b} p s = subst (λ (m : ℕ). TakenLine m kind a b) (without p s) p
