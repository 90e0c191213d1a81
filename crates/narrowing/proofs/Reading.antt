-- What is read, in a room: row after row as it was, and 0 beside and below. Assumes nothing.
use native.Mathlib.Omega.{arith}
use mathlib.Core.Path.{◌≡◌, refl, sym, ap, ◌∙◌, subst}
use mathlib.Core.Bool.{false}
use mathlib.Core.Logic.{◌⊎◌, inl, inr}
use mathlib.Core.List.{List}
use Prim.Native.Nat.{ℕ, ◌+◌, ◌*◌, ◌-◌, ◌≤◌, ◌<◌}
use native.Mathlib.Nat.{add_comm, zero-mul, one-mul, not-suc-le-zero}
use native.Mathlib.Decide.{ℕ_discrete}
use lib.IntN.{ℤ, pos}
use lib.ListN.{length, take, drop}
use lib.Seq.{get_or-take, get_or-drop}
use Rattle.algebra.specs.Lists.{at}
use mir.Syntax.{w16}
use mir.Val.{SFits}
use Rattle.algebra.proofs.Lists.{Filled, row_in, place_in, every-place}
use Rattle.algebra.proofs.Order.{le_parts, parts-fit}
use Rattle.meaning.specs.Plan.{range_of}
use Rattle.meaning.specs.Long.{beyond}
use Rattle.meaning.proofs.Cases.{le-or-lt}
use Rattle.meaning.proofs.LongCall.{inside}
use Rattle.narrowing.specs.Narrow.{GivenNarrow, Narrowed}

-- a number of the range of 15 has 16 bits
pub sixteen : (z : ℤ) → beyond (range_of 15) z ≡ false → SFits w16 z
sixteen z e =
    let w = inside (range_of 15) z e in
    parts-fit w16 z (omega (arith, le_parts w.0, le_parts w.1)) (omega (arith, le_parts w.0, le_parts w.1))

-- a lent part of k numbers from a on
pub lent_at : (c : List ℤ) (a k i : ℕ) → i < k → at (take (a + k - a) (drop a c)) i ≡ at c (a + i)
lent_at c a k i h = get_or-take (a + k - a) (drop a c) i (pos 0) (omega arith) ∙ get_or-drop a c i (pos 0)

pub narrow-none : {c room : List ℤ} {w columns rows broad : ℕ} → GivenNarrow c w columns rows broad room → Narrowed (length room) c w columns 0 broad room
narrow-none g = record { long = refl; inside = λ x y h l. absurd (not-suc-le-zero l); right = λ x y h l. g.clear _; below = λ k h. g.clear k }

-- one row more
pub narrow_next : {size : ℕ} {c r r₁ : List ℤ} (w columns broad y : ℕ) → columns ≤ broad → Narrowed size c w columns y broad r → Filled (y * broad) columns r₁ r (λ x. at c (y * w + x)) → Narrowed size c w columns (y + 1) broad r₁
narrow_next {size} {c} {r} {r₁} w columns broad y n p q =
    record {
      long = q.long ∙ p.long;
      inside = λ x z h g. one x z h g (ℕ_discrete z y);
      right = λ x z l h. aside x z l h (ℕ_discrete z y) (le-or-lt z y);
      below = λ k h. q.after k (omega (arith, h, more)) ∙ p.below k (omega (arith, h, more));
    }
  where
    more : y * broad + broad ≤ (y + 1) * broad
    more = row_in {y = y} {h = y + 1} broad (omega arith)

    one : (x z : ℕ) → x < columns → z < y + 1 → Dec (z ≡ y) → at r₁ (x + z * broad) ≡ at c (x + z * w)
    one x z h g (yes e) =
        subst (λ (z : ℕ). at r₁ (x + z * broad) ≡ at c (x + z * w)) (sym e) (ap (at r₁) (add_comm x (y * broad)) ∙ q.done x h ∙ ap (at c) (add_comm (y * w) x))
    one x z h g (no m) =
        let l : z < y = omega (arith, m) in
        q.before (x + z * broad) (omega (arith, row_in broad l)) ∙ p.inside x z h l

    aside : (x z : ℕ) → columns ≤ x → x < broad → Dec (z ≡ y) → (z ≤ y) ⊎ (y < z) → at r₁ (x + z * broad) ≡ pos 0
    aside x z l h (yes e) _ = subst (λ (z : ℕ). at r₁ (x + z * broad) ≡ pos 0) (sym e) (q.after (x + y * broad) (omega arith) ∙ p.right x y l h)
    aside x z l h (no m) (inl o) =
        let b : z < y = omega (arith, m) in
        q.before (x + z * broad) (omega (arith, row_in broad b)) ∙ p.right x z l h
    aside x z l h (no m) (inr o) = q.after (x + z * broad) (omega (arith, row_in broad o)) ∙ p.right x z l h

-- whole rows are one long row
pub narrow-whole : {size : ℕ} {c r : List ℤ} (w columns rows broad : ℕ) → columns ≡ w → columns ≤ broad → broad ≤ w → Narrowed size c (rows * w) (rows * w) 1 (rows * w) r → Narrowed size c w columns rows broad r
narrow-whole {size} {c} {r} w columns rows broad e few within n =
    record {
      long = n.long;
      inside = λ x y h g.
          let k = x + y * w in
          let l : k < rows * w = place_in {x = x} {y = y} {w = w} {h = rows} (omega (arith, e)) g in
          let z : k + 0 * (rows * w) ≡ k = omega (arith, zero-mul (rows * w)) in
          ap (λ (b : ℕ). at r (x + y * b)) same ∙ ap (at r) (sym z) ∙ n.inside k 0 l (omega arith) ∙ ap (at c) z;
      right = λ x y l h. absurd (omega (arith, same));
      below = λ k h. n.below k (omega (arith, one-mul (rows * w), subst (λ (b : ℕ). rows * b ≤ k) same h));
    }
  where
    same : broad ≡ w
    same = omega (arith, e, few, within)

pub given-whole : {c room : List ℤ} {w columns rows broad : ℕ} → columns ≡ w → GivenNarrow c w columns rows broad room → GivenNarrow c (rows * w) (rows * w) 1 (rows * w) room
given-whole {c} {room} {w} {columns} {rows} {broad} e g =
    record {
      few = omega arith;
      within = omega arith;
      there = omega (arith, one-mul (rows * w), g.there);
      low = omega (arith, one-mul (rows * w), subst (λ (b : ℕ). rows * b ≤ length room) same g.low);
      clear = g.clear;
      fits = λ k y h l.
          let z : k ≡ k + y * (rows * w) = nothing y l k in
          subst (λ (i : ℕ). SFits w16 (at c i)) z (every-place w rows (λ i. SFits w16 (at c i)) (λ x y p q. g.fits x y (omega (arith, e)) q) k h);
    }
  where
    same : broad ≡ w
    same = omega (arith, e, g.few, g.within)

    nothing : (y : ℕ) → y < 1 → (k : ℕ) → k ≡ k + y * (rows * w)
    nothing y l k = let o : 0 ≡ y = omega arith in subst (λ (y : ℕ). k ≡ k + y * (rows * w)) o (omega (arith, zero-mul (rows * w)))
