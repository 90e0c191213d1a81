-- Numbers that were clipped and stand at no end of the range are as they were: so what is read is narrowed. Assumes nothing.
use native.Mathlib.Omega.{arith}
use native.Mathlib.Nat.{zero-add, add_comm, mul-le-mul_right, lt_of_lt_of_le}
use native.Mathlib.Decide.{ℕ_discrete}
use mathlib.Core.Path.{◌≡◌, sym, ap, ◌∙◌, subst}
use mathlib.Core.Logic.{◌⊎◌, inl, inr}
use mathlib.Core.List.{List}
use Prim.Native.Nat.{ℕ, ◌+◌, ◌*◌, ◌≤◌, ◌<◌}
use lib.IntN.{ℤ, pos}
use lib.ListN.{length}
use mir.Syntax.{w16}
use mir.Val.{SFits}
use Rattle.algebra.specs.Clip.{clip}
use Rattle.algebra.specs.Lists.{at}
use Rattle.algebra.proofs.Clip.{clip-inner, clip-low, clip-high}
use Rattle.algebra.proofs.Lists.{place_in, row_in}
use Rattle.algebra.proofs.Order.{le_parts, parts-le, parts-fit}
use Rattle.meaning.specs.Plan.{short_range}
use Rattle.meaning.proofs.Cases.{le-or-lt}
use Rattle.kernel_steps.specs.Written.{WroteFrom}
use Rattle.dct2_block.specs.Stages.{Inner}
use Rattle.narrowing.specs.Narrow.{Narrowed}
use Rattle.clipping.specs.Clips.{Clips}

-- a clipped number has 16 bits
clip-fits : (z : ℤ) → SFits w16 (clip short_range z)
unfolding short_range
clip-fits z =
    let e = parts-le short_range.low short_range.high (omega arith) in
    let l = clip-low short_range z e in
    let h = clip-high short_range z e in
    parts-fit w16 (clip short_range z) (omega (arith, le_parts l, le_parts h)) (omega (arith, le_parts l, le_parts h))

module _ {c room : List ℤ} {size w columns rows : ℕ} (long : length room ≡ size) (within : columns ≤ w) (low : rows * w ≤ size) (p : Clips c w columns rows room)
    (inner : (k : ℕ) → k < length room → Inner (at room k)) where
  same : (x y : ℕ) → x < columns → y < rows → clip short_range (at c (x + y * w)) ≡ at c (x + y * w)
  same x y h l =
      let there : x + y * w < rows * w = place_in {x = x} {y = y} {w = w} {h = rows} (lt_of_lt_of_le h within) l in
      let i = subst Inner (p.inside x y h l) (inner (x + y * w) (omega (arith, there, long, low))) in
      clip-inner short_range (at c (x + y * w)) i.0 i.1

  pub held : Narrowed size c w columns rows w room
  held = record { long = long; inside = λ x y h l. p.inside x y h l ∙ same x y h l; right = p.right; below = p.below }

  pub fits : (x y : ℕ) → x < columns → y < rows → SFits w16 (at c (x + y * w))
  fits x y h l = subst (SFits w16) (same x y h l) (clip-fits (at c (x + y * w)))

pub as_many : {c room : List ℤ} {w columns columns₁ rows rows₁ : ℕ} → columns ≡ columns₁ → rows ≡ rows₁ → Clips c w columns rows room → Clips c w columns₁ rows₁ room
as_many {c} {room} {w} d e p = subst (λ (p : ℕ × ℕ). Clips c w p.0 p.1 room) (λ i. (d i, e i)) p

-- whole rows are one stretch
pub whole : (c room room₁ : List ℤ) (w rows : ℕ) → ((k : ℕ) → at room k ≡ pos 0) → WroteFrom 0 (rows * w) room₁ room (λ k. clip short_range (at c (0 + k))) → Clips c w w rows room₁
whole c room room₁ w rows zeros p =
    record {
      inside = λ x y h l.
          let q : 0 + (x + y * w) ≡ x + y * w = zero-add (x + y * w) in
          ap (at room₁) (sym q) ∙ p.done (x + y * w) (place_in {x = x} {y = y} {w = w} {h = rows} h l) ∙ ap (λ (k : ℕ). clip short_range (at c k)) q;
      right = λ x y l h. absurd (omega arith);
      below = λ k h. p.after k (omega (arith, h)) ∙ zeros k;
    }

pub no_row : (c room : List ℤ) (w columns : ℕ) → ((k : ℕ) → at room k ≡ pos 0) → Clips c w columns 0 room
no_row c room w columns zeros = record { inside = λ x y h l. absurd (omega arith); right = λ x y l h. zeros (x + y * w); below = λ k h. zeros k }

-- one row more
pub next_row : (c room room₁ : List ℤ) (w columns y : ℕ) → columns ≤ w → Clips c w columns y room
    → WroteFrom (y * w) columns room₁ room (λ k. clip short_range (at c (y * w + k))) → Clips c w columns (y + 1) room₁
next_row c room room₁ w columns y within s p =
    record {
      inside = λ x z h l. inside x z h l (ℕ_discrete z y);
      right = λ x z l h. right x z l h (le-or-lt y z);
      below = λ k h. let o : y * w + w ≤ (y + 1) * w = row_in {y = y} {h = y + 1} w (omega arith) in p.after k (omega (arith, o, h, within)) ∙ s.below k (omega (arith, o, h));
    }
  where
    inside : (x z : ℕ) → x < columns → z < y + 1 → Dec (z ≡ y) → at room₁ (x + z * w) ≡ clip short_range (at c (x + z * w))
    inside x z h l (yes e) =
        let q : x + y * w ≡ y * w + x = add_comm x (y * w) in
        subst (λ (z : ℕ). at room₁ (x + z * w) ≡ clip short_range (at c (x + z * w))) (sym e) (ap (at room₁) q ∙ p.done x h ∙ ap (λ (k : ℕ). clip short_range (at c k)) (sym q))
    inside x z h l (no n) =
        let g : z < y = omega (arith, n, l) in
        p.before (x + z * w) (place_in {x = x} {y = z} {w = w} {h = y} (lt_of_lt_of_le h within) g) ∙ s.inside x z h g

    right : (x z : ℕ) → columns ≤ x → x < w → (y ≤ z) ⊎ (z < y) → at room₁ (x + z * w) ≡ pos 0
    right x z l h (inl g) = p.after (x + z * w) (omega (arith, mul-le-mul_right w g, l)) ∙ s.right x z l h
    right x z l h (inr g) = p.before (x + z * w) (place_in {x = x} {y = z} {w = w} {h = y} h g) ∙ s.right x z l h
