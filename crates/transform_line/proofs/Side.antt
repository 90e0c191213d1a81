-- The one stage of a side of 1: what it is given, and the line that it leaves. Assumes nothing.
use native.Mathlib.Omega.{arith}
use mathlib.Core.Path.{◌≡◌, refl, sym, ap, ◌∙◌, subst}
use mathlib.Core.Bool.{true}
use mathlib.Core.List.{List, ◌++◌}
use Prim.Native.Nat.{ℕ, ◌+◌, ◌*◌, ◌-◌, ◌^◌, ◌≤◌, ◌<◌, min}
use lib.IntN.{ℤ, pos, ◌+ℤ◌, ◌*ℤ◌, +ℤ_idl, +ℤ_idr, *ℤ-zero}
use lib.ListN.{length}
use mir.Syntax.{w16, w32}
use mir.Val.{SFits, to_z, of_z}
use Rattle.algebra.specs.Sum.{sum}
use Rattle.algebra.specs.Shift.{nearest}
use Rattle.algebra.specs.Lists.{at, tabulate, block}
use Rattle.algebra.proofs.Sum.{sum-cong, sum-rest}
use Rattle.algebra.proofs.Lists.{block_none, block_more, tab-cong}
use Rattle.meaning.specs.Weights.{weight}
use Rattle.meaning.specs.Line.{inverse_sum}
use Rattle.meaning.specs.Shape.{has_line}
use Rattle.meaning.proofs.Cases.{has-cases}
use Rattle.product.specs.Product.{shifted, Rounding}
use Rattle.product.proofs.Laid.{half_is, half-rounds}
use Rattle.dct2_block.proofs.Flat.{first-weight}
use Rattle.transform_stages.specs.Work.{rounded_sum}
use Rattle.narrowing.specs.Narrow.{GivenNarrow, Narrowed}
use Rattle.transform_line.specs.Lines.{lines_of, two_at, GivenRun, GivenTwoPoints, GivenSide}
use Rattle.transform_line.proofs.Runs.{kept_in}

-- ---- which lines there are
pub above-two : (kind n : ℕ) → has_line kind n ≡ true → (n ≡ 2 → ⊥) → 2 < n
above-two =
    has-cases (λ kind n. (n ≡ 2 → ⊥) → 2 < n) (λ _. omega arith) (λ _. omega arith) (λ _. omega arith) (λ _. omega arith) (λ _. omega arith) (λ _. omega arith) (λ _. omega arith) (λ _. omega arith)
    (λ o. absurd (o refl)) (λ _. omega arith) (λ _. omega arith) (λ _. omega arith) (λ _. omega arith) (λ _. omega arith)

pub kind-of-two : (kind n : ℕ) → has_line kind n ≡ true → n ≡ 2 → kind ≡ 0
kind-of-two =
    has-cases (λ kind n. n ≡ 2 → kind ≡ 0) (λ e. absurd (omega (arith, e))) (λ e. absurd (omega (arith, e))) (λ e. absurd (omega (arith, e))) (λ e. absurd (omega (arith, e)))
    (λ e. absurd (omega (arith, e))) (λ e. absurd (omega (arith, e))) (λ e. absurd (omega (arith, e))) (λ e. absurd (omega (arith, e)))
    (λ e. refl) (λ e. refl) (λ e. refl) (λ e. refl) (λ e. refl) (λ e. refl)

-- one row is a line
one-row : (n : ℕ) (f : ℕ → ℕ → ℤ) → block n 1 f ≡ tabulate n (λ x. f x 0)
one-row n f = block_more n 0 f ∙ ap (λ (l : List ℤ). l ++ tabulate n (λ x. f x 0)) (block_none n f)

module _ {kind n count last : ℕ} {c : List ℤ} (g : GivenSide kind n count last c) where
  read-in : count ≤ min n 32
  read-in = kept_in kind n count g.kept

  pub first-there : 0 < length c
  first-there = omega (arith, read-in, g.some, g.long)

  pub narrow-given : {room : List ℤ} (step : ℕ) → step ≡ min n 32 → length room ≡ 64 → ((k : ℕ) → at room k ≡ pos 0) → GivenNarrow c n count 1 step room
  narrow-given step all long clear =
      record {
        few = omega (arith, read-in, all);
        within = omega (arith, all);
        there = omega (arith, g.long);
        low = omega (arith, long, all);
        clear = clear;
        fits = λ x y h l. let here : x ≡ x + y * n = omega (arith, ap (λ (k : ℕ). k * n) (none y l)) in subst (λ (k : ℕ). SFits w16 (at c k)) here (g.fits x h);
      }
    where
      none : (y : ℕ) → y < 1 → y ≡ 0
      none y l = omega arith

  module _ {m : List ℤ} {half : ℤ} (step : ℕ) (all : step ≡ min n 32) (r : Narrowed 64 c n count 1 step m) (q : (half ≡ pos (2 ^ (last - 1))) × Rounding half last) where
    inside : (i : ℕ) → i < count → at m i ≡ at c i
    inside i h = ap (at m) (omega arith) ∙ r.inside i 0 h (omega arith) ∙ ap (at c) (omega arith)

    behind : (i : ℕ) → count ≤ i → i < step → at m i ≡ pos 0
    behind i l h = ap (at m) (omega arith) ∙ r.right i 0 l h

    -- the numbers as they stand in the room
    read-line : (x : ℕ → ℤ) (inputs j : ℕ) → ((i : ℕ) → x i ≡ at m i) → count ≤ inputs → inputs ≤ step → inverse_sum kind n inputs x j ≡ inverse_sum kind n count (at c) j
    unfolding inverse_sum
    read-line x inputs j same few most =
        sum-rest count inputs (λ i. weight kind n i j *ℤ x i) few (λ i h l. ap (λ (z : ℤ). weight kind n i j *ℤ z) (same i ∙ behind i h (omega arith)) ∙ *ℤ-zero (weight kind n i j))
        ∙ sum-cong count _ _ (λ i h. ap (λ (z : ℤ). weight kind n i j *ℤ z) (same i ∙ inside i h))

    here : (l i : ℕ) → l < 1 → step * l + i ≡ i
    here l i v = let none : l ≡ 0 = omega arith in ap (λ (l : ℕ). step * l + i) none ∙ omega arith

    pub run-given : (n ≡ 2 → ⊥) → GivenRun kind n (length c) count 1 step (to_z w32 (of_z w32 half)) last m c
    run-given more =
        record {
          given = record { same = g.long; few = omega arith; near = omega (arith, all); held = r.long; rounding = half-rounds q; room = omega (arith, g.long) };
          line = g.line;
          more = above-two kind n g.line more;
          kept = g.kept;
          clear = λ i l h k v. ap (at m) (here l i v) ∙ behind i h (omega (arith, k, all));
        }

    pub line-done : {o : List ℤ} → o ≡ lines_of kind n count 1 step (to_z w32 (of_z w32 half)) last m → o ≡ tabulate n (rounded_sum kind n count last c)
    line-done e =
        e ∙ one-row n _
        ∙ tab-cong n _ _ (λ j _. (λ i. shifted (half_is q i) last (read-line (λ i. at m (step * 0 + i)) count j (λ i. ap (at m) (here 0 i (omega arith))) (omega arith) (omega (arith, read-in, all)) i)))

    pub two-given : n ≡ 2 → GivenTwoPoints 2 1 1 (to_z w32 (of_z w32 half)) last m c
    two-given e = record { there = λ y h. omega (arith, r.long); low = omega arith; rounding = half-rounds q; room = omega (arith, g.long, e) }

    pub two-done : {o : List ℤ} → n ≡ 2 → o ≡ block 2 1 (two_at m 2 1 (to_z w32 (of_z w32 half)) last) → o ≡ tabulate n (rounded_sum kind n count last c)
    two-done e d =
        d ∙ one-row 2 _ ∙ ap (λ (k : ℕ). tabulate k (λ x. two_at m 2 1 (to_z w32 (of_z w32 half)) last x 0)) (sym e)
        ∙ tab-cong n _ _ (λ j _. (λ i. shifted (half_is q i) last (inverse_sum (sym (kind-of-two kind n g.line e) i) (sym e i) 2 (λ i. at m (0 * 2 + i * 1)) j))
        ∙ ap (nearest last) (read-line (λ i. at m (0 * 2 + i * 1)) 2 j (λ i. ap (at m) (omega arith)) (omega (arith, read-in, e)) (omega (arith, all, e))))

  -- one coefficient of kind 0
  one-sum : kind ≡ 0 → count ≡ 1 → (j : ℕ) → pos 64 *ℤ at c 0 +ℤ pos 64 *ℤ pos 0 ≡ inverse_sum kind n count (at c) j
  unfolding inverse_sum sum
  one-sum e d j =
      ap (λ (z : ℤ). pos 64 *ℤ at c 0 +ℤ z) (*ℤ-zero (pos 64)) ∙ +ℤ_idr (pos 64 *ℤ at c 0)
      ∙ sym ((λ i. sum (d i) (λ k. weight (e i) n k j *ℤ at c k)) ∙ +ℤ_idl (weight 0 n 0 j *ℤ at c 0) ∙ ap (λ (z : ℤ). z *ℤ at c 0) (first-weight n j))

  pub alone-done : {half v z : ℤ} {o : List ℤ} → kind ≡ 0 → count ≡ 1 → (half ≡ pos (2 ^ (last - 1))) × Rounding half last → v ≡ at c 0
      → z ≡ shifted (to_z w32 (of_z w32 half)) last (pos 64 *ℤ v +ℤ pos 64 *ℤ pos 0) → o ≡ tabulate (length c) (λ _. z) → o ≡ tabulate n (rounded_sum kind n count last c)
  alone-done {half} {v} {z} e d q p s t =
      t ∙ ap (λ (k : ℕ). tabulate k (λ _. z)) g.long
      ∙ tab-cong n _ _ (λ j _. s ∙ (λ i. shifted (half_is q i) last (pos 64 *ℤ p i +ℤ pos 64 *ℤ pos 0)) ∙ ap (nearest last) (one-sum e d j))
