-- Lines by pairs are the lines of their kind, and what stands behind the inputs that are read adds nothing. Assumes nothing.
use native.Mathlib.Omega.{arith}
use mathlib.Core.Path.{◌≡◌, refl, sym, ap, ◌∙◌, subst}
use mathlib.Core.Bool.{Bool, true, false, cond}
use mathlib.Core.Logic.{inl}
use mathlib.Core.List.{List, ◌++◌}
use Prim.Native.Nat.{ℕ, ◌+◌, ◌*◌, ◌≤◌, ◌<◌, min}
use native.Mathlib.Nat.{mul-le-mul}
use lib.IntN.{ℤ, pos, ◌*ℤ◌, *ℤ_comm, *ℤ-zero}
use lib.Dec.{eqb}
use borrow.Author.Tests.{eqb-true}
use lib.ListN.{length, drop}
use mir.Syntax.{w32}
use mir.Val.{SFits, to_z, of_z}
use mir.ValLaws.{to_z-of_z}
use Rattle.algebra.specs.Sum.{sum}
use Rattle.algebra.specs.Lists.{at, block}
use Rattle.algebra.proofs.Sum.{sum-cong, sum-rest}
use Rattle.algebra.proofs.Lists.{block_cong, block-length}
use Rattle.meaning.specs.Weights.{weight, dct2}
use Rattle.meaning.specs.Line.{inverse_sum}
use Rattle.meaning.specs.Shape.{has_line, most_kept}
use Rattle.meaning.proofs.Cases.{pick, zero-cases, has-cases}
use Rattle.meaning.proofs.Sizes.{weight_most}
use Rattle.product.specs.Product.{spot, Laid, line_sum, shifted, Rounding, Lines}
use Rattle.product.proofs.Laid.{spot-two, lines-given, lines_are}
use Rattle.inverse_stage.proofs.Work.{all-written}
use Rattle.transform_line.specs.Lines.{lines_of, GivenLines, GivenRun}

module _ (kind n : ℕ) {counted count step : ℕ} {half : ℤ} {shift : ℕ} {m out t : List ℤ} (f : SFits w32 half) (g : GivenLines n counted count step half shift m out)
    (pairs : ℕ) (u : Laid n pairs 2 (2 * n) (λ i j. weight kind n i j) t) (some : 0 < pairs) (few : pairs ≤ 16) where
  inputs : Laid count pairs step 2 (λ i l. at m (step * l + i)) m
  inputs =
      record {
        held = λ i l h k. let one : l ≤ 1 = omega (arith, g.few) in let far : step * l ≤ 32 * 1 = mul-le-mul g.near one in omega (arith, far, g.held);
        right = λ i l h k. ap (λ (j : ℕ). at m (step * l + j)) (spot-two i);
      }

  -- the half as it is handed on
  handed : to_z w32 (of_z w32 half) ≡ half
  handed = to_z-of_z w32 half f

  pub asks : Lines count counted pairs m step 2 t (2 * n) × (Rounding (to_z w32 (of_z w32 half)) shift × (count * counted ≤ length out))
  asks =
      subst (λ (k : ℕ). Lines count k pairs m step 2 t (2 * n) × (Rounding (to_z w32 (of_z w32 half)) shift × (count * k ≤ length out))) (sym g.same)
      (lines-given inputs u some few (λ i j l. inl (weight_most kind n i j)), (subst (λ (z : ℤ). Rounding z shift) (sym handed) g.rounding, omega (arith, g.room)))

  pub leaves : {r : List ℤ} → r ≡ block counted count (λ j l. shifted (to_z w32 (of_z w32 half)) shift (line_sum m (step * l) 2 t (2 * n) pairs j)) ++ drop (count * counted) out
      → r ≡ lines_of kind n (2 * pairs) count step half shift m
  unfolding inverse_sum
  leaves q =
      q ∙ (λ i. block (g.same i) count (λ j l. shifted (handed i) shift (line_sum m (step * l) 2 t (2 * n) pairs j)) ++ drop (count * g.same i) out)
      ∙ all-written (count * n) _ out (omega (arith, g.room))
      ∙ lines_are inputs u half shift
      ∙ block_cong n count _ _ (λ j l _ _. ap (shifted half shift) (sum-cong (2 * pairs) _ _ (λ i _. *ℤ_comm (at m (step * l + i)) (weight kind n i j))))

-- no more is read than there is, and than 32, or 16 of kinds 1 and 2
pub kept_in : (kind n live : ℕ) → live ≤ most_kept kind n → live ≤ min n 32
unfolding most_kept
kept_in kind n live h = pick (λ k. live ≤ min n k → live ≤ min n 32) (eqb kind 0) (λ l. l) (λ l. omega (arith, l)) h

pub kept-few : (kind n live : ℕ) → (kind ≡ 0 → ⊥) → live ≤ most_kept kind n → live ≤ min n 16
unfolding most_kept
kept-few kind n live other h = either (eqb kind 0) refl h
  where
    either : (b : Bool) → eqb kind 0 ≡ b → live ≤ min n (cond b 32 16) → live ≤ min n 16
    either true e l = absurd (other (eqb-true kind 0 e))
    either false e l = l

-- the stored weights of 64 points
pub of-64 : {t : List ℤ} → Laid 64 16 2 128 (dct2 64) t → Laid 64 16 2 (2 * 64) (λ i j. weight 0 64 i j) t
unfolding weight
of-64 z = record { held = z.held; right = z.right }

-- inputs that are 0 add nothing
pub fewer : (kind n inputs live count step : ℕ) (half : ℤ) (shift : ℕ) (m : List ℤ) → live ≤ inputs → ((i l : ℕ) → live ≤ i → i < inputs → l < count → at m (step * l + i) ≡ pos 0)
    → lines_of kind n inputs count step half shift m ≡ lines_of kind n live count step half shift m
unfolding inverse_sum
fewer kind n inputs live count step half shift m few clear =
    block_cong n count _ _ (λ j l _ k. ap (shifted half shift)
    (sum-rest live inputs (λ i. weight kind n i j *ℤ at m (step * l + i)) few
    (λ i h q. ap (λ (z : ℤ). weight kind n i j *ℤ z) (clear i l h q k) ∙ *ℤ-zero (weight kind n i j))))

-- .. of lines as they are run: as many inputs as there are, or 32
pub ran : {kind n counted live count step : ℕ} {half : ℤ} {shift : ℕ} {m out r : List ℤ} → GivenRun kind n counted live count step half shift m out
    → (inputs : ℕ) → live ≤ inputs → inputs ≤ min n 32 → r ≡ lines_of kind n inputs count step half shift m → r ≡ lines_of kind n live count step half shift m
ran {kind} {n} {counted} {live} {count} {step} {half} {shift} {m} g inputs few within e =
    e ∙ fewer kind n inputs live count step half shift m few (λ i l h q. g.clear i l h (omega (arith, within, q)))

-- ---- the same at the size and the number of lines that a call names
module _ {kind n counted live count step : ℕ} {half : ℤ} {shift : ℕ} {m out : List ℤ} (f : SFits w32 half) (g : GivenRun kind n counted live count step half shift m out)
    (size many : ℕ) (e : n ≡ size) (d : count ≡ many) where
  pub run_at : GivenRun kind size counted live many step (to_z w32 (of_z w32 half)) shift m out
  run_at =
      subst (λ (k : ℕ). GivenRun kind k counted live many step (to_z w32 (of_z w32 half)) shift m out) e
      (subst (λ (k : ℕ). GivenRun kind n counted live k step (to_z w32 (of_z w32 half)) shift m out) d
      (subst (λ (z : ℤ). GivenRun kind n counted live count step z shift m out) (sym (to_z-of_z w32 half f)) g))

  pub came : {r : List ℤ} (inputs : ℕ) → live ≤ inputs → inputs ≤ min n 32 → r ≡ lines_of kind size inputs many step (to_z w32 (of_z w32 half)) shift m → r ≡ lines_of kind n live count step half shift m
  came inputs few within q = ran g inputs few within (q ∙ (λ i. lines_of kind (sym e i) inputs (sym d i) step (to_z-of_z w32 half f i) shift m))

  -- .. of as many inputs as are read
  pub came-live : {r : List ℤ} → r ≡ lines_of kind size live many step (to_z w32 (of_z w32 half)) shift m → r ≡ lines_of kind n live count step half shift m
  came-live q = came live (omega arith) (kept_in kind n live g.kept) q

-- the list is as long as before
pub as_long : {n counted count step : ℕ} {half : ℤ} {shift : ℕ} {m out r : List ℤ} → GivenLines n counted count step half shift m out → (f : ℕ → ℕ → ℤ) → r ≡ block n count f → length r ≡ length out
as_long {n} {counted} {count} g f e = ap length e ∙ block-length n count f ∙ sym g.room

-- ---- the last of the sizes
pub is_64 : (n : ℕ) → has_line 0 n ≡ true → 2 < n → (n ≡ 4 → ⊥) → (n ≡ 8 → ⊥) → (n ≡ 16 → ⊥) → (n ≡ 32 → ⊥) → n ≡ 64
is_64 n h = zero-cases (λ n. 2 < n → (n ≡ 4 → ⊥) → (n ≡ 8 → ⊥) → (n ≡ 16 → ⊥) → (n ≡ 32 → ⊥) → n ≡ 64)
    (λ m a b c d. absurd (omega arith)) (λ m a b c d. absurd (a refl)) (λ m a b c d. absurd (b refl)) (λ m a b c d. absurd (c refl)) (λ m a b c d. absurd (d refl)) (λ m a b c d. refl) n h

abbrev Thirty : ℕ → ℕ → Type 0
Thirty kind n = (kind ≡ 0 → ⊥) → (n ≡ 4 → ⊥) → (n ≡ 8 → ⊥) → (n ≡ 16 → ⊥) → n ≡ 32

pub is_32 : (kind n : ℕ) → has_line kind n ≡ true → (kind ≡ 0 → ⊥) → (n ≡ 4 → ⊥) → (n ≡ 8 → ⊥) → (n ≡ 16 → ⊥) → n ≡ 32
is_32 =
    has-cases Thirty (λ o a b c. absurd (a refl)) (λ o a b c. absurd (b refl)) (λ o a b c. absurd (c refl)) (λ o a b c. refl)
    (λ o a b c. absurd (a refl)) (λ o a b c. absurd (b refl)) (λ o a b c. absurd (c refl)) (λ o a b c. refl)
    (λ o a b c. absurd (o refl)) (λ o a b c. absurd (o refl)) (λ o a b c. absurd (o refl)) (λ o a b c. absurd (o refl)) (λ o a b c. absurd (o refl)) (λ o a b c. absurd (o refl))

-- ---- kind 0, as a literal
pub of-kind : {kind n counted live count step : ℕ} {half : ℤ} {shift : ℕ} {m out : List ℤ} → kind ≡ 0 → GivenRun kind n counted live count step half shift m out → GivenRun 0 n counted live count step half shift m out
of-kind {kind} {n} {counted} {live} {count} {step} {half} {shift} {m} {out} e g = subst (λ (k : ℕ). GivenRun k n counted live count step half shift m out) e g

pub kind-back : {kind : ℕ} {r : List ℤ} (n live count step : ℕ) (half : ℤ) (shift : ℕ) (m : List ℤ) → kind ≡ 0 → r ≡ lines_of 0 n live count step half shift m → r ≡ lines_of kind n live count step half shift m
kind-back n live count step half shift m e q = q ∙ ap (λ (k : ℕ). lines_of k n live count step half shift m) (sym e)
