-- Both stages of a block of which every row and column is worked: as lines of zipped rows and weights, and as the stages of a block
-- that was taken. Assumes nothing.
use mathlib.Core.Path.{◌≡◌, refl, sym, ap, ◌∙◌, subst}
use mathlib.Core.Bool.{true}
use mathlib.Core.Logic.{inl, inr}
use mathlib.Core.List.{List}
use Prim.Native.Nat.{ℕ, ◌+◌, ◌*◌, ◌-◌, ◌/◌, ◌%◌, ◌^◌, ◌≤◌, ◌<◌}
use native.Mathlib.Omega.{arith}
use lib.IntN.{ℤ, pos, ◌*ℤ◌, *ℤ_comm}
use lib.ListN.{length}
use Rattle.algebra.specs.Sum.{sum}
use Rattle.algebra.specs.Shift.{nearest}
use Rattle.algebra.specs.Lists.{at, block}
use Rattle.algebra.proofs.Sum.{sum-cong}
use Rattle.algebra.proofs.Lists.{block_cong}
use Rattle.meaning.specs.declared.Shape.{Shape}
use Rattle.meaning.specs.Shape.{is_kind}
use Rattle.meaning.specs.Weights.{weight}
use Rattle.meaning.specs.Line.{inverse_sum}
use Rattle.meaning.specs.Plan.{plan_of}
use Rattle.meaning.specs.Inverse.{rounded, inverse_block, residual}
use Rattle.meaning.proofs.Cases.{kind-cases}
use Rattle.meaning.proofs.Sizes.{weight_most}
use Rattle.product.specs.Product.{Laid, line_sum, shifted, Lines}
use Rattle.product.proofs.Laid.{block-laid, lines-given, lines_are}
use Rattle.inverse_stage.specs.Given.{GivenStages}
use Rattle.inverse_4_8.specs.Square.{Square, down_block, along_block}
use Rattle.inverse_stage.proofs.Work.{plan-given, keeps, sums, middles, middle-at}
use Rattle.layout.proofs.Alive.{column-is, row_is}

-- ---- the weights of a kind
abbrev pub Of : ℕ → ℕ → ℕ → List ℤ → Type 0
Of kind n pairs t = Laid n pairs 2 (2 * n) (λ i j. weight kind n i j) t

-- those of a literal kind are those of the kind that it is
pub of-kind : {n pairs : ℕ} {t : List ℤ} (kind k : ℕ) → kind ≡ k → Of k n pairs t → Of kind n pairs t
of-kind {n} {pairs} {t} kind k e l = subst (λ (m : ℕ). Of m n pairs t) (sym e) l

-- those of kind 0 are those of a kind that is neither of the others
pub of_other : {n pairs : ℕ} {t : List ℤ} (kind : ℕ) → is_kind kind ≡ true → (kind ≡ 1 → ⊥) → (kind ≡ 2 → ⊥) → Of 0 n pairs t → Of kind n pairs t
of_other {n} {pairs} {t} =
    kind-cases (λ k. (k ≡ 1 → ⊥) → (k ≡ 2 → ⊥) → Of 0 n pairs t → Of k n pairs t) (λ f g l. absurd (f refl)) (λ f g l. absurd (g refl)) (λ f g l. l)

-- ---- what holds of n by n holds of a shape that is n by n
pub of-square : {n : ℕ} {sh : Shape} (P : ℕ → ℕ → Type 0) → Square n sh → P n n → P sh.width sh.height
of-square {n} {sh} P q p = subst (P sh.width) (sym q.height) (subst (λ (w : ℕ). P w n) (sym q.width) p)

-- ---- as lines
module _ {n pairs : ℕ} (kind : ℕ) (e : 2 * pairs ≡ n) (some : 0 < pairs) (few : pairs ≤ 16) {t : List ℤ} (weights : Of kind n pairs t) where
  module _ (c : List ℤ) {z : List ℤ} (zipped : Laid n pairs 2 (2 * n) (λ i x. at c (x + i * n)) z) where
    pub down_lines : Lines n n pairs t 2 (2 * n) z (2 * n)
    down_lines = lines-given weights zipped some few (λ i j l. inr (weight_most kind n i l))

    pub down-sums : block n n (λ x y. shifted (pos 64) 7 (line_sum t (2 * y) (2 * n) z (2 * n) pairs x)) ≡ down_block kind n n c
    unfolding inverse_sum
    down-sums = lines_are weights zipped (pos 64) 7 ∙ block_cong n n _ _ (λ x y _ _. ap (λ (m : ℕ). rounded (sum m (λ i. weight kind n i y *ℤ at c (x + i * n)))) e)

  module _ (m : List ℤ) (long : length m ≡ n * n) where
    rows : Laid n pairs n 2 (λ i y. at m (i + y * n)) m
    rows = block-laid (omega arith) (omega arith)

    pub along-lines : Lines n n pairs m n 2 t (2 * n)
    along-lines = lines-given rows weights some few (λ i j l. inl (weight_most kind n i j))

    pub along-sums : {half : ℤ} (last : ℕ) → half ≡ pos (2 ^ (last - 1))
        → block n n (λ x y. shifted half last (line_sum m (n * y) 2 t (2 * n) pairs x)) ≡ along_block kind n n m last
    unfolding inverse_sum
    along-sums {half} last q =
        lines_are rows weights half last
        ∙ block_cong n n _ _ (λ x y _ _. (λ j. shifted (q j) last (sum (e j) (λ i. at m (i + y * n) *ℤ weight kind n i x)))
        ∙ ap (nearest last) (sum-cong n _ _ (λ i _. *ℤ_comm (at m (i + y * n)) (weight kind n i x))))

-- ---- as the stages of a block
module _ {sh : Shape} {c r : List ℤ} (g : GivenStages sh sh.height sh.width c r) where
  pub whole-sums : down_block sh.vertical sh.width sh.height c ≡ sums (plan-given g)
  unfolding inverse_sum
  whole-sums = block_cong sh.width sh.height _ _ (λ x y h _. ap rounded (column-is (plan_of sh) (keeps (plan-given g)) c sh.width sh.height g.live g.kept x y h))

  pub whole-block : along_block sh.horizontal sh.width sh.height (middles (plan-given g)) (20 - sh.depth) ≡ inverse_block (plan_of sh) c
  unfolding inverse_block residual inverse_sum
  whole-block =
      block_cong sh.width sh.height _ _ (λ x y _ v. ap (nearest (20 - sh.depth))
      (sum-cong sh.width _ _ (λ i h. ap (λ (z : ℤ). weight sh.horizontal sh.width i x *ℤ z) (middle-at (plan-given g) i y h v))
      ∙ row_is (plan_of sh) (keeps (plan-given g)) c sh.width sh.height g.live g.kept x y))
