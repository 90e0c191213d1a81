-- Two outcomes that the contract of a public function allows are equal: what it hands back follows from its arguments. Assumes
-- nothing.
use mathlib.Core.Path.{◌≡◌, sym, ap, ◌∙◌}
use mathlib.Core.List.{List}
use Prim.Native.Nat.{ℕ}
use lib.IntN.{ℤ}
use Rattle.algebra.specs.Lists.{flat}
use Rattle.algebra.proofs.Unique.{one}
use Rattle.meaning.specs.Answer.{Outcome}
use Rattle.small_block.specs.declared.SmallCoefficients.{SmallCoefficients}
use Rattle.small_block.specs.declared.SmallResiduals.{SmallResiduals}
use Rattle.small_block.specs.declared.BothCoefficients.{BothCoefficients}
use Rattle.small_block.specs.declared.BothResiduals.{BothResiduals}
use Rattle.small_block.specs.Small.{small_forward, small_inverse}
use Rattle.small_block.proofs.FourByFour.{Four, lines-one}

module _ (b : List (List ℤ)) (h v d : ℕ) where
  -- `forward_4x4`: what it hands back is four lines of four by its type
  pub forward-4x4-one : (r s : SmallCoefficients) → Four r.block → Four s.block
      → ◌≡◌ {A = Outcome} (r.answer, flat r.block) (small_forward b h v d) → ◌≡◌ {A = Outcome} (s.answer, flat s.block) (small_forward b h v d) → r ≡ s
  forward-4x4-one r s f g p q =
      let e = one p q in
      λ i. record { answer = (e i).0; block = lines-one r.block s.block f g (ap (λ (o : Outcome). o.1) e) i }

  -- `inverse_4x4`
  pub inverse-4x4-one : (r s : SmallResiduals) → Four r.block → Four s.block
      → ◌≡◌ {A = Outcome} (r.answer, flat r.block) (small_inverse b h v d) → ◌≡◌ {A = Outcome} (s.answer, flat s.block) (small_inverse b h v d) → r ≡ s
  inverse-4x4-one r s f g p q =
      let e = one p q in
      λ i. record { answer = (e i).0; block = lines-one r.block s.block f g (ap (λ (o : Outcome). o.1) e) i }

-- `coefficients_of` and `residuals_of`
pub lines-of-one : (b : List (List ℤ)) {r s : List (List ℤ)} → r ≡ b → s ≡ b → r ≡ s
lines-of-one b = one

-- `forward_both` and `inverse_both`: all of their fields, both forms' answers and both forms' numbers. By value
-- the outcome is the definition's, and the lent one is the same.
both_one : {e o l p m : Outcome} → o ≡ e → o ≡ l → p ≡ e → p ≡ m → (o ≡ p) × (l ≡ m)
both_one a b c d = (one a c, one (sym b ∙ a) (sym d ∙ c))

module _ (b : List (List ℤ)) (h v d : ℕ) where
  pub forward-4x4-both-one : (r s : BothCoefficients)
      → ◌≡◌ {A = Outcome} (r.by_value, r.by_value_block) (small_forward b h v d) → ◌≡◌ {A = Outcome} (r.by_value, r.by_value_block) (r.lent, r.lent_block)
      → ◌≡◌ {A = Outcome} (s.by_value, s.by_value_block) (small_forward b h v d) → ◌≡◌ {A = Outcome} (s.by_value, s.by_value_block) (s.lent, s.lent_block)
      → r ≡ s
  forward-4x4-both-one r s p a q c =
      let e = both_one p a q c in
      λ i. record { by_value = (e.0 i).0; lent = (e.1 i).0; by_value_block = (e.0 i).1; lent_block = (e.1 i).1 }

  pub inverse-4x4-both-one : (r s : BothResiduals)
      → ◌≡◌ {A = Outcome} (r.by_value, r.by_value_block) (small_inverse b h v d) → ◌≡◌ {A = Outcome} (r.by_value, r.by_value_block) (r.lent, r.lent_block)
      → ◌≡◌ {A = Outcome} (s.by_value, s.by_value_block) (small_inverse b h v d) → ◌≡◌ {A = Outcome} (s.by_value, s.by_value_block) (s.lent, s.lent_block)
      → r ≡ s
  inverse-4x4-both-one r s p a q c =
      let e = both_one p a q c in
      λ i. record { by_value = (e.0 i).0; lent = (e.1 i).0; by_value_block = (e.0 i).1; lent_block = (e.1 i).1 }
