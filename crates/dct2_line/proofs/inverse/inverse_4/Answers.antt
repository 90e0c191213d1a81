-- `inverse::inverse_4` meets its contract: two even inputs, two odd ones, and one step. Assumes nothing.
use Rattle.std.proofs.Common.{rules, arith, ◌≡◌, ℕ, ◌*◌, ◌<◌, ℤ, pos, negsuc, ◌+ℤ◌, ◌*ℤ◌, [], ◌∷◌, to_z, of_z, refl, sym, ap, ◌∙◌}
use native.Mathlib.Nat.{mul-zero}
use mir.Syntax.{w16, w32}
use mir.ValLaws.{to_z-of_z}
use Rattle.algebra.specs.Lists.{at}
use Rattle.meaning.specs.Line.{inverse_sum}
use Rattle.halves.specs.Halves.{odd_sum, evens}
use Rattle.halves.proofs.Halved.{halves-4}
use Rattle.dct2_line.specs.Lines.{strided}
use Rattle.dct2_line.proofs.Four.{even-half, odd-half}
use Rattle.dct2_line.proofs.InverseStep.{sums-given, line_made}
use Rattle.dct2_line.proofs.inverse.inverse_4.Goals as goal
use Rattle.dct2_line.proofs.inverse.inverse_4.Goals.{After-both-4}

-- the four inputs as they are worked, and both halves
module _ (c : After-both-4) where
  abbrev x : ℕ → ℤ
  x = strided c.args.x.now c.args.apart

  abbrev read : ℕ → ℤ
  read k = at c.args.x.now k

  -- input i stands at place k, and was widened
  worked : (i k : ℕ) → c.args.apart * i ≡ k → (r : ℤ) → to_z w16 (of_z w16 (read k)) ≡ read k → to_z w32 (of_z w32 r) ≡ r → r ≡ to_z w16 (of_z w16 (read k)) → to_z w32 (of_z w32 r) ≡ x i
  worked i k e r p q w = q ∙ w ∙ p ∙ ap read (sym e)

  first : to_z w32 (of_z w32 c.from-a.result) ≡ x 0
  first = worked 0 0 (mul-zero _) _ (to_z-of_z w16 (read 0) (record { sfits = c.from-arg-1.given })) (to_z-of_z w32 _ (search rules)) c.from-a.ensures

  third : to_z w32 (of_z w32 c.from-b.result) ≡ x 2
  third = worked 2 (2 * c.args.apart) (omega arith) _ (to_z-of_z w16 (read (2 * c.args.apart)) (record { sfits = c.from-arg-2-1.given })) (to_z-of_z w32 _ (search rules)) c.from-b.ensures

  second : to_z w32 (of_z w32 c.from-c.result) ≡ x 1
  second = worked 1 c.args.apart (omega arith) _ (to_z-of_z w16 (read c.args.apart) (record { sfits = c.from-arg-3-1.given })) (to_z-of_z w32 _ (search rules)) c.from-c.ensures

  fourth : to_z w32 (of_z w32 c.from-d.result) ≡ x 3
  fourth = worked 3 (3 * c.args.apart) (omega arith) _ (to_z-of_z w16 (read (3 * c.args.apart)) (record { sfits = c.from-arg-4-1.given })) (to_z-of_z w32 _ (search rules)) c.from-d.ensures

  evened : (j : ℕ) → j < 2 → at (to_z w32 (of_z w32 c.both.result) ∷ to_z w32 (of_z w32 c.both-2.result) ∷ []) j ≡ inverse_sum 0 2 2 (evens x) j
  evened =
      even-half x
      (to_z-of_z w32 _ (search rules) ∙ c.both.ensures ∙ (λ t. pos 64 *ℤ first t +ℤ pos 64 *ℤ third t))
      (to_z-of_z w32 _ (search rules) ∙ c.both-2.ensures ∙ (λ t. pos 64 *ℤ first t +ℤ negsuc 63 *ℤ third t))

  odded : (j : ℕ) → j < 2 → at (to_z w32 (of_z w32 c.both-3.result) ∷ to_z w32 (of_z w32 c.both-4.result) ∷ []) j ≡ odd_sum 4 2 x j
  odded =
      odd-half x
      (to_z-of_z w32 _ (search rules) ∙ c.both-3.ensures ∙ (λ t. pos 83 *ℤ second t +ℤ pos 36 *ℤ fourth t))
      (to_z-of_z w32 _ (search rules) ∙ c.both-4.ensures ∙ (λ t. pos 36 *ℤ second t +ℤ negsuc 82 *ℤ fourth t))

pub butterfly-requires : goal.butterfly-requires
butterfly-requires c =
    let O = (goal.at.butterfly-requires c).After-both-4 in
    (sums-given {h = 2} c.requires.0 (omega arith) refl (omega arith) (evened O) (odded O), c.requires.1)

pub returns : goal.returns
returns c =
    let O = (goal.at.returns c).After-both-4 in
    line_made {h = 2} c.requires.0 (omega arith) refl (omega arith) (evened O) (odded O) halves-4 c.butterfly.ensures
