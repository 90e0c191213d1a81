-- The rail count of a list, number by number. Assumes nothing.
use mathlib.Core.Path.{◌≡◌, refl, sym, ap, ◌∙◌}
use mathlib.Core.Bool.{Bool}
use mathlib.Core.List.{List}
use Prim.Native.Nat.{ℕ, ◌+◌, ◌≤◌}
use native.Mathlib.Omega.{arith}
use lib.IntN.{ℤ}
use mir.Syntax.{w16, w32}
use mir.Val.{SFits, to_z, of_z}
use mir.ValLaws.{to_z-of_z}
use Rattle.algebra.specs.Sum.{sumℕ}
use Rattle.algebra.specs.Lists.{at}
use Rattle.algebra.proofs.Sum.{sumℕ-next, sumℕ-mono, sumℕ-const}
use Rattle.meaning.specs.Inverse.{railed, count}
use Rattle.meaning.proofs.NoRails.{count-in}
use Rattle.inverse_stage.specs.Settled.{rails_of}

module _ (e m : List ℤ) where
  pub rails-none : 0 ≡ rails_of 0 e m
  unfolding rails_of sumℕ
  rails-none = refl

  -- one more, by what `rail` said of the numbers that were read
  pub rails-next : (k : ℕ) {b : Bool} → SFits w32 (at e k) → SFits w16 (at m k) → b ≡ railed (to_z w32 (of_z w32 (at e k))) (to_z w16 (of_z w16 (at m k)))
      → rails_of (k + 1) e m ≡ rails_of k e m + count b
  unfolding rails_of
  rails-next k f g s =
      sumℕ-next k (λ k. count (railed (at e k) (at m k)))
      ∙ ap (λ (b : Bool). sumℕ k (λ k. count (railed (at e k) (at m k))) + count b) (sym (s ∙ (λ i. railed (to_z-of_z w32 (at e k) f i) (to_z-of_z w16 (at m k) g i))))

  pub rails-in : (n : ℕ) → rails_of n e m ≤ n
  unfolding rails_of
  rails-in n = omega (arith, sumℕ-mono n (λ k. count (railed (at e k) (at m k))) (λ k. 1) (λ k _. count-in (railed (at e k) (at m k))), sumℕ-const n 1)
