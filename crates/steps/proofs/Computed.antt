-- The three lists: the test by forms, which the checker computes, and what follows for every input of 16 bits.
use mathlib.Core.Path.{◌≡◌, refl, ◌∙◌}
use mathlib.Core.List.{List, ◌++◌}
use Prim.Native.Nat.{ℕ}
use lib.Dec.{T}
use lib.IntN.{ℤ}
use lib.ListN.{length}
use Rattle.algebra.specs.Lists.{at}
use Rattle.meaning.specs.Line.{forward_line, forward_sum}
use Rattle.meaning.specs.Weights.{S, fold, first, weight}
use Rattle.steps.specs.Steps.{Step, StepList, run, first_state, outputs, multiplying}
use Rattle.steps.specs.Outcome.{whole_numbers, steps_outcome, Sixteen}
use Rattle.steps.proofs.Forms.{gives, rows_are}
use Rattle.steps.specs.Lists.{list4, steps4, list16, steps16, list32, steps32}
use Rattle.steps.proofs.Inside.{Ran, Fit}
use Rattle.steps.proofs.Product.{product, gives-product, gives-inside}

gives4 : T (gives (S 4) 4 list4)
unfolding gives rows_are run outputs S fold first list4 steps4
gives4 = tt

gives16 : T (gives (S 16) 16 list16)
unfolding gives rows_are run outputs S fold first list16 steps16
gives16 = tt

gives32 : T (gives (S 32) 32 list32)
unfolding gives rows_are run outputs S fold first list32 steps32
gives32 = tt

-- "The multiplying steps in the lists number at most 8, 127 and 620"
pub multiplying4 : multiplying list4.steps ≡ 8
unfolding multiplying list4 steps4
multiplying4 = refl

pub multiplying16 : multiplying list16.steps ≡ 127
unfolding multiplying list16 steps16
multiplying16 = refl

pub multiplying32 : multiplying list32.steps ≡ 620
unfolding multiplying list32 steps32
multiplying32 = refl

-- the full product is document 01's forward line of DST-VII
is-line : (n : ℕ) (xs : List ℤ) → product (S n) n xs ≡ forward_line 1 n (at xs)
unfolding forward_line forward_sum weight
is-line n xs = refl

-- what is shown of the list p of n points: on every 16-bit input a run is accepted, is the forward line, takes the multiplying steps in the
-- list, and has every cell inside 32 bits after each of its steps
pub record Right (n : ℕ) (p : StepList) : Type 0 where
  pub runs : (xs out : List ℤ) → length xs ≡ n → length out ≡ n → Sixteen xs → steps_outcome p xs out ≡ (record { number = 0; count = multiplying p.steps }, forward_line 1 n (at xs))
  pub within : (xs : List ℤ) → length xs ≡ n → Sixteen xs → (es fs : List Step) → p.steps ≡ es ++ fs → Ran (Fit whole_numbers p.cells) (run whole_numbers p.cells es (first_state whole_numbers xs))

right : (n : ℕ) (p : StepList) → T (gives (S n) n p) → Right n p
right n p t =
    record {
      runs = λ xs out l r s. gives-product (S n) n p xs out l r s t ∙ (λ i. (record { number = 0; count = multiplying p.steps }, is-line n xs i));
      within = λ xs l s es fs q. gives-inside (S n) n p xs xs l l s t es fs q;
    }

pub right4 : Right 4 list4
right4 = right 4 list4 gives4

pub right16 : Right 16 list16
right16 = right 16 list16 gives16

pub right32 : Right 32 list32
right32 = right 32 list32 gives32
