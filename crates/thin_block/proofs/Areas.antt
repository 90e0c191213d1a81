-- What stands in the areas after any call, in the words of Wish 7. Assumes nothing.
--   beyond-stay:     "Numbers beyond w*h .. stay", in both areas and whatever the answer
--   second-stays:    "and the second area after one stage"
--   residuals-stand: after one stage each residual stands in the first area, with rail count 0
--   middles-stand:   after two "the first holds the middle values"; middles-zero: "0 in columns not kept"
--   block-stands:    and the second the block of the inverse
--   handed-length:   what an accepted call hands back is w*h long
use mathlib.Core.Path.{◌≡◌, refl, ap, ◌∙◌}
use mathlib.Core.Bool.{Bool, true, false, cond}
use mathlib.Core.List.{List}
use Prim.Native.Nat.{ℕ, ◌+◌, ◌*◌, ◌≤◌, ◌<◌}
use native.Mathlib.Omega.{arith}
use native.Mathlib.Nat.{mul_comm}
use borrow.Author.Tests.{le-ltb}
use lib.IntN.{ℤ, pos}
use lib.ListN.{length, take, drop, get_or-append}
use lib.Seq.{drop_at, take_at}
use Rattle.algebra.specs.Lists.{at, block}
use Rattle.algebra.proofs.Lists.{tab-at, place_in, block_at}
use Rattle.meaning.specs.declared.Shape.{Shape}
use Rattle.meaning.specs.Plan.{plan_of}
use Rattle.meaning.specs.Inverse.{middle_at, inverse_block}
use Rattle.thin_block.specs.Thin.{one_stage, thin_residual, thin_block, Areas, after_one, after_two, thin_outcome}
use Rattle.thin_block.specs.Handed.{handed}
use Rattle.thin_block.proofs.Passed.{TakenThin, either_way, accepted}
use Rattle.thin_block.proofs.Handing.{thin-length, inverse-length, middles-length}

module _ (sh : Shape) (c a b : List ℤ) where
  abbrev n : ℕ
  n = sh.width * sh.height

  abbrev o : Areas
  o = thin_outcome sh c a b

  abbrev middles : List ℤ
  middles = block sh.width sh.height (middle_at (plan_of sh) c)

  pub beyond-stay : (drop n o.first ≡ drop n a) × (drop n o.second ≡ drop n b)
  beyond-stay = either_way sh c a b (λ o. (drop n o.first ≡ drop n a) × (drop n o.second ≡ drop n b)) (λ number place. (refl, refl)) (λ t. stays (one_stage sh))
    where
      stays : (one : Bool) → let o = cond one (after_one sh c a b) (after_two sh c a b) in (drop n o.first ≡ drop n a) × (drop n o.second ≡ drop n b)
      stays true = (drop_at (thin_block sh c) (drop n a) n (thin-length sh c), refl)
      stays false = (drop_at middles (drop n a) n (middles-length sh c), drop_at (inverse_block (plan_of sh) c) (drop n b) n (inverse-length sh c))

  -- an accepted call
  module _ (number : o.answer.number ≡ 0) where
    pub taken : TakenThin sh c a b
    taken = (accepted sh c a b number).0

    module _ (one : one_stage sh ≡ true) where
      pub after_one_lem : o ≡ after_one sh c a b
      after_one_lem = (accepted sh c a b number).1 ∙ rw one

      pub second-stays : o.second ≡ b
      second-stays = ap (λ (o : Areas). o.second) after_one_lem

      at-thin : (k : ℕ) → k < n → at (thin_block sh c) k ≡ thin_residual sh c k
      unfolding thin_block
      at-thin k h = tab-at n (thin_residual sh c) k h

      pub residuals-stand : (o.answer.rails ≡ 0) × ((k : ℕ) → k < n → at o.first k ≡ thin_residual sh c k)
      residuals-stand = (
        ap (λ (o : Areas). o.answer.rails) after_one_lem,
        λ k h. ap (λ (o : Areas). at o.first k) after_one_lem ∙ get_or-append (thin_block sh c) (drop n a) (pos 0) k (omega (arith, thin-length sh c)) ∙ at-thin k h,
      )

    module _ (two : one_stage sh ≡ false) where
      pub after_two_lem : o ≡ after_two sh c a b
      after_two_lem = (accepted sh c a b number).1 ∙ rw two

      inside : (x y : ℕ) → x < sh.width → y < sh.height → x + y * sh.width < n
      inside x y h v = omega (arith, mul_comm sh.width sh.height, place_in {x = x} {y = y} {w = sh.width} {h = sh.height} h v)

      pub middles-stand : (x y : ℕ) → x < sh.width → y < sh.height → at o.first (x + y * sh.width) ≡ middle_at (plan_of sh) c x y
      middles-stand x y h v =
          let k = x + y * sh.width in
          ap (λ (o : Areas). at o.first k) after_two_lem ∙ get_or-append middles (drop n a) (pos 0) k (omega (arith, middles-length sh c, inside x y h v))
          ∙ block_at sh.width sh.height (middle_at (plan_of sh) c) x y h v

      pub middles-zero : (x y : ℕ) → sh.columns ≤ x → x < sh.width → y < sh.height → at o.first (x + y * sh.width) ≡ pos 0
      unfolding middle_at
      middles-zero x y l h v = middles-stand x y h v ∙ rw (le-ltb x sh.columns l)

      pub block-stands : take n o.second ≡ inverse_block (plan_of sh) c
      block-stands = ap (λ (o : Areas). take n o.second) after_two_lem ∙ take_at (inverse_block (plan_of sh) c) (drop n b) n (inverse-length sh c)

      pub residual-stands : (k : ℕ) → k < n → at o.second k ≡ at (inverse_block (plan_of sh) c) k
      residual-stands k h = ap (λ (o : Areas). at o.second k) after_two_lem ∙ get_or-append (inverse_block (plan_of sh) c) (drop n b) (pos 0) k (omega (arith, inverse-length sh c))

  -- what is handed back of it
  pub handed-length : {A : Type 0} (p q : A) → o.answer.number ≡ 0 → length (handed sh c a b p q).stretch ≡ n
  handed-length p q number = go (one_stage sh) refl
    where
      go : (one : Bool) → one_stage sh ≡ one → length (handed sh c a b p q).stretch ≡ n
      go true e = rw (after_one_lem number e) (ap length (take_at (thin_block sh c) (drop n a) n (thin-length sh c)) ∙ thin-length sh c)
      go false e = rw (after_two_lem number e) (ap length (take_at (inverse_block (plan_of sh) c) (drop n b) n (inverse-length sh c)) ∙ inverse-length sh c)
