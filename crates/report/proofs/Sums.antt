-- A total over any list of blocks: one that is added to is the sum (`adds`), one that is raised the maximum (`raises`), so long as
-- there is room for the blocks and the sum fits. Then, over lists: sizes, and any order. Assumes nothing.
use Rattle.std.proofs.Common.{◌≡◌, ℕ, suc, ◌+◌, ◌*◌, ◌%◌, ◌^◌, ◌<◌, ◌≤◌, max, Bool, true, false, cond, List, [], ◌∷◌, length, refl, ap, ◌∙◌, mod-eq_of_lt, arith}
use Rattle.report.specs.Totals.{total, class, given_place}
use Rattle.report.specs.Given.{GivenBlock, after_all, taken, sum_over, max_over, Reordered, same, under, swap, then}
use Rattle.forward_and_back.proofs.Back.{took}
use Rattle.report.proofs.Places.{class-in, class_of}
use Rattle.report.proofs.Cells.{Room, with_block, with-block-long, with-block-given, taken-zero, either}

-- a block that is not refused has a class
pub taken-class : (b : GivenBlock) → taken b ≡ true → class b.shape < 144
taken-class b y = class-in b.shape (class_of b.shape (took b.shape b.residuals (taken-zero b y)).taken)

-- room for a list of blocks
pub record Rooms (t : List ℕ) (n : ℕ) : Type 0 where
  pub long : length t ≡ 578
  pub more : total t given_place + n ≤ 65536

pub room : {t : List ℕ} {n : ℕ} → Rooms t (suc n) → Room t
room r = record { long = r.long; more = omega (arith, r.more) }

pub rooms-next : {t : List ℕ} {n : ℕ} (b : GivenBlock) → Rooms t (suc n) → Rooms (with_block t b) n
rooms-next {t} {n} b r = record { long = with-block-long t b (room r); more = omega (arith, with-block-given t b (room r) (taken-class b), r.more) }

-- ---- one total
module _ (i : ℕ) (test : GivenBlock → Bool) (f : GivenBlock → ℕ) (outside : (t : List ℕ) (b : GivenBlock) → Room t → test b ≡ false → total (with_block t b) i ≡ total t i) where
  module _ (inside : (t : List ℕ) (b : GivenBlock) → Room t → test b ≡ true → total (with_block t b) i ≡ (total t i + f b) % 2 ^ 64) where
    added : (t : List ℕ) (b : GivenBlock) → Room t → total t i + cond (test b) (f b) 0 < 2 ^ 64 → total (with_block t b) i ≡ total t i + cond (test b) (f b) 0
    added t b m h =
        either (total (with_block t b) i ≡ total t i + cond (test b) (f b) 0) (test b)
        (λ y. let h2 : total t i + f b < 2 ^ 64 = rw y at h in rw y (inside t b m y ∙ mod-eq_of_lt h2))
        (λ n. rw n (outside t b m n ∙ omega arith))

    pub adds : (bs : List GivenBlock) (t : List ℕ) → Rooms t (length bs) → total t i + sum_over test f bs < 2 ^ 64 → total (after_all t bs) i ≡ total t i + sum_over test f bs
    unfolding after_all sum_over
    adds [] t m h = omega arith
    adds (b ∷ bs) t m h =
        let a = added t b (room m) (omega (arith, h)) in
        adds bs (with_block t b) (rooms-next b m) (omega (arith, a, h)) ∙ omega (arith, a)

  module _ (inside : (t : List ℕ) (b : GivenBlock) → Room t → test b ≡ true → total (with_block t b) i ≡ max (total t i) (f b)) where
    raised : (t : List ℕ) (b : GivenBlock) → Room t → total (with_block t b) i ≡ max (total t i) (cond (test b) (f b) 0)
    raised t b m =
        either (total (with_block t b) i ≡ max (total t i) (cond (test b) (f b) 0)) (test b)
        (λ y. rw y (inside t b m y))
        (λ n. rw n (outside t b m n ∙ omega arith))

    pub raises : (bs : List GivenBlock) (t : List ℕ) → Rooms t (length bs) → total (after_all t bs) i ≡ max (total t i) (max_over test f bs)
    unfolding after_all max_over
    raises [] t m = omega arith
    raises (b ∷ bs) t m = raises bs (with_block t b) (rooms-next b m) ∙ omega (arith, raised t b (room m))

-- ---- sizes
module _ (test : GivenBlock → Bool) (f : GivenBlock → ℕ) (B : ℕ) (small : (b : GivenBlock) → test b ≡ true → f b ≤ B) where
  one-small : (b : GivenBlock) → cond (test b) (f b) 0 ≤ B
  one-small b = either (cond (test b) (f b) 0 ≤ B) (test b) (λ y. rw y (small b y)) (λ n. rw n (omega arith))

  pub sum-small : (bs : List GivenBlock) → sum_over test f bs ≤ length bs * B
  unfolding sum_over
  sum-small [] = omega arith
  sum-small (b ∷ bs) =
      let e : suc (length bs) * B ≡ B + length bs * B = omega arith in
      omega (arith, one-small b, sum-small bs, e)

-- ---- "The order of the blocks changes no total"
module _ (test : GivenBlock → Bool) (f : GivenBlock → ℕ) where
  pub sum-order : {bs cs : List GivenBlock} → Reordered bs cs → sum_over test f bs ≡ sum_over test f cs
  unfolding sum_over
  sum-order same = refl
  sum-order (under {b} r) = ap (λ (x : ℕ). cond (test b) (f b) 0 + x) (sum-order r)
  sum-order (swap {b} {c} {bs}) = omega arith
  sum-order (then r s) = sum-order r ∙ sum-order s

  pub max-order : {bs cs : List GivenBlock} → Reordered bs cs → max_over test f bs ≡ max_over test f cs
  unfolding max_over
  max-order same = refl
  max-order (under {b} r) = ap (λ (x : ℕ). max (cond (test b) (f b) 0) x) (max-order r)
  max-order (swap {b} {c} {bs}) = omega arith
  max-order (then r s) = max-order r ∙ max-order s

pub length-order : {bs cs : List GivenBlock} → Reordered bs cs → length bs ≡ length cs
length-order same = refl
length-order (under r) = ap suc (length-order r)
length-order swap = refl
length-order (then r s) = length-order r ∙ length-order s
