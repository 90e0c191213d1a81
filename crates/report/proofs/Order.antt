-- "The order of the blocks changes no total": after at most 65,536 blocks, all 578 numbers are the same in any order. (Of more
-- blocks, which ones come too late depends on the order.) Assumes nothing.
use Rattle.std.proofs.Common.{◌≡◌, ℕ, zero, suc, ◌+◌, ◌*◌, ◌/◌, ◌%◌, ◌<◌, ◌≤◌, not, List, [], ◌∷◌, length, sym, ◌∙◌, subst, arith, ext_get_or}
use native.Mathlib.Decide.{ℕ_discrete}
use Rattle.forward_and_back.specs.Trip.{rail_count, largest, squares}
use Rattle.report.specs.Totals.{empty, total, refused_place, given_place}
use Rattle.report.specs.Given.{GivenBlock, after_all, totals_of, taken, Reordered}
use Rattle.report.proofs.Cells.{with_block}
use Rattle.report.proofs.Sums.{Rooms, rooms-next, sum-order, max-order, length-order}
use Rattle.report.proofs.Report.{empty-rooms, in_class, blocks-of, rails-of, largest-of, squares-of, refused-total, given-total}

long : (bs : List GivenBlock) (t : List ℕ) → Rooms t (length bs) → length (after_all t bs) ≡ 578
unfolding after_all
long [] t m = m.long
long (b ∷ bs) t m = long bs (with_block t b) (rooms-next b m)

module _ {bs cs : List GivenBlock} (r : Reordered bs cs) (few : length bs ≤ 65536) where
  few2 : length cs ≤ 65536
  few2 = omega (arith, few, length-order r)

  -- each of the four of a class
  four : (v j : ℕ) → v < 144 → j < 4 → total (totals_of bs) (v * 4 + j) ≡ total (totals_of cs) (v * 4 + j)
  four v zero h l = blocks-of v h bs few ∙ sum-order (in_class v) (λ b. 1) r ∙ sym (blocks-of v h cs few2)
  four v (suc zero) h l = rails-of v h bs few ∙ sum-order (in_class v) (λ b. rail_count b.shape b.residuals) r ∙ sym (rails-of v h cs few2)
  four v (suc (suc zero)) h l = largest-of v h bs few ∙ max-order (in_class v) (λ b. largest b.shape b.residuals) r ∙ sym (largest-of v h cs few2)
  four v (suc (suc (suc zero))) h l = squares-of v h bs few ∙ sum-order (in_class v) (λ b. squares b.shape b.residuals) r ∙ sym (squares-of v h cs few2)
  four v (suc (suc (suc (suc j)))) h l = absurd (omega (arith, l))

  each : (i : ℕ) → i < 578 → total (totals_of bs) i ≡ total (totals_of cs) i
  each i l = go (ℕ_discrete i given_place) (ℕ_discrete i refused_place)
    where
      go : Dec (i ≡ given_place) → Dec (i ≡ refused_place) → total (totals_of bs) i ≡ total (totals_of cs) i
      go (yes e) _ = subst (λ (k : ℕ). total (totals_of bs) k ≡ total (totals_of cs) k) (sym e) (given-total bs few ∙ length-order r ∙ sym (given-total cs few2))
      go (no _) (yes e) =
          subst (λ (k : ℕ). total (totals_of bs) k ≡ total (totals_of cs) k) (sym e)
          (refused-total bs few ∙ sum-order (λ b. not (taken b)) (λ b. 1) r ∙ sym (refused-total cs few2))
      go (no g) (no f) =
          let e : i / 4 * 4 + i % 4 ≡ i = omega arith in
          subst (λ (k : ℕ). total (totals_of bs) k ≡ total (totals_of cs) k) e (four (i / 4) (i % 4) (omega (arith, l, g, f)) (omega arith))

  pub any_order : totals_of bs ≡ totals_of cs
  any_order =
      let a = long bs empty (empty-rooms (length bs) few) in
      let b = long cs empty (empty-rooms (length cs) few2) in
      ext_get_or 0 (totals_of bs) (totals_of cs) (a ∙ sym b) (λ i h. each i (omega (arith, a, h)))
