-- `inverse` meets its contract: the stretch of the area that `work` names. Assumes nothing.
use borrow.Author.Rules.{rules}
use mathlib.Core.Path.{◌≡◌, sym, ap, ◌∙◌}
use Prim.Native.Nat.{ℕ, ◌*◌, ◌≤◌}
use native.Mathlib.Omega.{arith}
use lib.ListN.{length}
use lib.Seq.{length-take-le}
use Rattle.thin_block.specs.Thin.{Areas, thin_outcome}
use Rattle.thin_block.specs.Handed.{handed_of}
use Rattle.thin_block.proofs.Handing.{nothing-back, first_back, second_back, room}
use Rattle.thin_block.proofs.inverse.Statement.{statement}
use Rattle.thin_block.proofs.inverse.Tie as tie

abbrev start : tie.After-work-answer → tie.Start
start c = c.before.before.before

-- what `work` left
abbrev left : tie.After-work-answer → Areas
left c = record { answer = c.work-answer.result; first = c.work-answer.new.first; second = c.work-answer.new.second }

abbrev elements : tie.After-work-answer → ℕ
elements c = (start c).args.shape.width * (start c).args.shape.height

same : (c : tie.After-work-answer) → let a = (start c).args in left c ≡ thin_outcome a.shape a.coefficients.now a.first.now a.second.now
same c = c.work-answer.ensures

rooms : (c : tie.After-work-answer) → (c.work-answer.result.area ≡ 0 → ⊥)
    → (length (start c).args.coefficients.now ≡ elements c) × ((elements c ≤ length (left c).first) × (elements c ≤ length (left c).second))
rooms c = let a = (start c).args in room a.shape a.coefficients.now a.first.now a.second.now (left c) (same c)

work-requires : tie.Need-work-answer-requires
work-requires c κs = search rules

slice-aggregate-result : tie.Need-slice_bounds-result-end
slice-aggregate-result c = search rules

returns : tie.Need-returns-then-answer-eq0
returns c =
    let T = c.before in
    let W = T.before.before.before.before in
    let a = (start W).args in
    nothing-back (elements W) (left W) a.first.ref_ptr a.second.ref_ptr T.if-answer-eq0.true
    ∙ ap (λ (o : Areas). handed_of (elements W) o a.first.ref_ptr a.second.ref_ptr) (same W)

slice-aggregate-result-2 : tie.Need-slice_bounds-result-end-then-answer-eq2
slice-aggregate-result-2 c =
    let E = c.before.before.before in
    let W = E.before.before.before.before in
    let r = rooms W E.if-answer-eq0.false in
    sym (length-take-le _ _ (omega (arith, r)))

returns-2 : tie.Need-returns-then-answer-eq2
returns-2 c =
    let T = c.before in
    let E = T.before.before in
    let W = E.before.before.before.before in
    let a = (start W).args in
    second_back (elements W) (left W) a.first.ref_ptr a.second.ref_ptr (length a.coefficients.now) (rooms W E.if-answer-eq0.false).0 T.if-answer-eq2.true
    ∙ ap (λ (o : Areas). handed_of (elements W) o a.first.ref_ptr a.second.ref_ptr) (same W)

slice-aggregate-result-3 : tie.Need-slice_bounds-result-end-2
slice-aggregate-result-3 c =
    let E = c.before.before.before in
    let W = E.before.before.before.before in
    let r = rooms W E.if-answer-eq0.false in
    sym (length-take-le _ _ (omega (arith, r)))

returns-3 : tie.Need-returns
returns-3 c =
    let T = c.before in
    let E = T.before.before in
    let W = E.before.before.before.before in
    let a = (start W).args in
    first_back (elements W) (left W) a.first.ref_ptr a.second.ref_ptr (length a.coefficients.now) (rooms W E.if-answer-eq0.false).0 E.if-answer-eq0.false T.if-answer-eq2.false
    ∙ ap (λ (o : Areas). handed_of (elements W) o a.first.ref_ptr a.second.ref_ptr) (same W)

pub inverse_spec : {M : Type 1} → statement M
inverse_spec =
    tie.close
    (tie.spec
    work-requires
    slice-aggregate-result
    returns
    slice-aggregate-result-2
    returns-2
    slice-aggregate-result-3
    returns-3)
