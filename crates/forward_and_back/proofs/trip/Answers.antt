use Rattle.std.proofs.Common.{sym, ap, ◌∙◌}
use Rattle.meaning.specs.declared.Answer.{Answer}
use Rattle.forward_and_back.proofs.Back.{Took, took, few, part-long, part_in, largest-is, squares-is}
use Rattle.forward_and_back.proofs.trip.Goals as goal
use Rattle.forward_and_back.proofs.trip.Goals.{Else-answer-ne0}

-- past the refusals
taken : (c : Else-answer-ne0) → Took c.args.shape c.args.residuals.now
taken c = took c.args.shape c.args.residuals.now (sym (ap (λ (a : Answer). a.number) c.there_and_back-answer.ensures.0) ∙ c.if-answer-ne0.false)

pub largest_difference-largest-requires : goal.largest_difference-largest-requires
largest_difference-largest-requires c =
    let s = c.args in
    let t = taken (goal.at.largest_difference-largest-requires c).Else-answer-ne0 in
    let e = c.there_and_back-answer.ensures.1 c.if-answer-ne0.false in
    (part-long s.shape s.residuals.now t _ c.min-n.ensures _ _ e, part_in s.shape s.residuals.now t _ c.min-n.ensures _ _ e)

pub squared_differences-squares-requires : goal.squared_differences-squares-requires
squared_differences-squares-requires c =
    let s = c.args in
    let t = taken (goal.at.squared_differences-squares-requires c).Else-answer-ne0 in
    let e = c.there_and_back-answer.ensures.1 c.if-answer-ne0.false in
    (part-long s.shape s.residuals.now t _ c.min-n.ensures _ _ e, few s.shape s.residuals.now t, part_in s.shape s.residuals.now t _ c.min-n.ensures _ _ e)

pub returns : goal.returns
returns c =
    let s = c.args in
    let t = taken (goal.at.returns c).Else-answer-ne0 in
    let e = c.there_and_back-answer.ensures.1 c.if-answer-ne0.false in (
      c.there_and_back-answer.ensures.0,
      λ _. (
        c.largest_difference-largest.ensures ∙ largest-is s.shape s.residuals.now t _ c.min-n.ensures _ _ e,
        c.squared_differences-squares.ensures ∙ squares-is s.shape s.residuals.now t _ c.min-n.ensures _ _ e,
      ),
    )
