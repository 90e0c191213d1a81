-- `by_call` meets its contract: document 01's call refuses nothing. Assumes nothing.
use borrow.Author.Rules.{rules}
use mathlib.Core.Path.{◌≡◌, ap, ◌∙◌}
use Rattle.meaning.specs.Answer.{Outcome, accepted}
use Rattle.meaning.specs.Inverse.{rails, inverse_block}
use Rattle.meaning.specs.Plan.{plan_of}
use Rattle.transform_short.proofs.Narrowed.{called}
use Rattle.transform_short.proofs.staged.by_call.Statement.{statement}
use Rattle.transform_short.proofs.staged.by_call.Tie as tie

inverse-requires : tie.Need-inverse-requires
inverse-requires c κs = search rules

same_length : tie.Need-shape_of-r
same_length c = search rules

returns : tie.Need-returns
returns c =
    let s = c.before.before.before in
    let b = s.args.shape in
    let l = s.args.c.now in
    let done : ◌≡◌ {A = Outcome} (c.before.inverse.result, c.before.inverse.new.residuals) (accepted (rails (plan_of b) l), inverse_block (plan_of b) l) =
    c.before.inverse.ensures ∙ called b l s.args.r.now s.requires in
    (ap (λ (o : Outcome). o.0.rails) done, ap (λ (o : Outcome). o.1) done)

pub by_call_spec : {M : Type 1} → statement M
by_call_spec = tie.close (tie.spec inverse-requires same_length returns)
