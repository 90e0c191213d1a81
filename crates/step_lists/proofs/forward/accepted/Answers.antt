-- `forward::accepted`: a run of the stored list is the full product. Assumes nothing.
use Rattle.std.proofs.Common.{arith, ◌≡◌, ℕ, true, length, ap, sym, ◌∙◌}
use Rattle.steps.specs.Lists.{list4, list16, list32}
use Rattle.steps.proofs.Computed.{right4, right16, right32, multiplying4, multiplying16, multiplying32}
use Rattle.step_lists.specs.Listed.{is_listed, step_line}
use Rattle.step_lists.proofs.ByList.{by-list, is-third, passed}
use Rattle.step_lists.proofs.forward.accepted.Goals as goal
use Rattle.step_lists.proofs.forward.accepted.Goals.{Start}

taken : (c : Start) → (is_listed c.args.n ≡ true) × ((length c.args.x.now ≡ c.args.n) × (length c.args.y.now ≡ c.args.n))
taken c = passed c.args.n (length c.args.x.now) (length c.args.y.now) c.requires

pub returns-in-4 : goal.returns-in-4
unfolding list4
returns-in-4 c =
    let s = c.args in
    let p = taken (goal.at.returns-in-4 c).Start in
    let e : 4 ≡ s.n = sym c.in-4.is in
    c.run.ensures
    ∙ by-list 4 c.steps_4.result c.outs_4.result c.steps_4.ensures c.outs_4.ensures right4 multiplying4 s.x.now s.y.now (p.1.0 ∙ sym e) (p.1.1 ∙ sym e) c.sixteen.ensures
    ∙ ap (λ (n : ℕ). step_line n s.x.now) e

pub returns-in-16 : goal.returns-in-16
unfolding list16
returns-in-16 c =
    let s = c.args in
    let p = taken (goal.at.returns-in-16 c).Start in
    let e : 16 ≡ s.n = sym c.in-16.is in
    c.run-in-16.ensures
    ∙ by-list 16 c.steps_16.result c.outs_16.result c.steps_16.ensures c.outs_16.ensures right16 multiplying16 s.x.now s.y.now (p.1.0 ∙ sym e) (p.1.1 ∙ sym e) c.sixteen.ensures
    ∙ ap (λ (n : ℕ). step_line n s.x.now) e

pub returns-in_default : goal.returns-in_default
unfolding list32
returns-in_default c =
    let s = c.args in
    let p = taken (goal.at.returns-in_default c).Start in
    let e : 32 ≡ s.n = sym (is-third s.n p.0 (λ q. omega arith) (λ q. omega arith)) in
    c.run-in_default.ensures
    ∙ by-list 32 c.steps_32.result c.outs_32.result c.steps_32.ensures c.outs_32.ensures right32 multiplying32 s.x.now s.y.now (p.1.0 ∙ sym e) (p.1.1 ∙ sym e) c.sixteen.ensures
    ∙ ap (λ (n : ℕ). step_line n s.x.now) e
