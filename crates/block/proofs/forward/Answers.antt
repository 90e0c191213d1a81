use Rattle.std.proofs.Common.{arith, ◌∙◌}
use Rattle.algebra.proofs.Found.{found_none}
use Rattle.meaning.specs.Forward.{first_too_large}
use Rattle.meaning.proofs.Small.{none-too-large}
use Rattle.block.proofs.Settled.{taken, few-places, forward-turned, forward-found, forward-done}
use Rattle.block.proofs.forward.Goals as goal

pub returns-in-Err : goal.returns-in-Err
returns-in-Err c =
    let s = c.args in
    (λ i. (c.at.ensures i, s.coefficients.now)) ∙ forward-turned s.shape s.residuals.now s.coefficients.now c.in-Err.refusal c.in-Err.ensures

pub first_too_large-found-requires : goal.first_too_large-found-requires
first_too_large-found-requires c =
    let t = taken c.args.shape c.args.residuals.now c.args.coefficients.now c.in_default.ensures in
    (t.taken.depth, t.long)

pub overflow_cast-place : goal.overflow_cast-place
overflow_cast-place c =
    let s = c.args in
    omega (arith, few-places s.shape s.residuals.now s.coefficients.now c.in_default.ensures (first_too_large s.shape s.residuals.now) c.in-Some.place c.in-Some.ensures)

pub returns-in-Some : goal.returns-in-Some
returns-in-Some c =
    let s = c.args in
    (λ i. (c.at-in-Some.ensures i, s.coefficients.now)) ∙ forward-found s.shape s.residuals.now s.coefficients.now c.in_default.ensures c.in-Some.place c.in-Some.ensures

pub stages-requires : goal.stages-requires
stages-requires c =
    let s = c.args in
    let t = taken s.shape s.residuals.now s.coefficients.now c.in_default.ensures in
    let none = found_none _ (first_too_large s.shape s.residuals.now) c.in_default-found.ensures in
    (record { taken = t.taken; long = t.long; small = none-too-large s.shape s.residuals.now none }, t.room)

pub returns : goal.returns
returns c =
    let s = c.args in
    (λ i. (c.accepted.ensures i, c.stages.ensures i)) ∙ forward-done s.shape s.residuals.now s.coefficients.now c.in_default.ensures c.in_default-found.ensures
