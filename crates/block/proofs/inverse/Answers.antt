use Rattle.std.proofs.Common.{arith, ◌≡◌, ◌-◌, List, ℤ, length, take, sym, ap, ◌∙◌}
use Rattle.std.proofs.Math.Seq.{take-length}
use Rattle.meaning.specs.declared.Answer.{Answer}
use Rattle.meaning.specs.Answer.{Outcome}
use Rattle.meaning.specs.Plan.{plan_of}
use Rattle.meaning.specs.Inverse.{first_outside, inverse_outcome}
use Rattle.meaning.proofs.KeptPart.{columns-kept}
use Rattle.layout.proofs.Inside.{live-part}
use Rattle.block.specs.Answered.{answer_of}
use Rattle.block.proofs.Settled.{taken, few-places, inverse-turned, inverse-found, inverse-done, given}
use Rattle.block.proofs.inverse.Goals as goal
use Rattle.block.proofs.inverse.Goals.{in-Err, in_default+in-Some, in_default+in_default-found+then-not-by_kernels, in_default+in_default-found+else-not-by_kernels}

-- the coefficients, from the first on
abbrev numbers : List ℤ → List ℤ
numbers l = take (length l - 0) l

same : (l : List ℤ) → numbers l ≡ l
same l =
    let n : length l - 0 ≡ length l = omega arith in
    rw n (take-length l)

pub first_outside-found-requires : goal.first_outside-found-requires
first_outside-found-requires c =
    let s = c.fields-s.result in
    let l = numbers c.args.coefficients.now in
    let t = taken s l c.args.residuals.now c.in_default.ensures in
    let r = c.rows-rows.ensures in
    let k = c.columns-columns.ensures in
    ((t.long, (columns-kept s t.taken).within), live-part s.width s.height c.columns-columns.result c.rows-rows.result l k.within r.within r.clear k.clear)

pub overflow_mul-code : goal.overflow_mul-code
overflow_mul-code c =
    let l = numbers c.args.coefficients.now in
    omega (arith, few-places c.fields-s.result l c.args.residuals.now c.in_default.ensures (first_outside (plan_of c.fields-s.result) l) c.in-Some.place c.in-Some.ensures)

pub overflow_add-code : goal.overflow_add-code
overflow_add-code c =
    let l = numbers c.args.coefficients.now in
    omega (arith, few-places c.fields-s.result l c.args.residuals.now c.in_default.ensures (first_outside (plan_of c.fields-s.result) l) c.in-Some.place c.in-Some.ensures)

pub by_kernels-requires : goal.by_kernels-requires
by_kernels-requires c =
    given c.fields-s.result (numbers c.args.coefficients.now) c.args.residuals.now c.in_default.ensures c.rows-rows.ensures c.columns-columns.ensures c.in_default-found.ensures

pub stages-rails-requires : goal.stages-rails-requires
stages-rails-requires c =
    let g = given c.fields-s.result (numbers c.args.coefficients.now) c.args.residuals.now c.in_default.ensures c.rows-rows.ensures c.columns-columns.ensures c.in_default-found.ensures in
    record {
      block = record { taken = g.block.taken; long = g.block.long; room = c.by_kernels.auto.r ∙ g.block.room };
      size-rows = g.size-rows;
      size-columns = g.size-columns;
      live = g.live;
      kept = g.kept;
    }

pub returns : goal.returns
returns c =
    let s = c.fields-s.result in
    let l = numbers c.args.coefficients.now in
    let r = c.args.residuals.now in
    let J = c.match-block_refusal in
    let settled : ◌≡◌ {A = Outcome} (answer_of J.code J.rails, J.residuals) (inverse_outcome s l r) =
    elim J.branch [
      | in-Err w ↦ (λ i. (answer_of ((w.code-is ∙ w.number-code.ensures) i) (w.rails-is i), w.residuals-is i)) ∙ inverse-turned s l r w.in-Err.refusal w.in-Err.ensures
      | in_default+in-Some w ↦ (λ i. (answer_of (w.code-is i) (w.rails-is i), w.residuals-is i)) ∙ inverse-found s l r w.in_default.ensures w.in-Some.place w.in-Some.ensures
      | in_default+in_default-found+then-not-by_kernels w ↦
          (λ i. (answer_of (w.code-is i) (w.rails-is i), w.residuals-is i))
          ∙ inverse-done s l r w.in_default.ensures w.in_default-found.ensures w.stages-rails.ensures.0 w.stages-rails.ensures.1
      | in_default+in_default-found+else-not-by_kernels w ↦
          let d = w.by_kernels.ensures w.if-not-by_kernels.false in
          (λ i. (answer_of (w.code-is i) (w.rails-is i), w.residuals-is i)) ∙ inverse-done s l r w.in_default.ensures w.in_default-found.ensures (sym d.0) d.1
    ] in
    ap (λ (a : Answer). (a, J.residuals)) c.answered.ensures ∙ settled ∙ (λ t. inverse_outcome (c.fields-s.ensures t) (same c.args.coefficients.now t) r)
