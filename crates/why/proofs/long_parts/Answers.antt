-- `long_parts` meets its contract: 1 to 5, 20 and 6, then the others and the parts. Assumes nothing.
use Rattle.std.proofs.Common.{arith, ◌≡◌, sym, ap, ◌∙◌, ℕ, ◌<◌, List, [], ◌∷◌, ℤ}
use Rattle.algebra.specs.Refusals as tests
use Rattle.meaning.specs.declared.refusal.Refusal.{Refusal}
use Rattle.meaning.specs.Refusal.{refusal_number}
use Rattle.meaning.specs.Plan.{long_plan}
use Rattle.meaning.specs.Long.{beyond_test}
use Rattle.meaning.specs.Inverse.{outside_test}
use Rattle.meaning.proofs.AcceptedCalls.{long-block-taken}
use Rattle.why.specs.Why.{parts_of, no_parts, place_test}
use Rattle.why.proofs.Passing.{seven, refuses, passes}
use Rattle.meaning.proofs.RefusalNumbers.{above}
use Rattle.why.proofs.long_parts.Goals as goal

pub returns-in-Err : goal.returns-in-Err
returns-in-Err c =
    let s = c.args in
    let l = s.coefficients.now in
    let p = long_plan s.extended s.shape in
    let m = above c.in-Err.refusal in
    let e : refusal_number c.in-Err.refusal ≡ tests.number_of (seven s.extended s.shape l) = c.in-Err.ensures in
    c.refused.ensures ∙ ap (λ (n : ℕ). no_parts n 0) e
    ∙ sym (refuses s.extended s.shape l no_parts (parts_of p l s.place) (outside_test p l ∷ beyond_test p l ∷ place_test p s.place ∷ []) (λ z. omega (arith, m, e, z)))

pub later-requires : goal.later-requires
later-requires c =
    let s = c.args in
    let l = s.coefficients.now in
    long-block-taken s.shape l l s.extended (sym c.in_default.ensures)

pub returns : goal.returns
returns c =
    let s = c.args in
    let l = s.coefficients.now in
    let p = long_plan s.extended s.shape in
    c.later.ensures ∙ sym (passes s.extended s.shape l no_parts (parts_of p l s.place) (outside_test p l ∷ beyond_test p l ∷ place_test p s.place ∷ []) (sym c.in_default.ensures))
