-- `total` meets its contract: the first refusal that applies, or the line with number 0. Assumes nothing.
use Rattle.std.proofs.Common.{ℕ, ◌≡◌, List, [], length, sym, ap, ◌∙◌, arith}
use Rattle.algebra.specs.Lists.{at}
use Rattle.algebra.specs.Refusals.{Test, number_of}
use Rattle.algebra.proofs.Refusals.{refused-first, passed_first}
use Rattle.meaning.specs.declared.Answer.{Answer}
use Rattle.meaning.specs.Refusal.{refusal_number}
use Rattle.meaning.specs.Answer.{Outcome, refused, accepted}
use Rattle.wrapping.specs.Feed.{line_sums}
use Rattle.wrapping.specs.Outcome.{wrapped_tests}
use Rattle.wrapping.proofs.Passed.{passed}
use Rattle.meaning.proofs.RefusalNumbers.{above}
use Rattle.wrapping.proofs.total.Goals as goal
use Rattle.wrapping.proofs.total.Goals.{Start}

abbrev tests : Start → List Test
tests s = wrapped_tests s.args.n s.args.kind (length s.args.x.now) (length s.args.y.now) s.args.order.now

abbrev given_back : Start → ℕ → ℕ → Outcome
given_back s number place = (refused number place, s.args.y.now)

abbrev done : Start → Outcome
done s = (accepted 0, line_sums s.args.forward s.args.kind s.args.n (at s.args.x.now))

pub returns-in-Err : goal.returns-in-Err
returns-in-Err c =
    let s = (goal.at.returns-in-Err c).Start in
    let e : refusal_number c.in-Err.refusal ≡ number_of (tests s) = c.in-Err.ensures in
    let p = above c.in-Err.refusal in
    ap (λ (a : Answer). (a, c.args.y.now)) (c.at.ensures ∙ ap (λ (number : ℕ). refused number 0) e)
    ∙ sym (refused-first [] (given_back s) (done s) (tests s) tt (λ z. omega (arith, p, e, z)))

pub line-requires : goal.line-requires
line-requires c = passed c.args.n c.args.kind (length c.args.x.now) (length c.args.y.now) c.args.order.now (sym c.in_default.ensures)

pub returns : goal.returns
returns c =
    let s = (goal.at.returns c).Start in
    ◌∙◌ {b = done s} (λ i. (c.accepted.ensures i, c.line.ensures i)) (sym (passed_first [] (given_back s) (done s) (tests s) tt (sym c.in_default.ensures)))
