-- `tally` meets its contract. Assumes nothing.
use Rattle.std.proofs.Common.{sym, ap, ◌∙◌, arith, rules}
use Rattle.meaning.specs.declared.Answer.{Answer}
use Rattle.report.specs.Totals.{entered}
use Rattle.forward_and_back.proofs.Back.{took}
use Rattle.report.proofs.Counting.{counted-refused, counted-taken}
use Rattle.report.proofs.totals.tally.Statement.{statement}
use Rattle.report.proofs.totals.tally.Tie as tie

trip-requires : tie.Need-trip-trip-requires
trip-requires c κs = search rules

count-requires : tie.Need-count-requires
count-requires c κs = search rules

returns : tie.Need-returns-then-answer-ne0
returns c =
    let s = c.before.before.before.before.before.before in
    let e = c.before.before.before.before.before.trip-trip.ensures.0 in
    (e, c.count.ensures ∙ sym (counted-refused s.args.shape s.args.residuals.now s.args.totals.now (λ z. c.before.before.if-answer-ne0.true (ap (λ (a : Answer). a.number) e ∙ z))))

place-requires : tie.Need-place-requires
place-requires c κs =
    let s = c.before.before.before.before.before in
    let e = c.before.before.before.before.trip-trip.ensures.0 in
    let t = took s.args.shape s.args.residuals.now (sym (ap (λ (a : Answer). a.number) e) ∙ c.before.if-answer-ne0.false) in
    (t.taken.horizontal, t.taken.vertical)

cast-enter : tie.Need-overflow_cast-answer
cast-enter c = search rules

enter-requires : tie.Need-enter-requires
enter-requires c κs = omega (arith, c.before.place.ensures.1)

returns-2 : tie.Need-returns
returns-2 c =
    let s = c.before.before.before.before.before.before.before.before in
    let sh = s.args.shape in
    let r = s.args.residuals.now in
    let w = c.before.before.before.before.before.before.before.trip-trip in
    let z = c.before.before.before.before.if-answer-ne0.false in
    let n = sym (ap (λ (a : Answer). a.number) w.ensures.0) ∙ z in
    let m = w.ensures.1 z in
    let rails = ap (λ (a : Answer). a.rails) (w.ensures.0 ∙ (took sh r n).answer) in (
      w.ensures.0,
      c.enter.ensures ∙ (λ i. entered (c.before.before.place.ensures.0 i) (rails i) (m.0 i) (m.1 i) s.args.totals.now) ∙ sym (counted-taken sh r s.args.totals.now n),
    )

pub tally_spec : {M : Type 1} → statement M
tally_spec =
    tie.close
    (tie.spec
    trip-requires
    count-requires
    returns
    place-requires
    cast-enter
    enter-requires
    returns-2)
