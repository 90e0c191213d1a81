-- `long_16` meets its contract: the sums by a stored matrix, rounded and clipped. Assumes nothing.
use borrow.Author.Rules.{rules}
use mathlib.Core.Bool.{false}
use Rattle.meaning.specs.Plan.{range_of}
use Rattle.meaning.specs.Inverse.{middle}
use Rattle.lfnst_tables.proofs.Lined.{wrote-again}
use Rattle.lfnst.specs.Work.{GivenSums}
use Rattle.lfnst.proofs.Summing.{given-sums, line-entries, small-sums}
use Rattle.lfnst.proofs.sums.long_16.Statement.{statement}
use Rattle.lfnst.proofs.sums.long_16.Tie as tie

put-requires : tie.Need-put-requires
put-requires c κs = c.before.requires.0

slice-aggregate-long-sums : tie.Need-slice_bounds-long_sums-end
slice-aggregate-long-sums c = search rules

-- what the sums are given
given : (c : tie.After-put) → let s = c.before.before in GivenSums 16 s.args.pairs c.put.new.t s.args.u.now s.args.v.now
given c =
    let p = c.before.before.requires in
    given-sums false p.0 p.1.0 p.1.1.0 p.1.1.1.0 c.put.ensures.1 p.1.1.1.1

long-sums-requires : tie.Need-long_sums-requires
long-sums-requires c κs =
    given c.before.before

finish-requires : tie.Need-finish-requires
finish-requires c κs =
    let S = c.before.before in
    let P = S.before.before.before in
    (small-sums (given P) S.long_sums.ensures, P.before.before.requires.1.1.0)

same_length : tie.Need-shape_of-v
same_length c = search rules

returns : tie.Need-returns
returns c =
    let F = c.before in
    let S = F.before.before.before in
    let P = S.before.before.before in
    let s = P.before.before in
    let p = s.requires in
    wrote-again (middle (range_of s.args.reach)) S.long_sums.ensures F.finish.ensures
    (line-entries false p.0 p.1.0 p.1.1.0 p.1.1.1.0 P.put.ensures.1)

pub long_16_spec : {M : Type 1} → statement M
long_16_spec =
    tie.close
    (tie.spec put-requires slice-aggregate-long-sums long-sums-requires finish-requires same_length returns)
