-- `line_16` meets its contract: the sums by as many pairs as there are, each made a value. Assumes nothing.
use native.Mathlib.Omega.{arith}
use mathlib.Core.Path.{◌∙◌}
use Rattle.lfnst_tables.proofs.Lined.{not-four, some-given, small_line, line-done}
use Rattle.lfnst_tables.proofs.lines.line_16.Statement.{statement}
use Rattle.lfnst_tables.proofs.lines.line_16.Tie as tie

some-requires : tie.Need-some-requires
some-requires c κs =
    let T = c.before.before in
    let s = T.before in
    some-given s.requires 4 T.if-pairs-eq4.true

finish-requires : tie.Need-finish-requires
finish-requires c κs =
    let S = c.before.before in
    let T = S.before.before.before in
    (small_line T.before.requires 4 T.if-pairs-eq4.true S.some.ensures, omega arith)

some-requires-2 : tie.Need-some-requires-else-pairs-eq4
some-requires-2 c κs =
    let T = c.before.before in
    let s = T.before in
    some-given s.requires 8 (not-four s.requires.half T.if-pairs-eq4.false)

finish-requires-2 : tie.Need-finish-requires-else-pairs-eq4
finish-requires-2 c κs =
    let S = c.before.before in
    let T = S.before.before.before in
    (small_line T.before.requires 8 (not-four T.before.requires.half T.if-pairs-eq4.false) S.some-else-pairs-eq4.ensures, omega arith)

same_length : tie.Need-shape_of-v-then-pairs-eq4
same_length c =
    let F = c.before in
    F.finish.ensures.long ∙ F.before.before.before.some.ensures.0.long

returns : tie.Need-returns-then-pairs-eq4
returns c =
    let F = c.before in
    let S = F.before.before.before in
    let T = S.before.before.before in
    let s = T.before in
    line-done s.requires 4 T.if-pairs-eq4.true S.some.ensures F.finish.ensures

same-length-2 : tie.Need-shape_of-v-else-pairs-eq4
same-length-2 c =
    let F = c.before in
    F.finish-else-pairs-eq4.ensures.long ∙ F.before.before.before.some-else-pairs-eq4.ensures.0.long

returns-2 : tie.Need-returns-else-pairs-eq4
returns-2 c =
    let F = c.before in
    let S = F.before.before.before in
    let T = S.before.before.before in
    let s = T.before in
    line-done s.requires 8 (not-four s.requires.half T.if-pairs-eq4.false) S.some-else-pairs-eq4.ensures F.finish-else-pairs-eq4.ensures

pub line_16_spec : {M : Type 1} → statement M
line_16_spec = tie.close (tie.spec some-requires finish-requires some-requires-2 finish-requires-2 same_length returns same-length-2 returns-2)
