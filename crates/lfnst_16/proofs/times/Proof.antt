-- Made by crates/lfnst_tables/make; do not edit. `times` meets its contract: each matrix has its place in the row of tests. Assumes nothing.
use borrow.Author.Rules.{rules}
use native.Mathlib.Omega.{arith}
use Prim.Native.Nat.{zero-le}
use Rattle.lfnst_tables.proofs.Lined.{between, asked-few, asked-all, past, the-sixteenth, valued_as}
use Rattle.lfnst_16.proofs.times.Statement.{statement}
use Rattle.lfnst_16.proofs.times.Tie as tie

mul-which : tie.Need-overflow_mul-which
mul-which c = omega (arith, between c.requires.1.half)

add-which : tie.Need-overflow_add-which
add-which c = omega (arith, c.requires.0, between c.requires.1.half)

sub-which : tie.Need-overflow_sub-which
sub-which c = omega (arith, between c.requires.1.half)

few-0-requires : tie.Need-few_0-requires
few-0-requires c κs =
    let T = c.before in
    let s = T.before in
    ((asked-few 0 (omega arith) s.requires.1.half T.if-which-eq0.true).1, s.requires.1)

same_length : tie.Need-shape_of-v-then-which-eq0
same_length c = search rules

returns : tie.Need-returns-then-which-eq0
returns c =
    let F = c.before in
    let T = F.before.before in
    let s = T.before in
    valued_as s.requires.1 (asked-few 0 (omega arith) s.requires.1.half T.if-which-eq0.true).0 F.few_0.ensures

few-1-requires : tie.Need-few_1-requires
few-1-requires c κs =
    let T = c.before in
    let s = T.before.before in
    ((asked-few 1 (omega arith) s.requires.1.half T.if-which-eq1.true).1, s.requires.1)

same-length-2 : tie.Need-shape_of-v-then-which-eq1
same-length-2 c = search rules

returns-2 : tie.Need-returns-then-which-eq1
returns-2 c =
    let F = c.before in
    let T = F.before.before in
    let s = T.before.before in
    valued_as s.requires.1 (asked-few 1 (omega arith) s.requires.1.half T.if-which-eq1.true).0 F.few_1.ensures

few-2-requires : tie.Need-few_2-requires
few-2-requires c κs =
    let T = c.before in
    let s = T.before.before.before in
    ((asked-few 2 (omega arith) s.requires.1.half T.if-which-eq2.true).1, s.requires.1)

same-length-3 : tie.Need-shape_of-v-then-which-eq2
same-length-3 c = search rules

returns-3 : tie.Need-returns-then-which-eq2
returns-3 c =
    let F = c.before in
    let T = F.before.before in
    let s = T.before.before.before in
    valued_as s.requires.1 (asked-few 2 (omega arith) s.requires.1.half T.if-which-eq2.true).0 F.few_2.ensures

few-3-requires : tie.Need-few_3-requires
few-3-requires c κs =
    let T = c.before in
    let s = T.before.before.before.before in
    ((asked-few 3 (omega arith) s.requires.1.half T.if-which-eq3.true).1, s.requires.1)

same-length-4 : tie.Need-shape_of-v-then-which-eq3
same-length-4 c = search rules

returns-4 : tie.Need-returns-then-which-eq3
returns-4 c =
    let F = c.before in
    let T = F.before.before in
    let s = T.before.before.before.before in
    valued_as s.requires.1 (asked-few 3 (omega arith) s.requires.1.half T.if-which-eq3.true).0 F.few_3.ensures

few-4-requires : tie.Need-few_4-requires
few-4-requires c κs =
    let T = c.before in
    let s = T.before.before.before.before.before in
    ((asked-few 4 (omega arith) s.requires.1.half T.if-which-eq4.true).1, s.requires.1)

same-length-5 : tie.Need-shape_of-v-then-which-eq4
same-length-5 c = search rules

returns-5 : tie.Need-returns-then-which-eq4
returns-5 c =
    let F = c.before in
    let T = F.before.before in
    let s = T.before.before.before.before.before in
    valued_as s.requires.1 (asked-few 4 (omega arith) s.requires.1.half T.if-which-eq4.true).0 F.few_4.ensures

few-5-requires : tie.Need-few_5-requires
few-5-requires c κs =
    let T = c.before in
    let s = T.before.before.before.before.before.before in
    ((asked-few 5 (omega arith) s.requires.1.half T.if-which-eq5.true).1, s.requires.1)

same-length-6 : tie.Need-shape_of-v-then-which-eq5
same-length-6 c = search rules

returns-6 : tie.Need-returns-then-which-eq5
returns-6 c =
    let F = c.before in
    let T = F.before.before in
    let s = T.before.before.before.before.before.before in
    valued_as s.requires.1 (asked-few 5 (omega arith) s.requires.1.half T.if-which-eq5.true).0 F.few_5.ensures

few-6-requires : tie.Need-few_6-requires
few-6-requires c κs =
    let T = c.before in
    let s = T.before.before.before.before.before.before.before in
    ((asked-few 6 (omega arith) s.requires.1.half T.if-which-eq6.true).1, s.requires.1)

same-length-7 : tie.Need-shape_of-v-then-which-eq6
same-length-7 c = search rules

returns-7 : tie.Need-returns-then-which-eq6
returns-7 c =
    let F = c.before in
    let T = F.before.before in
    let s = T.before.before.before.before.before.before.before in
    valued_as s.requires.1 (asked-few 6 (omega arith) s.requires.1.half T.if-which-eq6.true).0 F.few_6.ensures

few-7-requires : tie.Need-few_7-requires
few-7-requires c κs =
    let T = c.before in
    let s = T.before.before.before.before.before.before.before.before in
    ((asked-few 7 (omega arith) s.requires.1.half T.if-which-eq7.true).1, s.requires.1)

same-length-8 : tie.Need-shape_of-v-then-which-eq7
same-length-8 c = search rules

returns-8 : tie.Need-returns-then-which-eq7
returns-8 c =
    let F = c.before in
    let T = F.before.before in
    let s = T.before.before.before.before.before.before.before.before in
    valued_as s.requires.1 (asked-few 7 (omega arith) s.requires.1.half T.if-which-eq7.true).0 F.few_7.ensures

all-0-requires : tie.Need-all_0-requires
all-0-requires c κs =
    let T = c.before in
    let s = T.before.before.before.before.before.before.before.before.before in
    ((asked-all 0 s.requires.0 s.requires.1.half T.if-which-eq8.true).1, s.requires.1)

same-length-9 : tie.Need-shape_of-v-then-which-eq8
same-length-9 c = search rules

returns-9 : tie.Need-returns-then-which-eq8
returns-9 c =
    let F = c.before in
    let T = F.before.before in
    let s = T.before.before.before.before.before.before.before.before.before in
    valued_as s.requires.1 (asked-all 0 s.requires.0 s.requires.1.half T.if-which-eq8.true).0 F.all_0.ensures

all-1-requires : tie.Need-all_1-requires
all-1-requires c κs =
    let T = c.before in
    let s = T.before.before.before.before.before.before.before.before.before.before in
    ((asked-all 1 s.requires.0 s.requires.1.half T.if-which-eq9.true).1, s.requires.1)

same-length-10 : tie.Need-shape_of-v-then-which-eq9
same-length-10 c = search rules

returns-10 : tie.Need-returns-then-which-eq9
returns-10 c =
    let F = c.before in
    let T = F.before.before in
    let s = T.before.before.before.before.before.before.before.before.before.before in
    valued_as s.requires.1 (asked-all 1 s.requires.0 s.requires.1.half T.if-which-eq9.true).0 F.all_1.ensures

all-2-requires : tie.Need-all_2-requires
all-2-requires c κs =
    let T = c.before in
    let s = T.before.before.before.before.before.before.before.before.before.before.before in
    ((asked-all 2 s.requires.0 s.requires.1.half T.if-which-eq10.true).1, s.requires.1)

same-length-11 : tie.Need-shape_of-v-then-which-eq10
same-length-11 c = search rules

returns-11 : tie.Need-returns-then-which-eq10
returns-11 c =
    let F = c.before in
    let T = F.before.before in
    let s = T.before.before.before.before.before.before.before.before.before.before.before in
    valued_as s.requires.1 (asked-all 2 s.requires.0 s.requires.1.half T.if-which-eq10.true).0 F.all_2.ensures

all-3-requires : tie.Need-all_3-requires
all-3-requires c κs =
    let T = c.before in
    let s = T.before.before.before.before.before.before.before.before.before.before.before.before in
    ((asked-all 3 s.requires.0 s.requires.1.half T.if-which-eq11.true).1, s.requires.1)

same-length-12 : tie.Need-shape_of-v-then-which-eq11
same-length-12 c = search rules

returns-12 : tie.Need-returns-then-which-eq11
returns-12 c =
    let F = c.before in
    let T = F.before.before in
    let s = T.before.before.before.before.before.before.before.before.before.before.before.before in
    valued_as s.requires.1 (asked-all 3 s.requires.0 s.requires.1.half T.if-which-eq11.true).0 F.all_3.ensures

all-4-requires : tie.Need-all_4-requires
all-4-requires c κs =
    let T = c.before in
    let s = T.before.before.before.before.before.before.before.before.before.before.before.before.before in
    ((asked-all 4 s.requires.0 s.requires.1.half T.if-which-eq12.true).1, s.requires.1)

same-length-13 : tie.Need-shape_of-v-then-which-eq12
same-length-13 c = search rules

returns-13 : tie.Need-returns-then-which-eq12
returns-13 c =
    let F = c.before in
    let T = F.before.before in
    let s = T.before.before.before.before.before.before.before.before.before.before.before.before.before in
    valued_as s.requires.1 (asked-all 4 s.requires.0 s.requires.1.half T.if-which-eq12.true).0 F.all_4.ensures

all-5-requires : tie.Need-all_5-requires
all-5-requires c κs =
    let T = c.before in
    let s = T.before.before.before.before.before.before.before.before.before.before.before.before.before.before in
    ((asked-all 5 s.requires.0 s.requires.1.half T.if-which-eq13.true).1, s.requires.1)

same-length-14 : tie.Need-shape_of-v-then-which-eq13
same-length-14 c = search rules

returns-14 : tie.Need-returns-then-which-eq13
returns-14 c =
    let F = c.before in
    let T = F.before.before in
    let s = T.before.before.before.before.before.before.before.before.before.before.before.before.before.before in
    valued_as s.requires.1 (asked-all 5 s.requires.0 s.requires.1.half T.if-which-eq13.true).0 F.all_5.ensures

all-6-requires : tie.Need-all_6-requires
all-6-requires c κs =
    let T = c.before in
    let s = T.before.before.before.before.before.before.before.before.before.before.before.before.before.before.before in
    ((asked-all 6 s.requires.0 s.requires.1.half T.if-which-eq14.true).1, s.requires.1)

same-length-15 : tie.Need-shape_of-v-then-which-eq14
same-length-15 c = search rules

returns-15 : tie.Need-returns-then-which-eq14
returns-15 c =
    let F = c.before in
    let T = F.before.before in
    let s = T.before.before.before.before.before.before.before.before.before.before.before.before.before.before.before in
    valued_as s.requires.1 (asked-all 6 s.requires.0 s.requires.1.half T.if-which-eq14.true).0 F.all_6.ensures

all-7-requires : tie.Need-all_7-requires
all-7-requires c κs =
    let T = c.before in
    let s = T.before.before.before.before.before.before.before.before.before.before.before.before.before.before.before in
    ((the-sixteenth s.requires.0 s.requires.1.half (past 14 (past 13 (past 12 (past 11 (past 10 (past 9 (past 8 (past 7 (past 6 (past 5 (past 4 (past 3 (past 2 (past 1 (past 0 zero-le T.before.before.before.before.before.before.before.before.before.before.before.before.before.before.if-which-eq0.false) T.before.before.before.before.before.before.before.before.before.before.before.before.before.if-which-eq1.false) T.before.before.before.before.before.before.before.before.before.before.before.before.if-which-eq2.false) T.before.before.before.before.before.before.before.before.before.before.before.if-which-eq3.false) T.before.before.before.before.before.before.before.before.before.before.if-which-eq4.false) T.before.before.before.before.before.before.before.before.before.if-which-eq5.false) T.before.before.before.before.before.before.before.before.if-which-eq6.false) T.before.before.before.before.before.before.before.if-which-eq7.false) T.before.before.before.before.before.before.if-which-eq8.false) T.before.before.before.before.before.if-which-eq9.false) T.before.before.before.before.if-which-eq10.false) T.before.before.before.if-which-eq11.false) T.before.before.if-which-eq12.false) T.before.if-which-eq13.false) T.if-which-eq14.false)).1, s.requires.1)

same-length-16 : tie.Need-shape_of-v
same-length-16 c = search rules

returns-16 : tie.Need-returns
returns-16 c =
    let F = c.before in
    let T = F.before.before in
    let s = T.before.before.before.before.before.before.before.before.before.before.before.before.before.before.before in
    valued_as s.requires.1 (the-sixteenth s.requires.0 s.requires.1.half (past 14 (past 13 (past 12 (past 11 (past 10 (past 9 (past 8 (past 7 (past 6 (past 5 (past 4 (past 3 (past 2 (past 1 (past 0 zero-le T.before.before.before.before.before.before.before.before.before.before.before.before.before.before.if-which-eq0.false) T.before.before.before.before.before.before.before.before.before.before.before.before.before.if-which-eq1.false) T.before.before.before.before.before.before.before.before.before.before.before.before.if-which-eq2.false) T.before.before.before.before.before.before.before.before.before.before.before.if-which-eq3.false) T.before.before.before.before.before.before.before.before.before.before.if-which-eq4.false) T.before.before.before.before.before.before.before.before.before.if-which-eq5.false) T.before.before.before.before.before.before.before.before.if-which-eq6.false) T.before.before.before.before.before.before.before.if-which-eq7.false) T.before.before.before.before.before.before.if-which-eq8.false) T.before.before.before.before.before.if-which-eq9.false) T.before.before.before.before.if-which-eq10.false) T.before.before.before.if-which-eq11.false) T.before.before.if-which-eq12.false) T.before.if-which-eq13.false) T.if-which-eq14.false)).0 F.all_7.ensures

pub times_spec : {M : Type 1} → statement M
times_spec = tie.close (tie.spec mul-which add-which sub-which few-0-requires same_length returns few-1-requires same-length-2 returns-2 few-2-requires same-length-3 returns-3 few-3-requires same-length-4 returns-4 few-4-requires same-length-5 returns-5 few-5-requires same-length-6 returns-6 few-6-requires same-length-7 returns-7 few-7-requires same-length-8 returns-8 all-0-requires same-length-9 returns-9 all-1-requires same-length-10 returns-10 all-2-requires same-length-11 returns-11 all-3-requires same-length-12 returns-12 all-4-requires same-length-13 returns-13 all-5-requires same-length-14 returns-14 all-6-requires same-length-15 returns-15 all-7-requires same-length-16 returns-16)
