-- Made by crates/lfnst_tables/make; do not edit. `put` writes the matrix of 48 columns that it is asked for, each by one computed test. Assumes nothing.
use mathlib.Core.Path.{refl}
use Rattle.lfnst_tables.specs.Lfnst.{entry}
use Rattle.lfnst_tables.specs.Lfnst8.{of48, of-0, of-1, of-2, of-3, of-4, of-5, of-6, of-7}
use Rattle.lfnst_tables.proofs.Stored.{stored, the_last}
use Rattle.lfnst_48.proofs.put.Statement.{statement}
use Rattle.lfnst_48.proofs.put.Tie as tie

returns : tie.Need-returns-then-matrix-eq0
unfolding entry of48 of-0
returns c = stored 48 0 c.if-matrix-eq0.true tt refl

returns-2 : tie.Need-returns-then-matrix-eq1
unfolding entry of48 of-1
returns-2 c = stored 48 1 c.if-matrix-eq1.true tt refl

returns-3 : tie.Need-returns-then-matrix-eq2
unfolding entry of48 of-2
returns-3 c = stored 48 2 c.if-matrix-eq2.true tt refl

returns-4 : tie.Need-returns-then-matrix-eq3
unfolding entry of48 of-3
returns-4 c = stored 48 3 c.if-matrix-eq3.true tt refl

returns-5 : tie.Need-returns-then-matrix-eq4
unfolding entry of48 of-4
returns-5 c = stored 48 4 c.if-matrix-eq4.true tt refl

returns-6 : tie.Need-returns-then-matrix-eq5
unfolding entry of48 of-5
returns-6 c = stored 48 5 c.if-matrix-eq5.true tt refl

returns-7 : tie.Need-returns-then-matrix-eq6
unfolding entry of48 of-6
returns-7 c = stored 48 6 c.if-matrix-eq6.true tt refl

returns-8 : tie.Need-returns
unfolding entry of48 of-7
returns-8 c = stored 48 7 (the_last c.before.before.before.before.before.before.if-matrix-eq0.false c.before.before.before.before.before.if-matrix-eq1.false c.before.before.before.before.if-matrix-eq2.false c.before.before.before.if-matrix-eq3.false c.before.before.if-matrix-eq4.false c.before.if-matrix-eq5.false c.if-matrix-eq6.false c.before.before.before.before.before.before.before.requires) tt refl

pub put_spec : {M : Type 1} → statement M
put_spec = tie.close (tie.spec returns returns-2 returns-3 returns-4 returns-5 returns-6 returns-7 returns-8)
