-- Made by crates/lfnst_tables/make; do not edit. `all_6` meets its contract: its table has the rule, by one computed test. Assumes nothing.
use borrow.Author.Rules.{rules}
use native.Mathlib.Omega.{arith}
use mathlib.Core.Path.{refl}
use mathlib.Core.Bool.{false}
use Rattle.tables.proofs.Pairs.{laid_by}
use Rattle.lfnst_tables.specs.Lfnst.{entry}
use Rattle.lfnst_tables.specs.Lfnst4.{of16, of-6}
use Rattle.lfnst_tables.proofs.Lined.{line-given, valued}
use Rattle.lfnst_16.proofs.all_6.Statement.{statement}
use Rattle.lfnst_16.proofs.all_6.Tie as tie

slice-aggregate-line-16 : tie.Need-slice_bounds-line_16-end
slice-aggregate-line-16 c = search rules

line-16-requires : tie.Need-line_16-requires
unfolding entry of16 of-6
line-16-requires c κs =
    let s = c.before.before in
    line-given false 6 8 (omega arith) s.requires.0 s.requires.1 (laid_by 16 8 (entry 16 6) _ tt refl)

same_length : tie.Need-shape_of-v
same_length c = search rules

returns : tie.Need-returns
unfolding entry of16 of-6
returns c =
    let F = c.before in
    let s = F.before.before.before in
    valued false 6 8 (omega arith) s.requires.0 s.requires.1 (laid_by 16 8 (entry 16 6) _ tt refl) F.line_16.ensures

pub all_6_spec : {M : Type 1} → statement M
all_6_spec = tie.close (tie.spec slice-aggregate-line-16 line-16-requires same_length returns)
