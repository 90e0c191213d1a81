-- Made by crates/lfnst_tables/make; do not edit. `few_2` meets its contract: its table has the rule, by one computed test. Assumes nothing.
use borrow.Author.Rules.{rules}
use native.Mathlib.Omega.{arith}
use mathlib.Core.Path.{refl}
use mathlib.Core.Bool.{true}
use Rattle.tables.proofs.Pairs.{laid_by}
use Rattle.lfnst_tables.specs.Lfnst.{entry}
use Rattle.lfnst_tables.specs.Lfnst8.{of48, of-2}
use Rattle.lfnst_tables.proofs.Lined.{line-given, valued}
use Rattle.lfnst_48.proofs.few_2.Statement.{statement}
use Rattle.lfnst_48.proofs.few_2.Tie as tie

slice-aggregate-line-48 : tie.Need-slice_bounds-line_48-end
slice-aggregate-line-48 c = search rules

line-48-requires : tie.Need-line_48-requires
unfolding entry of48 of-2
line-48-requires c κs =
    let s = c.before.before in
    line-given true 2 4 (omega arith) s.requires.0 s.requires.1 (laid_by 48 4 (entry 48 2) _ tt refl)

same_length : tie.Need-shape_of-v
same_length c = search rules

returns : tie.Need-returns
unfolding entry of48 of-2
returns c =
    let F = c.before in
    let s = F.before.before.before in
    valued true 2 4 (omega arith) s.requires.0 s.requires.1 (laid_by 48 4 (entry 48 2) _ tt refl) F.line_48.ensures

pub few_2_spec : {M : Type 1} → statement M
few_2_spec = tie.close (tie.spec slice-aggregate-line-48 line-48-requires same_length returns)
