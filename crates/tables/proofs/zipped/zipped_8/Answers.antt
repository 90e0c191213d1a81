-- `zipped_8` hands out the order of 8 points that kind and direction take, each by one computed test. Assumes nothing.
use mathlib.Core.Path.{refl}
use Rattle.meaning.specs.Weights.{S, C, dct2, fold, first, turn, cosines}
use Rattle.meaning.proofs.ThreeKinds.{dst, is-dct8, is-dct2}
use Rattle.tables.proofs.Pairs.{laid_by}
use Rattle.tables.proofs.Choice.{by_rows, by-columns, either_way, no_kind}
use Rattle.tables.proofs.zipped.zipped_8.Goals as goal

pub returns-in-0-true : goal.returns-in-0-true
unfolding dct2 turn cosines
returns-in-0-true c = by_rows 8 4 c.args.kind c.args.forward (is-dct2 _ c.in-0-true.is-0 8) c.in-0-true.is-1 (laid_by 8 4 (λ i j. dct2 8 j i) _ tt refl)

pub returns-in-0-false : goal.returns-in-0-false
unfolding dct2 turn cosines
returns-in-0-false c = by-columns 8 4 c.args.kind c.args.forward (is-dct2 _ c.in-0-false.is-0 8) c.in-0-false.is-1 (laid_by 8 4 (dct2 8) _ tt refl)

pub returns-in-1-true : goal.returns-in-1-true
unfolding S fold first
returns-in-1-true c = by_rows 8 4 c.args.kind c.args.forward (dst _ c.in-1-true.is-0 8) c.in-1-true.is-1 (laid_by 8 4 (λ i j. S 8 j i) _ tt refl)

pub returns-in-1-false : goal.returns-in-1-false
unfolding S fold first
returns-in-1-false c = by-columns 8 4 c.args.kind c.args.forward (dst _ c.in-1-false.is-0 8) c.in-1-false.is-1 (laid_by 8 4 (S 8) _ tt refl)

pub returns-in-2-default : goal.returns-in-2-default
unfolding S C fold first
returns-in-2-default c = either_way 8 4 c.args.kind c.args.forward (is-dct8 _ c.in-2-default.is-0 8) (laid_by 8 4 (C 8) _ tt refl) (laid_by 8 4 (λ i j. C 8 j i) _ tt refl)

pub returns-in_default : goal.returns-in_default
returns-in_default c = no_kind 8 4 c.args.kind c.args.forward c.in_default.is-0.0.1 c.in_default.is-0.1 c.in_default.is-0.0.0.1 refl
