-- `four_quick` meets its contract: of kind 0 both ways it is the shape of the quick way. Assumes nothing.
use borrow.Author.Rules.{rules}
use mathlib.Core.Path.{◌≡◌, refl, sym}
use mathlib.Core.Bool.{true≢false}
use borrow.Author.Tests.{not-false}
use Rattle.transform_short.proofs.Narrowed.{dct2-given, dct2-quick}
use Rattle.transform_short.proofs.rooms.four_quick.Statement.{statement}
use Rattle.transform_short.proofs.rooms.four_quick.Tie as tie

is-dct2-requires : tie.Need-is_dct2-requires
is-dct2-requires c κs = search rules

returns : tie.Need-returns-then-not-is_dct2
returns c = record { left = λ _. refl; fits = λ e. absurd (true≢false (sym e)); done = λ e. absurd (true≢false (sym e)) }

kinds : (c : tie.Else-not-is_dct2) → let s = c.before.before in (s.args.shape.horizontal ≡ 0) × (s.args.shape.vertical ≡ 0)
kinds c = c.before.is_dct2.ensures c.if-not-is_dct2.false

quick-four-requires : tie.Need-quick_four-requires
quick-four-requires c κs =
    let I = c.before.before in
    let s = I.before.before in
    dct2-given s.args.shape s.args.numbers.now (kinds I).0 (kinds I).1 s.requires.0 s.requires.1

same_length : tie.Need-shape_of-numbers
same_length c = search rules

returns-2 : tie.Need-returns
returns-2 c =
    let Q = c.before in
    let I = Q.before.before.before in
    let s = I.before.before in
    dct2-quick s.args.shape s.args.numbers.now (kinds I).0 (kinds I).1 Q.quick_four.ensures

pub four_quick_spec : {M : Type 1} → statement M
four_quick_spec = tie.close (tie.spec is-dct2-requires returns quick-four-requires same_length returns-2)
