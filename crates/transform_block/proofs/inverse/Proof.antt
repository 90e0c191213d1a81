-- `inverse` meets its contract: a block that does not take the quick way stands as it was. Assumes nothing.
use borrow.Author.Rules.{rules}
use mathlib.Core.Path.{◌≡◌, ap, ◌∙◌}
use mathlib.Core.List.{List}
use lib.IntN.{ℤ}
use Rattle.meaning.specs.declared.Answer.{Answer}
use Rattle.transform_block.specs.TransformBlock.{transform_outcome}
use Rattle.transform_block.proofs.inverse.Statement.{statement}
use Rattle.transform_block.proofs.inverse.Tie as tie

tried-requires : tie.Need-tried-requires
tried-requires c κs = search rules

accepted-requires : tie.Need-accepted-requires
accepted-requires c κs = search rules

same_length : tie.Need-shape_of-numbers-then-tried
same_length c = search rules

returns : tie.Need-returns-then-tried
returns c =
    let T = c.before.before.before in
    let out : List ℤ = T.tried.new.numbers in
    ap (λ (a : Answer). (a, out)) c.accepted.ensures ∙ T.tried.ensures.done c.before.if-tried.true

ordinary-requires : tie.Need-ordinary-requires
ordinary-requires c κs = search rules

same-length-2 : tie.Need-shape_of-numbers
same-length-2 c = search rules

returns-2 : tie.Need-returns
returns-2 c =
    let E = c.before.before.before in
    let T = E.before.before in
    let s = T.before.before.before in
    c.before.ordinary.ensures ∙ ap (λ (n : List ℤ). transform_outcome s.args.block n) (T.tried.ensures.left E.if-tried.false)

pub inverse_spec : {M : Type 1} → statement M
inverse_spec =
    tie.close
    (tie.spec
    tried-requires
    accepted-requires
    same_length
    returns
    ordinary-requires
    same-length-2
    returns-2)
