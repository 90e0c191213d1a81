-- `stages` meets its contract: the line of the side that is not 1, or both stages. Assumes nothing.
use borrow.Author.Rules.{rules}
use mathlib.Core.Path.{refl}
use Rattle.transform_stages.proofs.stages.stages.Statement.{statement}
use Rattle.transform_stages.proofs.stages.stages.Tie as tie

one-stage-requires : tie.Need-one_stage-requires
one-stage-requires c κs =
    let E = c.before.before.before in
    (E.before.requires.upright E.if-width-eq1.true, (refl, refl))

same_length : tie.Need-shape_of-numbers-then-width-eq1
same_length c = search rules

returns : tie.Need-returns-then-width-eq1
returns c =
    let E = c.before.before.before.before.before in
    record {
      upright = λ e. (refl, c.before.one_stage.ensures);
      lying = λ a e. absurd (a E.if-width-eq1.true);
      two = λ a b. absurd (a E.if-width-eq1.true);
    }

one-stage-requires-2 : tie.Need-one_stage-requires-then-height-eq1
one-stage-requires-2 c κs =
    let E = c.before.before.before in
    (E.before.before.requires.lying E.before.if-width-eq1.false E.if-height-eq1.true, (refl, refl))

same-length-2 : tie.Need-shape_of-numbers-then-height-eq1
same-length-2 c = search rules

returns-2 : tie.Need-returns-then-height-eq1
returns-2 c =
    let E = c.before.before.before.before.before in
    record {
      upright = λ e. absurd (E.before.if-width-eq1.false e);
      lying = λ a e. (refl, c.before.one_stage-then-height-eq1.ensures);
      two = λ a b. absurd (b E.if-height-eq1.true);
    }

two-stages-requires : tie.Need-two_stages-requires
two-stages-requires c κs =
    let E = c.before.before.before in
    (E.before.before.requires.two E.before.if-width-eq1.false E.if-height-eq1.false, (refl, refl))

same-length-3 : tie.Need-shape_of-numbers
same-length-3 c = search rules

returns-3 : tie.Need-returns
returns-3 c =
    let E = c.before.before.before.before.before in
    record {
      upright = λ e. absurd (E.before.if-width-eq1.false e);
      lying = λ a e. absurd (E.if-height-eq1.false e);
      two = λ a b. c.before.two_stages.ensures;
    }

pub stages_spec : {M : Type 1} → statement M
stages_spec =
    tie.close
    (tie.spec
    one-stage-requires
    same_length
    returns
    one-stage-requires-2
    same-length-2
    returns-2
    two-stages-requires
    same-length-3
    returns-3)
