-- `four` meets its contract: a block that does not take the quick way stands as it was. Assumes nothing.
use borrow.Author.Rules.{rules}
use mathlib.Core.Path.{◌≡◌, sym, ap, ◌∙◌, subst}
use mathlib.Core.List.{List}
use Prim.Native.Nat.{◌≤◌}
use lib.IntN.{ℤ}
use lib.ListN.{length}
use Rattle.meaning.specs.Plan.{plan_of}
use Rattle.meaning.specs.Inverse.{rails, inverse_block}
use Rattle.transform_short.specs.Short.{GivenRead}
use Rattle.transform_short.proofs.rooms.four.Statement.{statement}
use Rattle.transform_short.proofs.rooms.four.Tie as tie

four-quick-requires : tie.Need-four_quick-requires
four-quick-requires c κs = c.before.before.requires

same_length : tie.Need-shape_of-numbers-then-four_quick
same_length c = search rules

returns : tie.Need-returns-then-four_quick
returns c = c.before.before.four_quick.ensures.done c.if-four_quick.true

-- the numbers are as they were
same : (c : tie.Else-four_quick) → c.before.before.four_quick.new.numbers ≡ c.before.before.before.before.before.args.numbers.now
same c = c.before.before.four_quick.ensures.left c.if-four_quick.false

called-requires : tie.Need-called-requires
called-requires c κs =
    let E = c.before in
    let s = E.before.before.before.before.before in
    subst (λ (n : List ℤ). GivenRead s.args.shape n × (length n ≤ 16)) (sym (same E)) s.requires

same-length-2 : tie.Need-shape_of-numbers
same-length-2 c = search rules

returns-2 : tie.Need-returns
returns-2 c =
    let E = c.before.before.before in
    let s = E.before.before.before.before.before in
    let e = c.before.called.ensures in
    (e.0 ∙ ap (λ (n : List ℤ). rails (plan_of s.args.shape) n) (same E), e.1 ∙ ap (λ (n : List ℤ). inverse_block (plan_of s.args.shape) n) (same E))

pub four_spec : {M : Type 1} → statement M
four_spec = tie.close (tie.spec four-quick-requires same_length returns called-requires same-length-2 returns-2)
