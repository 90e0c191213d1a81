-- `fast_inverse` meets its contract: each kind and size has its path. Assumes nothing.
use borrow.Author.Rules.{rules}
use mathlib.Core.Path.{sym, ap, ◌∙◌}
use mathlib.Core.Bool.{false}
use Prim.Native.Nat.{ℕ}
use Rattle.algebra.specs.Lists.{at}
use Rattle.meaning.proofs.AcceptedCalls.{line_taken}
use Rattle.full_line.specs.Lines.{line_of}
use Rattle.line.proofs.Lent.{halves-given, folded-given, without, eight}
use Rattle.line.proofs.fast_inverse.Statement.{statement}
use Rattle.line.proofs.fast_inverse.Tie as tie

inverse-requires : tie.Need-inverse-requires
inverse-requires c κs = halves-given (line_taken _ _ _ _ c.before.before.requires) c.before.if-kind-eq0.true

is-shared-requires : tie.Need-is_shared-requires
is-shared-requires c κs = (line_taken _ _ _ _ c.before.requires).size

inverse-requires-2 : tie.Need-inverse-requires-then-is_shared
inverse-requires-2 c κs =
    folded-given (line_taken _ _ _ _ c.before.before.before.before.requires) c.before.before.before.if-kind-eq0.false (sym c.before.before.is_shared.ensures ∙ c.before.if-is_shared.true)

eight-requires : tie.Need-eight-requires
eight-requires c κs =
    eight (line_taken _ _ _ _ c.before.before.before.before.requires) (sym c.before.before.is_shared.ensures ∙ c.before.if-is_shared.false)

same_length : tie.Need-shape_of-y-then-kind-eq0
same_length c = search rules

returns : tie.Need-returns-then-kind-eq0
returns c =
    let s = c.before.before.before.before.args in
    c.before.inverse.ensures ∙ ap (λ (kind : ℕ). line_of false kind s.n (at s.x.now)) (sym c.before.before.before.if-kind-eq0.true)

same-length-2 : tie.Need-shape_of-y-then-is_shared
same-length-2 c = search rules

returns-2 : tie.Need-returns-then-is_shared
returns-2 c = c.before.inverse-then-is_shared.ensures

same-length-3 : tie.Need-shape_of-y-else-is_shared
same-length-3 c = search rules

returns-3 : tie.Need-returns-else-is_shared
returns-3 c =
    let S = c.before.before.before.before.before.before in
    c.before.eight.ensures
    ∙ ap (λ (n : ℕ). line_of false S.args.kind n (at S.args.x.now)) (sym (without (line_taken _ _ _ _ S.requires) (sym c.before.before.before.before.is_shared.ensures ∙ c.before.before.before.if-is_shared.false)))

pub fast_inverse_spec : {M : Type 1} → statement M
fast_inverse_spec =
    tie.close
    (tie.spec
    inverse-requires
    is-shared-requires
    inverse-requires-2
    eight-requires
    same_length
    returns
    same-length-2
    returns-2
    same-length-3
    returns-3)
