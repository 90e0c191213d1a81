-- `few` meets its contract: the whole table of either size. Assumes nothing.
use borrow.Author.Rules.{rules}
use mathlib.Core.Path.{◌≡◌, sym, subst}
use Prim.Native.Nat.{ℕ}
use lib.ListN.{length}
use Rattle.stage_weights.specs.Stage.{Weights}
use Rattle.stage_weights.proofs.Rooms.{is-eight, front}
use Rattle.stage_weights.proofs.few.Statement.{statement}
use Rattle.stage_weights.proofs.few.Tie as tie

zipped-4-requires : tie.Need-zipped_4-requires
zipped-4-requires c κs = search rules

slice-aggregate-front : tie.Need-slice_bounds-front-end
slice-aggregate-front c = search rules

front-requires : tie.Need-front-requires
front-requires c κs = search rules

zipped-8-requires : tie.Need-zipped_8-requires
zipped-8-requires c κs = search rules

slice-aggregate-front-2 : tie.Need-slice_bounds-front-end-else-n-eq4
slice-aggregate-front-2 c = search rules

front-requires-2 : tie.Need-front-requires-else-n-eq4
front-requires-2 c κs = search rules

same_length : tie.Need-shape_of-u-then-n-eq4
same_length c = search rules

returns : tie.Need-returns-then-n-eq4
returns c =
    let s = c.before.before.before.before.before.before in
    let room = length s.args.u.now in
    let e : s.args.n ≡ 4 = c.before.before.before.before.before.if-n-eq4.true in (
      c.before.front.ensures.long,
      subst (λ (n : ℕ). Weights room n s.args.forward s.args.kind n c.before.front.new.u) (sym e)
          (λ pairs l m. front c.before.before.before.before.zipped_4.ensures c.before.front.ensures pairs l m),
    )

same-length-2 : tie.Need-shape_of-u-else-n-eq4
same-length-2 c = search rules

returns-2 : tie.Need-returns-else-n-eq4
returns-2 c =
    let s = c.before.before.before.before.before.before in
    let room = length s.args.u.now in
    let e : s.args.n ≡ 8 = is-eight s.args.n s.requires.0.0 c.before.before.before.before.before.if-n-eq4.false s.requires.0.1 in (
      c.before.front-else-n-eq4.ensures.long,
      subst (λ (n : ℕ). Weights room n s.args.forward s.args.kind n c.before.front-else-n-eq4.new.u) (sym e)
          (λ pairs l m. front c.before.before.before.before.zipped_8.ensures c.before.front-else-n-eq4.ensures pairs l m),
    )

pub few_spec : {M : Type 1} → statement M
few_spec =
    tie.close
    (tie.spec
    zipped-4-requires
    slice-aggregate-front
    front-requires
    zipped-8-requires
    slice-aggregate-front-2
    front-requires-2
    same_length
    returns
    same-length-2
    returns-2)
