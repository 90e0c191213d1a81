-- `put_128` meets its contract: the front of the table of each size. Assumes nothing.
use borrow.Author.Rules.{rules}
use mathlib.Core.Path.{◌≡◌, sym, subst}
use native.Mathlib.Omega.{arith}
use Prim.Native.Nat.{ℕ}
use lib.ListN.{length}
use Rattle.stage_weights.specs.Stage.{Weights}
use Rattle.stage_weights.proofs.Rooms.{is-thirty-two, is-few, front, in-room}
use Rattle.stage_weights.proofs.put_128.Statement.{statement}
use Rattle.stage_weights.proofs.put_128.Tie as tie

put-32-requires : tie.Need-put_32-requires
put-32-requires c κs = search rules

slice-aggregate-front : tie.Need-slice_bounds-front-end
slice-aggregate-front c = sym c.before.put_32.ensures.0

front-requires : tie.Need-front-requires
front-requires c κs =
    let s = c.before.before.before.before.before in
    omega (arith, s.requires.1, c.before.before.put_32.ensures.0)

zipped-16-requires : tie.Need-zipped_16-requires
zipped-16-requires c κs = search rules

slice-aggregate-front-2 : tie.Need-slice_bounds-front-end-then-n-eq16
slice-aggregate-front-2 c = search rules

front-requires-2 : tie.Need-front-requires-then-n-eq16
front-requires-2 c κs = search rules

few-requires : tie.Need-few-requires
few-requires c κs =
    let s = c.before.before.before in
    ((s.requires.0, is-few s.args.n s.requires.0 c.before.before.if-n-gt16.false c.before.if-n-eq16.false), omega (arith, s.requires.1))

returns : tie.Need-returns-then-n-gt16
returns c =
    let s = c.before.before.before.before.before.before in
    let e : s.args.n ≡ 32 = is-thirty-two s.args.n s.requires.0 c.before.before.before.before.before.if-n-gt16.true in
    in-room s.args.n s.args.kind s.args.forward s.requires.1 (
      c.front.ensures.long,
      subst (λ (n : ℕ). Weights (length s.args.u.now) n s.args.forward s.args.kind n c.front.new.u) (sym e)
          (λ pairs l m. front c.before.before.before.put_32.ensures.1 c.front.ensures pairs l m),
    )

returns-2 : tie.Need-returns-then-n-eq16
returns-2 c =
    let s = c.before.before.before.before.before.before in
    let e : s.args.n ≡ 16 = c.before.before.before.before.if-n-eq16.true in
    in-room s.args.n s.args.kind s.args.forward s.requires.1 (
      c.front-then-n-eq16.ensures.long,
      subst (λ (n : ℕ). Weights (length s.args.u.now) n s.args.forward s.args.kind n c.front-then-n-eq16.new.u) (sym e)
          (λ pairs l m. front c.before.before.before.zipped_16.ensures c.front-then-n-eq16.ensures pairs l m),
    )

returns-3 : tie.Need-returns-else-n-eq16
returns-3 c =
    let s = c.before.before.before.before in
    in-room s.args.n s.args.kind s.args.forward s.requires.1 c.few.ensures

pub put_128_spec : {M : Type 1} → statement M
put_128_spec =
    tie.close
    (tie.spec
    put-32-requires
    slice-aggregate-front
    front-requires
    zipped-16-requires
    slice-aggregate-front-2
    front-requires-2
    few-requires
    returns
    returns-2
    returns-3)
