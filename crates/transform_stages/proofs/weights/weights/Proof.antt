-- `weights` meets its contract: 64 points, 2, and a size. Assumes nothing.
use borrow.Author.Rules.{rules}
use native.Mathlib.Omega.{arith}
use mathlib.Core.Path.{◌≡◌, sym, subst, ◌∙◌}
use Prim.Native.Nat.{ℕ}
use Rattle.stage_weights.proofs.Rooms.{front}
use Rattle.transform_stages.specs.Work.{LineWeights}
use Rattle.transform_stages.proofs.Lines.{size-left, kind-of-64, kind-of-2, of-dct2}
use Rattle.transform_stages.proofs.weights.weights.Statement.{statement}
use Rattle.transform_stages.proofs.weights.weights.Tie as tie

put-64-requires : tie.Need-put_64-requires
put-64-requires c κs = search rules

zipped-2-requires : tie.Need-zipped_2-requires
zipped-2-requires c κs = search rules

slice-aggregate-front : tie.Need-slice_bounds-front-end
slice-aggregate-front c = search rules

front-requires : tie.Need-front-requires
front-requires c κs = search rules

middling-requires : tie.Need-middling-requires
middling-requires c κs =
    let E = c.before.before in
    let s = E.before.before in
    (size-left s.args.kind s.args.n s.requires.0 E.before.if-n-eq64.false E.if-n-eq2.false, s.requires.1)

returns : tie.Need-returns-then-n-eq64
returns c =
    let s = c.before.before.before in
    let e : s.args.n ≡ 64 = c.before.before.if-n-eq64.true in
    let q = c.put_64.ensures in (
      s.requires.1.0,
      (
        q.0,
        subst (λ (n : ℕ). LineWeights s.args.kind n c.put_64.new.u) (sym e)
            (λ pairs h. of-dct2 s.args.kind (kind-of-64 s.args.kind s.args.n s.requires.0 e) 64 16 q.1 pairs (omega arith)),
      ),
    )

returns-2 : tie.Need-returns-then-n-eq2
returns-2 c =
    let s = c.before.before.before.before.before.before in
    let e : s.args.n ≡ 2 = c.before.before.before.before.if-n-eq2.true in
    let z = of-dct2 s.args.kind (kind-of-2 s.args.kind s.args.n s.requires.0 e) 2 1 c.before.before.before.zipped_2.ensures in (
      s.requires.1.0,
      (
        c.front.ensures.long ∙ s.requires.1.1,
        subst (λ (n : ℕ). LineWeights s.args.kind n c.front.new.u) (sym e)
            (λ pairs h. front (z pairs (omega arith)) c.front.ensures pairs (omega arith) (omega (arith, s.requires.1.1))),
      ),
    )

returns-3 : tie.Need-returns-else-n-eq2
returns-3 c = c.middling.ensures

pub weights_spec : {M : Type 1} → statement M
weights_spec =
    tie.close
    (tie.spec
    put-64-requires
    zipped-2-requires
    slice-aggregate-front
    front-requires
    middling-requires
    returns
    returns-2
    returns-3)
