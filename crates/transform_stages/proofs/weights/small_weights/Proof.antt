-- `small_weights` meets its contract: 2 points, 16, and what is between. Assumes nothing.
use borrow.Author.Rules.{rules}
use native.Mathlib.Omega.{arith}
use mathlib.Core.Path.{◌≡◌, refl, sym, subst, ◌∙◌}
use mathlib.Core.Bool.{true}
use Prim.Native.Nat.{ℕ, ◌*◌, ◌≤◌}
use native.Mathlib.Nat.{mul-le-mul}
use Rattle.meaning.specs.Shape.{is_size}
use Rattle.meaning.proofs.Cases.{size-cases}
use Rattle.stage_weights.proofs.Rooms.{front}
use Rattle.transform_stages.specs.Work.{LineWeights}
use Rattle.transform_stages.proofs.Lines.{size-left, kind-of-2, of-dct2}
use Rattle.transform_stages.proofs.weights.small_weights.Statement.{statement}
use Rattle.transform_stages.proofs.weights.small_weights.Tie as tie

zipped-2-requires : tie.Need-zipped_2-requires
zipped-2-requires c κs = search rules

slice-aggregate-front : tie.Need-slice_bounds-front-end
slice-aggregate-front c = search rules

front-requires : tie.Need-front-requires
front-requires c κs = search rules

zipped-16-requires : tie.Need-zipped_16-requires
zipped-16-requires c κs = search rules

slice-aggregate-front-2 : tie.Need-slice_bounds-front-end-then-n-eq16
slice-aggregate-front-2 c = search rules

front-requires-2 : tie.Need-front-requires-then-n-eq16
front-requires-2 c κs = search rules

-- neither 2 nor 16
eight : (n : ℕ) → is_size n ≡ true → n ≤ 16 → (n ≡ 16 → ⊥) → n ≤ 8
eight = size-cases (λ n. n ≤ 16 → (n ≡ 16 → ⊥) → n ≤ 8) (λ l e. omega arith) (λ l e. omega arith) (λ l e. absurd (e refl)) (λ l e. absurd (omega arith))

few-requires : tie.Need-few-requires
few-requires c κs =
    let E = c.before in
    let s = E.before.before in
    let z = size-left s.args.kind s.args.n s.requires.0 (λ e. absurd (omega (arith, s.requires.1.0))) E.before.if-n-eq2.false in
    ((z, eight s.args.n z s.requires.1.0 E.if-n-eq16.false), omega (arith, s.requires.1.1))

returns : tie.Need-returns-then-n-eq2
returns c =
    let s = c.before.before.before.before.before in
    let e : s.args.n ≡ 2 = c.before.before.before.before.if-n-eq2.true in
    let z = of-dct2 s.args.kind (kind-of-2 s.args.kind s.args.n s.requires.0 e) 2 1 c.before.before.before.zipped_2.ensures in (
      c.front.ensures.long ∙ s.requires.1.1,
      subst (λ (n : ℕ). LineWeights s.args.kind n c.front.new.u) (sym e)
          (λ pairs h. front (z pairs (omega arith)) c.front.ensures pairs (omega arith) (omega (arith, s.requires.1.1))),
    )

returns-2 : tie.Need-returns-then-n-eq16
returns-2 c =
    let s = c.before.before.before.before.before.before in
    let e : s.args.n ≡ 16 = c.before.before.before.before.if-n-eq16.true in (
      c.front-then-n-eq16.ensures.long ∙ s.requires.1.1,
      subst (λ (n : ℕ). LineWeights s.args.kind n c.front-then-n-eq16.new.u) (sym e)
          (λ pairs h. front c.before.before.before.zipped_16.ensures c.front-then-n-eq16.ensures pairs (omega arith) (omega (arith, s.requires.1.1))),
    )

returns-3 : tie.Need-returns-else-n-eq16
returns-3 c =
    let E = c.before.before in
    let s = E.before.before in (
      c.few.ensures.0 ∙ s.requires.1.1,
      λ pairs h.
          let a : pairs ≤ 8 = omega (arith, s.requires.1.0) in
          let b : 2 * s.args.n ≤ 32 = omega (arith, s.requires.1.0) in
          let m : pairs * (2 * s.args.n) ≤ 8 * 32 = mul-le-mul a b in
          c.few.ensures.1 pairs (omega arith) (omega (arith, s.requires.1.1)),
    )

pub small_weights_spec : {M : Type 1} → statement M
small_weights_spec =
    tie.close
    (tie.spec
    zipped-2-requires
    slice-aggregate-front
    front-requires
    zipped-16-requires
    slice-aggregate-front-2
    front-requires-2
    few-requires
    returns
    returns-2
    returns-3)
