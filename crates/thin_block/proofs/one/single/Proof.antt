-- `single` meets its contract: the line of the side that is not 1. Assumes nothing.
use borrow.Author.Rules.{rules}
use mathlib.Core.Path.{◌≡◌, ap, ◌∙◌}
use mathlib.Core.Bool.{false}
use Prim.Native.Nat.{ℕ, ◌*◌}
use native.Mathlib.Nat.{mul-one, one-mul}
use borrow.Author.Tests.{ne_eqb}
use lib.Dec.{eqb}
use Rattle.thin_block.proofs.Sides.{beside, low-side}
use Rattle.thin_block.proofs.KeptLine.{upright, lying}
use Rattle.thin_block.proofs.one.single.Statement.{statement}
use Rattle.thin_block.proofs.one.single.Tie as tie

-- w*h where a side is 1
tall : (c : tie.Then-shape-eq1) → let s = c.before.before.args.shape in s.width * s.height ≡ s.height
tall c = let s = c.before.before.args.shape in ap (λ (w : ℕ). w * s.height) c.if-shape-eq1.true ∙ one-mul s.height

not-one : (c : tie.Else-shape-eq1) → eqb c.before.before.args.shape.width 1 ≡ false
not-one c = ne_eqb _ _ c.if-shape-eq1.false

low : (c : tie.Else-shape-eq1) → c.before.before.args.shape.height ≡ 1
low c = let s = c.before.before in low-side s.args.shape s.requires.thin (not-one c)

broad : (c : tie.Else-shape-eq1) → let s = c.before.before.args.shape in s.width * s.height ≡ s.width
broad c = let s = c.before.before.args.shape in ap (λ (h : ℕ). s.width * h) (low c) ∙ mul-one s.width

residuals-requires : tie.Need-residuals-requires
residuals-requires c κs =
    let E = c.before in
    let s = E.before.before in
    let sh = s.args.shape in
    let t = s.requires.taken in
    record {
      line = record { size = beside sh.width sh.height E.if-shape-eq1.true t.width; known = t.vertical; long = s.requires.long ∙ tall E; room = s.requires.room ∙ tall E };
      depth = t.depth;
    }

residuals-requires-2 : tie.Need-residuals-requires-else-shape-eq1
residuals-requires-2 c κs =
    let E = c.before in
    let s = E.before.before in
    let sh = s.args.shape in
    let t = s.requires.taken in
    record {
      line = record { size = beside sh.height sh.width (low E) t.height; known = t.horizontal; long = s.requires.long ∙ broad E; room = s.requires.room ∙ broad E };
      depth = t.depth;
    }

same_length : tie.Need-shape_of-out-then-shape-eq1
same_length c = search rules

returns : tie.Need-returns-then-shape-eq1
returns c =
    let E = c.before.before.before in
    let s = E.before.before in
    c.before.residuals.ensures ∙ upright s.args.shape s.args.c.now s.requires.kept E.if-shape-eq1.true

same-length-2 : tie.Need-shape_of-out-else-shape-eq1
same-length-2 c = search rules

returns-2 : tie.Need-returns-else-shape-eq1
returns-2 c =
    let E = c.before.before.before in
    let s = E.before.before in
    c.before.residuals-else-shape-eq1.ensures ∙ lying s.args.shape s.args.c.now s.requires.kept (not-one E) (low E)

pub single_spec : {M : Type 1} → statement M
single_spec =
    tie.close
    (tie.spec residuals-requires residuals-requires-2 same_length returns same-length-2 returns-2)
