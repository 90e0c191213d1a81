-- `flat` meets its contract. Assumes nothing.
use borrow.Author.Rules.{rules}
use native.Mathlib.Omega.{arith}
use mathlib.Core.Path.{◌≡◌, sym, ap, ◌∙◌, subst}
use Prim.Native.Nat.{◌≤◌}
use lib.IntN.{ℤ, pos, nat_abs, ◌*ℤ◌}
use lib.ListN.{length}
use mir.Syntax.{w32}
use mir.Val.{SFits, to_z, of_z}
use mir.ValLaws.{to_z-of_z}
use Rattle.algebra.specs.Lists.{tabulate}
use Rattle.algebra.proofs.Word.{small}
use Rattle.algebra.proofs.Lists.{tab-length}
use Rattle.meaning.specs.Inverse.{rounded}
use Rattle.product.specs.Product.{shifted}
use Rattle.product.proofs.Laid.{half_is, half-rounds}
use Rattle.dct2_block.proofs.Flat.{weighed-in, middle-in}
use Rattle.dct2_block.proofs.alone.flat.Statement.{statement}
use Rattle.dct2_block.proofs.alone.flat.Tie as tie

v-is : (c : tie.Start) → to_z w32 (of_z w32 c.args.v) ≡ c.args.v
v-is c = to_z-of_z w32 c.args.v c.ranges.v

weighed-requires : tie.Need-weighed-requires
weighed-requires c κs = subst (λ (z : ℤ). nat_abs z ≤ 32768) (sym (v-is c)) c.requires.0

first : (c : tie.After-weighed) → c.weighed.result ≡ pos 64 *ℤ c.before.args.v
first c = c.weighed.ensures ∙ ap (λ (z : ℤ). pos 64 *ℤ z) (v-is c.before)

first-is : (c : tie.After-weighed) → to_z w32 (of_z w32 c.weighed.result) ≡ pos 64 *ℤ c.before.args.v
first-is c = to_z-of_z w32 c.weighed.result (subst (λ (z : ℤ). SFits w32 z) (sym (first c)) (small {w = w32} {B = 2097152} (omega arith) (weighed-in c.before.args.v c.before.requires.0))) ∙ first c

round-requires : tie.Need-round-middle-requires
round-requires c κs = (subst (λ (z : ℤ). nat_abs z ≤ 1000000000) (sym (first-is c)) (omega (arith, weighed-in c.before.args.v c.before.requires.0)), record { small = omega arith; short = omega arith })

second : (c : tie.After-round-middle) → c.round-middle.result ≡ rounded (pos 64 *ℤ c.before.before.args.v)
second c = c.round-middle.ensures ∙ ap (shifted (pos 64) 7) (first-is c.before)

second_is : (c : tie.After-round-middle) → to_z w32 (of_z w32 c.round-middle.result) ≡ rounded (pos 64 *ℤ c.before.before.args.v)
second_is c = to_z-of_z w32 c.round-middle.result (subst (λ (z : ℤ). SFits w32 z) (sym (second c)) (small {w = w32} {B = 16384} (omega arith) (middle-in c.before.before.args.v c.before.before.requires.0))) ∙ second c

weighed-requires-2 : tie.Need-weighed-requires-2
weighed-requires-2 c κs = subst (λ (z : ℤ). nat_abs z ≤ 32768) (sym (second_is c)) (omega (arith, middle-in c.before.before.args.v c.before.before.requires.0))

third : (c : tie.After-weighed-2) → c.weighed-2.result ≡ pos 64 *ℤ rounded (pos 64 *ℤ c.before.before.before.args.v)
third c = c.weighed-2.ensures ∙ ap (λ (z : ℤ). pos 64 *ℤ z) (second_is c.before)

third-in : (c : tie.After-weighed-2) → nat_abs (pos 64 *ℤ rounded (pos 64 *ℤ c.before.before.before.args.v)) ≤ 2097152
third-in c = weighed-in (rounded (pos 64 *ℤ c.before.before.before.args.v)) (omega (arith, middle-in c.before.before.before.args.v c.before.before.before.requires.0))

third-is : (c : tie.After-weighed-2) → to_z w32 (of_z w32 c.weighed-2.result) ≡ pos 64 *ℤ rounded (pos 64 *ℤ c.before.before.before.args.v)
third-is c = to_z-of_z w32 c.weighed-2.result (subst (λ (z : ℤ). SFits w32 z) (sym (third c)) (small {w = w32} {B = 2097152} (omega arith) (third-in c))) ∙ third c

half-requires : tie.Need-half-requires
half-requires c κs = c.before.before.before.requires.1

round-requires-2 : tie.Need-round-requires
round-requires-2 c κs = (subst (λ (z : ℤ). nat_abs z ≤ 1000000000) (sym (third-is c.before)) (omega (arith, third-in c.before)), half-rounds c.half.ensures)

fill-requires : tie.Need-fill-requires
fill-requires c κs = search rules

returns : tie.Need-returns
returns c =
    let R = c.before.before.before in
    let H = R.before in
    let W = H.before in
    let s = W.before.before.before.args in
    c.before.fill.ensures
    ∙ ap (λ (z : ℤ). tabulate (length s.r.now) (λ _. z))
    (to_z-of_z w32 R.round.result (record { sfits = R.round.type_inv }) ∙ R.round.ensures ∙ (λ t. shifted (half_is H.half.ensures t) s.shift (third-is W t)))

same_length : tie.Need-shape_of-r
same_length c = ap length (returns c) ∙ tab-length _ _

pub flat_spec : {M : Type 1} → statement M
flat_spec = tie.close (tie.spec weighed-requires round-requires weighed-requires-2 half-requires round-requires-2 fill-requires same_length returns)
