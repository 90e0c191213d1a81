-- `clipped` meets its contract. Assumes nothing.
use borrow.Author.Rules.{rules}
use mathlib.Core.Path.{◌≡◌, sym, ◌∙◌, subst}
use Prim.Native.Nat.{◌-◌, ◌^◌}
use lib.IntN.{ℤ, pos, negsuc}
use lib.Signed.{◌≤ℤ◌, le_z_yes}
use mir.Syntax.{w32, w64}
use mir.Val.{to_z, of_z}
use mir.ValLaws.{to_z-of_z}
use Rattle.algebra.specs.Clip.{clip}
use Rattle.long_stages.proofs.arith.clipped.Statement.{statement}
use Rattle.long_stages.proofs.arith.clipped.Tie as tie

low-end-requires : tie.Need-low_end-requires
low-end-requires c κs = c.requires

high-end-requires : tie.Need-high_end-requires
high-end-requires c κs = c.before.requires

low : (c : tie.After-low_end) → to_z w32 (of_z w32 c.low_end.result) ≡ negsuc (2 ^ c.before.args.reach - 1)
low c = to_z-of_z w32 c.low_end.result (search rules) ∙ c.low_end.ensures

high : (c : tie.After-high_end) → to_z w32 (of_z w32 c.high_end.result) ≡ pos (2 ^ c.before.before.args.reach - 1)
high c = to_z-of_z w32 c.high_end.result (search rules) ∙ c.high_end.ensures

clip-to-requires : tie.Need-clip_to-requires
clip-to-requires c κs =
    let l = low c.before in
    let h = high c in
    subst (λ (z : ℤ). z ≤ℤ to_z w32 (of_z w32 c.high_end.result)) (sym l) (subst (λ (z : ℤ). negsuc (2 ^ c.before.before.args.reach - 1) ≤ℤ z) (sym h) (le_z_yes tt))

returns : tie.Need-returns
returns c =
    let s = c.before.before.before in
    to_z-of_z w32 c.clip_to.result (search rules) ∙ c.clip_to.ensures ∙ (λ i. clip (record { low = low c.before.before i; high = high c.before i }) (to_z-of_z w64 s.args.v s.ranges.v i))

pub clipped_spec : {M : Type 1} → statement M
clipped_spec = tie.close (tie.spec low-end-requires high-end-requires clip-to-requires returns)
