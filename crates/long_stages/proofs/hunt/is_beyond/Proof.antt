-- `is_beyond` meets its contract. Assumes nothing.
use borrow.Author.Rules.{rules}
use mathlib.Core.Path.{◌≡◌, ◌∙◌}
use Prim.Native.Nat.{◌-◌, ◌^◌}
use lib.IntN.{pos, negsuc}
use mir.Syntax.{w32}
use mir.Val.{to_z, of_z}
use mir.ValLaws.{to_z-of_z}
use Rattle.meaning.specs.Long.{beyond}
use Rattle.long_stages.proofs.hunt.is_beyond.Statement.{statement}
use Rattle.long_stages.proofs.hunt.is_beyond.Tie as tie

low-end-requires : tie.Need-low_end-requires
low-end-requires c κs = c.requires

high-end-requires : tie.Need-high_end-requires
high-end-requires c κs = c.before.requires

low : (c : tie.After-low_end) → to_z w32 (of_z w32 c.low_end.result) ≡ negsuc (2 ^ c.before.args.reach - 1)
low c = to_z-of_z w32 c.low_end.result (search rules) ∙ c.low_end.ensures

high : (c : tie.After-high_end) → to_z w32 (of_z w32 c.high_end.result) ≡ pos (2 ^ c.before.before.args.reach - 1)
high c = to_z-of_z w32 c.high_end.result (search rules) ∙ c.high_end.ensures

past-ends-requires : tie.Need-past_ends-requires
past-ends-requires c κs = search rules

returns : tie.Need-returns
returns c =
    let s = c.before.before.before in
    c.past_ends.ensures ∙ (λ i. beyond (record { low = low c.before.before i; high = high c.before i }) (to_z-of_z w32 s.args.n s.ranges.n i))

pub is_beyond_spec : {M : Type 1} → statement M
is_beyond_spec = tie.close (tie.spec low-end-requires high-end-requires past-ends-requires returns)
