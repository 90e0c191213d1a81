-- `running::sum_of` meets its contract: `ends_on_lem`, of a sum that fits. Assumes nothing.
use Rattle.std.proofs.Common.{ℕ, ◌^◌, ◌<◌, length, ℤ, nat_abs, ◌∙◌, arith, w32, rules}
use mir.ValLaws.{to_z-of_z}
use Rattle.algebra.specs.Sum.{sum}
use Rattle.wrapping.specs.Feed.{product_at}
use Rattle.wrapping.proofs.Adder.{ends_on_lem}
use Rattle.wrapping.proofs.running.sum_of.Statement.{statement}
use Rattle.wrapping.proofs.running.sum_of.Tie as tie

fed-requires : tie.Need-fed-held-requires
fed-requires c κs = search rules

wrapping-sub-u32-requires : tie.Need-wrapping_sub_u32-requires
wrapping-sub-u32-requires c κs = search rules

signed-requires : tie.Need-signed-requires
signed-requires c κs = search rules

returns : tie.Need-returns
returns c =
    let S = c.before.before.before.before in
    let a = S.args in
    let fed = c.before.before.fed-held.ensures in
    let off = c.before.wrapping_sub_u32 in
    let p : ℕ → ℤ = product_at a.t.now a.apart a.j a.x.now in
    let small : nat_abs (sum (length a.x.now) p) < 2 ^ 31 = omega (arith, fed.1, S.requires.0.few) in
    to_z-of_z w32 c.signed.result (search rules) ∙ c.signed.ensures
    ∙ ends_on_lem S.requires.0.each p a.start off.result (search rules) (omega arith) (off.ensures ∙ fed.0) small

pub sum_of_spec : {M : Type 1} → statement M
sum_of_spec = tie.close (tie.spec fed-requires wrapping-sub-u32-requires signed-requires returns)
