-- `live_of` meets its contract. Assumes nothing.
use borrow.Author.Rules.{rules}
use native.Mathlib.Omega.{arith}
use mathlib.Core.Path.{◌≡◌, sym, subst}
use mathlib.Core.Bool.{true}
use Prim.Native.Nat.{ℕ}
use Rattle.kernel_picks.specs.Picks.{is_kernel}
use Rattle.dct2_block.proofs.worked.live_of.Statement.{statement}
use Rattle.dct2_block.proofs.worked.live_of.Tie as tie

live-of-8-requires : tie.Need-live_of_8-requires
live-of-8-requires c κs = c.before.requires

returns : tie.Need-returns-then-count-eq8
returns c p =
    let s = c.before.before in
    let e = c.live_of_8.ensures in
    (subst (λ (k : ℕ). is_kernel k s.args.n c.live_of_8.result ≡ true) (sym c.before.if-count-eq8.true) e.0, e.1)

live-of-4-requires : tie.Need-live_of_4-requires
live-of-4-requires c κs = search rules

returns-2 : tie.Need-returns
returns-2 c p = let s = c.before.before in let e = c.live_of_4.ensures p in (e.0 s.args.count, omega (arith, s.requires.1, e.1))

pub live_of_spec : {M : Type 1} → statement M
live_of_spec = tie.close (tie.spec live-of-8-requires returns live-of-4-requires returns-2)
