-- `apart` meets its contract. Assumes nothing.
use borrow.Author.Rules.{rules}
use native.Mathlib.Omega.{arith}
use mathlib.Core.Path.{◌≡◌, ap, ◌∙◌}
use mathlib.Core.Bool.{cond}
use Prim.Native.Nat.{◌*◌, ◌≤◌}
use lib.Dec.{eqb}
use lib.IntN.{ℤ, pos, nat_abs, ◌-ℤ◌}
use mir.Syntax.{w32}
use mir.Val.{to_z, of_z}
use mir.ValLaws.{to_z-of_z}
use Rattle.round_trip.specs.RoundTrip.{G, less}
use Rattle.meaning.proofs.Cases.{pick}
use Rattle.round_trip.proofs.Bounds.{Place, place, G-in}
use Rattle.round_trip.proofs.apart.Statement.{statement}
use Rattle.round_trip.proofs.apart.Tie as tie

here : (c : tie.Start) → Place c.args.kind c.args.n c.args.j c.args.k
here c = place c.args.kind c.args.n c.args.j c.args.k c.requires

-- the two numbers of the difference
product-of : (c : tie.After-column_product) → let s = c.before.args in to_z w32 (of_z w32 c.column_product.result) ≡ G s.kind s.n s.j s.k
product-of c = to_z-of_z w32 c.column_product.result (search rules) ∙ c.column_product.ensures

off_of : (c : tie.After-off) → let s = c.before.before.args in to_z w32 (of_z w32 c.off.result) ≡ cond (eqb s.k s.j) (pos (4096 * s.n)) (pos 0)
off_of c = to_z-of_z w32 c.off.result (search rules) ∙ c.off.ensures

column-product-requires : tie.Need-column_product-requires
column-product-requires c κs = search rules

off-requires : tie.Need-off-requires
off-requires c κs = (here c.before).few

minus-requires : tie.Need-minus-requires
minus-requires c κs =
    let s = c.before.before.args in
    let p = here c.before.before in
    let few = p.few in (
      rw (product-of c.before) (G-in s.kind s.n s.j s.k p.size),
      rw (off_of c) (pick (λ (z : ℤ). nat_abs z ≤ 131072) (eqb s.k s.j) (omega arith) (omega arith)),
    )

size-requires : tie.Need-size-requires
size-requires c κs = search rules

returns : tie.Need-returns
unfolding less
returns c =
    c.size.ensures
    ∙ ap nat_abs (to_z-of_z w32 c.before.minus.result (search rules) ∙ c.before.minus.ensures
    ∙ (λ t. product-of c.before.before.before t -ℤ off_of c.before.before t))

pub apart_spec : {M : Type 1} → statement M
apart_spec =
    tie.close (tie.spec column-product-requires off-requires minus-requires size-requires returns)
