-- `running::product_at` meets its contract: both numbers are read, and a weight is small. Assumes nothing.
use Rattle.std.proofs.Common.{◌+◌, ◌*◌, ◌*ℤ◌, ◌∙◌, inl, w16, rules}
use mir.ValLaws.{to_z-of_z}
use Rattle.algebra.specs.Lists.{at}
use Rattle.product.specs.Product.{spot}
use Rattle.product.proofs.Summing.{product-size}
use Rattle.wrapping.specs.Wrapped.{wrap}
use Rattle.wrapping.proofs.running.product_at.Statement.{statement}
use Rattle.wrapping.proofs.running.product_at.Tie as tie

mul-product : tie.Need-overflow_mul-j
mul-product c = search rules

mul-product-2 : tie.Need-overflow_mul-i
mul-product-2 c = search rules

add-product : tie.Need-overflow_add-i
add-product c = search rules

add-product-2 : tie.Need-overflow_add-j
add-product-2 c = search rules

mul-product-3 : tie.Need-offset_bounds-t-j
mul-product-3 c = search rules

shared-slice-copy-out-product : tie.Need-bounds-t-j
shared-slice-copy-out-product c = search rules

mul-product-4 : tie.Need-offset_bounds-x-i
mul-product-4 c = search rules

shared-slice-copy-out-product-2 : tie.Need-bounds-x-i
shared-slice-copy-out-product-2 c = search rules

product-requires : tie.Need-product-requires
product-requires c κs = search rules

returns : tie.Need-returns
returns c =
    let S = c.before.before.before in
    let w = at S.args.t.now (2 * S.args.j + spot S.args.apart S.args.i) in
    let v = at S.args.x.now S.args.i in (
      c.product.ensures ∙ (λ s. wrap (to_z-of_z w16 w (record { sfits = c.before.before.product-arg-1.given }) s *ℤ to_z-of_z w16 v (record { sfits = c.before.product-arg-2-1.given }) s)),
      product-size {x = w} {y = v} (record { sfits = c.before.before.product-arg-1.given }) (record { sfits = c.before.product-arg-2-1.given }) (inl S.requires.1.1),
    )

pub product_at_spec : {M : Type 1} → statement M
product_at_spec =
    tie.close
    (tie.spec
    mul-product
    mul-product-2
    add-product
    add-product-2
    mul-product-3
    shared-slice-copy-out-product
    mul-product-4
    shared-slice-copy-out-product-2
    product-requires
    returns)
