-- `products` meets its contract. Assumes nothing.
use Prim.Native.Nat.{ℕ}
use Rattle.std.proofs.Common.{rules, arith, ◌≡◌, ◌+◌, ◌*◌, ◌≤◌, ℤ, ◌+ℤ◌, ◌*ℤ◌, nat_abs, to_z, of_z, sym, ap, subst, ◌∙◌, zero-add, below_more}
use mir.Syntax.{w16, w32}
use mir.ValLaws.{to_z-of_z}
use Rattle.algebra.specs.Lists.{at}
use Rattle.algebra.proofs.Lists.{fill_none, fill-first}
use Rattle.product.specs.Product.{pair_at}
use Rattle.product.proofs.Summing.{product-size, pair_size}
use Rattle.product.proofs.products.Goals as goal
use Rattle.product.proofs.products.Goals.{After-pair-arg-in-loop-k-3-1}

pub loop-k-init : goal.loop-k-init
loop-k-init c = (fill_none 0 _ _, λ i h. absurd (omega arith))

-- the two products as they are read
module _ (c : goal.After-pair-arg-in-loop-k-3-1) where
  abbrev wgt : ℕ → ℤ
  wgt e = at c.args.b.now e

  abbrev inp : ℕ → ℤ
  inp e = at c.args.a.now e

  abbrev x : ℕ
  x = c.args.o + c.loop-k.k * c.args.apart

  abbrev i : ℕ
  i = c.args.p + c.loop-k.k * c.args.gap

  odd : to_z w16 (of_z w16 (wgt (x + 1))) *ℤ to_z w16 (of_z w16 (inp (i + 1))) ≡ wgt (x + 1) *ℤ inp (i + 1)
  odd = λ t. to_z-of_z w16 (wgt (x + 1)) (record { sfits = c.pair-arg-1.given }) t *ℤ to_z-of_z w16 (inp (i + 1)) (record { sfits = c.pair-arg-in-loop-k-1.given }) t

  even : to_z w16 (of_z w16 (wgt x)) *ℤ to_z w16 (of_z w16 (inp i)) ≡ wgt x *ℤ inp i
  even = λ t. to_z-of_z w16 (wgt x) (record { sfits = c.pair-arg-in-loop-k-2-1.given }) t *ℤ to_z-of_z w16 (inp i) (record { sfits = c.pair-arg-in-loop-k-3-1.given }) t

  -- their sizes
  odd-size : nat_abs (wgt (x + 1) *ℤ inp (i + 1)) ≤ 2981888
  odd-size =
      product-size {x = wgt (x + 1)} {y = inp (i + 1)} (record { sfits = c.pair-arg-1.given }) (record { sfits = c.pair-arg-in-loop-k-1.given })
      (c.requires.0.odd c.loop-k.k c.loop-k-test.true)

  even-size : nat_abs (wgt x *ℤ inp i) ≤ 2981888
  even-size =
      product-size {x = wgt x} {y = inp i} (record { sfits = c.pair-arg-in-loop-k-2-1.given }) (record { sfits = c.pair-arg-in-loop-k-3-1.given })
      (c.requires.0.even c.loop-k.k c.loop-k-test.true)

pub pair-requires : goal.pair-requires
pair-requires c = (
  subst (λ (z : ℤ). nat_abs z ≤ 2981888) (sym (odd c)) (odd-size c),
  subst (λ (z : ℤ). nat_abs z ≤ 2981888) (sym (even c)) (even-size c),
)

pub loop-k-preserved : goal.loop-k-preserved
loop-k-preserved c =
    let I = (goal.at.loop-k-preserved c).After-pair-arg-in-loop-k-3-1 in (
      fill-first _ (omega (arith, c.requires.1, c.requires.0.few)) c.loop-k.invariant.0 (to_z-of_z w32 c.pair.result (search rules) ∙ c.pair.ensures ∙ (λ t. odd I t +ℤ even I t)),
      below_more (λ i. nat_abs (pair_at c.args.a.now c.args.p c.args.gap c.args.b.now c.args.o c.args.apart i) ≤ 5963776) c.loop-k.k c.loop-k.invariant.1
          (pair_size (wgt I (x I + 1) *ℤ inp I (i I + 1)) (wgt I (x I) *ℤ inp I (i I)) (odd-size I) (even-size I)),
    )

pub returns : goal.returns
returns c k h =
    let e : at c.loop-k.s k ≡ _ = ap (at c.loop-k.s) (sym (zero-add k)) ∙ c.loop-k.invariant.0.done k (omega arith) in
    (e, subst (λ (z : ℤ). nat_abs z ≤ 5963776) (sym e) (c.loop-k.invariant.1 k (omega arith)))
