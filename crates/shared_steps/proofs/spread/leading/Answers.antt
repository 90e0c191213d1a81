-- `spread::leading` meets its contract. Assumes nothing.
use Rattle.std.proofs.Common.{arith, ◌≡◌, ◌+◌, ◌-◌, ◌*◌, ◌<◌, ◌≤◌, ℕ, ℤ, ◌+ℤ◌, neg_ℤ, pos, refl, sym, ap, ◌∙◌}
use mathlib.Core.Bool.{true}
use lib.IntN.{+ℤ_idr, +ℤ_assoc, neg_ℤ-+ℤ}
use Rattle.algebra.specs.Lists.{at}
use Rattle.shared_steps.specs.Folds.{half, folded}
use Rattle.shared_steps.proofs.Reading.{Reads, reads, reads-sign, reads-sum, safe, is-small, leading-own, leading_two, leading-four}
use Rattle.shared_steps.proofs.spread.leading.Goals as goal
use Rattle.shared_steps.proofs.spread.leading.Goals.{Start}

-- a sum, as it is read
abbrev sums : Start → ℕ → ℤ
sums c = at c.args.a.now

number : (c : Start) (g : ℕ) → g < half c.args.p * c.args.q → Reads (sums c g) (sums c g) 94371840
number c g h = reads 94371840 refl (c.requires.1.1.small g h) (omega arith)

-- how far k is past the sums
abbrev past : Start → ℕ
past c = c.args.k - half c.args.p * c.args.q

-- two of the first q sums
module _ (s : Start) (h : half s.args.p * s.args.q ≤ s.args.k) where
  left : past s < half s.args.q
  left = omega (arith, h, s.requires.0, s.requires.1.0.all)

  near : Reads (sums s (past s)) (sums s (past s)) 94371840
  near = let z = s.requires.1.0 in number s _ (omega (arith, left, z.whole, z.by-q.odd))

  far : Reads (sums s (s.args.q - 2 - past s)) (sums s (s.args.q - 2 - past s)) 94371840
  far = let z = s.requires.1.0 in number s _ (omega (arith, left, z.whole, z.by-q.odd))

  -- two of the next q, where p is 5
  module _ (d : s.args.p ≡ 3 → ⊥) where
    double : half s.args.p * s.args.q ≡ 2 * s.args.q
    double = let z = s.requires.1.0 in z.wide (z.five d)

    near-2 : Reads (sums s (s.args.q + past s)) (sums s (s.args.q + past s)) 94371840
    near-2 = number s _ (omega (arith, double, left, s.requires.1.0.by-q.odd))

    far-2 : Reads (sums s (2 * s.args.q - 2 - past s)) (sums s (2 * s.args.q - 2 - past s)) 94371840
    far-2 = number s _ (omega (arith, double, left, s.requires.1.0.by-q.odd))

pub returns-then-k-m : goal.returns-then-k-m
returns-then-k-m c =
    let s = (goal.at.returns-then-k-m c).Start in
    let r = number s c.args.k c.if-k-m.true in
    (r.is ∙ sym (+ℤ_idr (sums s c.args.k)) ∙ ap (folded (sums s)) (sym (leading-own c.args.p c.args.q c.args.k c.if-k-m.true)), omega (arith, is-small r))

pub returns-then-p-eq3 : goal.returns-then-p-eq3
returns-then-p-eq3 c =
    let s = (goal.at.returns-then-p-eq3 c).Start in
    let h = c.if-k-m.false in
    let r = reads-sum (near s h) (far s h) c.plus-two.ensures (omega arith) in (
      r.is ∙ ap (λ (z : ℤ). sums s (past s) +ℤ z) (sym (+ℤ_idr (sums s (c.args.q - 2 - past s))))
          ∙ ap (folded (sums s)) (sym (leading_two c.args.p c.args.q c.args.k h c.if-p-eq3.true)),
      omega (arith, is-small r),
    )

pub plus-requires : goal.plus-requires
plus-requires c =
    let s = (goal.at.plus-requires c).Start in
    let h = c.if-k-m.false in
    (safe (near-2 s h c.if-p-eq3.false) (omega arith), safe (far-2 s h c.if-p-eq3.false) (omega arith))

pub plus-requires-2 : goal.plus-requires-2
plus-requires-2 c =
    let s = (goal.at.plus-requires-2 c).Start in
    let h = c.if-k-m.false in
    let first = reads-sum (near s h) (far s h) c.plus-two.ensures (omega arith) in
    let second = reads-sum (near-2 s h c.if-p-eq3.false) (far-2 s h c.if-p-eq3.false) c.plus.ensures (omega arith) in
    (safe (reads-sign first true c.negated.ensures (omega arith)) (omega arith), safe second (omega arith))

pub returns : goal.returns
returns c =
    let s = (goal.at.returns c).Start in
    let h = c.if-k-m.false in
    let g = past s in
    let q = c.args.q in
    let first = reads-sum (near s h) (far s h) c.plus-two.ensures (omega arith) in
    let second = reads-sum (near-2 s h c.if-p-eq3.false) (far-2 s h c.if-p-eq3.false) c.plus.ensures (omega arith) in
    let r = reads-sum (reads-sign first true c.negated.ensures (omega arith)) second c.plus-2.ensures (omega arith) in (
      r.is ∙ four (sums s g) (sums s (q - 2 - g)) (sums s (q + g)) (sums s (2 * q - 2 - g))
          ∙ ap (folded (sums s)) (sym (leading-four c.args.p q c.args.k h c.if-p-eq3.false)),
      is-small r,
    )
  where
    four : (u v y z : ℤ) → neg_ℤ (u +ℤ v) +ℤ (y +ℤ z) ≡ neg_ℤ u +ℤ (neg_ℤ v +ℤ (y +ℤ (z +ℤ pos 0)))
    four u v y z = (λ t. neg_ℤ-+ℤ u v t +ℤ (y +ℤ sym (+ℤ_idr z) t)) ∙ +ℤ_assoc (neg_ℤ u) (neg_ℤ v) (y +ℤ (z +ℤ pos 0))
