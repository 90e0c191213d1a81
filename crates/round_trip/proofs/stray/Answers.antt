-- `stray` meets its contract. Assumes nothing.
use Rattle.std.proofs.Common.{arith, ◌≡◌, ◌+◌, ℕ, true, nat_abs, refl, sym, ap, ◌∙◌}
use Rattle.algebra.specs.Sum.{sumℕ}
use Rattle.algebra.proofs.Sum.{sumℕ-next}
use Rattle.meaning.proofs.Cases.{size_in}
use Rattle.round_trip.specs.RoundTrip.{less, D, is_column}
use Rattle.round_trip.proofs.Bounds.{column-place, column-size, less-in, sizes-in}
use Rattle.round_trip.proofs.stray.Goals as goal
use Rattle.round_trip.proofs.stray.Goals.{Else-not-is_column}

-- a column that there is
there : (c : Else-not-is_column) → is_column c.args.kind c.args.n c.args.j ≡ true
there c = sym c.is_column.ensures ∙ c.if-not-is_column.false

pub returns-then-not-is_column : goal.returns-then-not-is_column
returns-then-not-is_column c = rw (← c.is_column.ensures, c.if-not-is_column.true)

pub loop-k-init : goal.loop-k-init
unfolding sumℕ
loop-k-init c = refl

pub apart-total-requires : goal.apart-total-requires
apart-total-requires c = column-place c.args.kind c.args.n c.args.j c.loop-k.k (there (goal.at.apart-total-requires c).Else-not-is_column) c.loop-k-test.true

pub overflow_add-total : goal.overflow_add-total
overflow_add-total c =
    let s = c.args in
    let k = c.loop-k.k in
    let n = column-size s.kind s.n s.j (there (goal.at.overflow_add-total c).Else-not-is_column) in
    record { fits = omega (arith, c.loop-k-test.true, size_in s.n n, c.loop-k.invariant, c.apart-total.ensures, sizes-in s.kind s.n s.j k n, less-in s.kind s.n s.j k n) }

pub loop-k-preserved : goal.loop-k-preserved
loop-k-preserved c =
    (λ t. c.loop-k.invariant t + c.apart-total.ensures t) ∙ sym (sumℕ-next c.loop-k.k (λ k. nat_abs (less c.args.kind c.args.n c.args.j k)))

pub returns : goal.returns
unfolding D
returns c =
    let s = c.args in
    let e : c.loop-k.k ≡ s.n = omega (arith, c.loop-k.auto.k-end, c.loop-k-test.false) in
    c.loop-k.invariant ∙ ap (λ (m : ℕ). sumℕ m (λ k. nat_abs (less s.kind s.n s.j k))) e ∙ rw (there (goal.at.returns c).Else-not-is_column)
