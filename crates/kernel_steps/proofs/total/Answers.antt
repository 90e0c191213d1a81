use Rattle.std.proofs.Common.{arith, ◌≡◌, sym, ◌∙◌, subst, ℕ, ◌+◌, ◌≤◌, ◌<◌, ◌+ℤ◌, nat_abs, ℤ, to_z, of_z}
use mir.Syntax.{w32}
use mir.Val.{SFits}
use mir.ValLaws.{to_z-of_z}
use Rattle.algebra.specs.Sum.{sum}
use Rattle.algebra.specs.Lists.{at}
use Rattle.algebra.proofs.Word.{small}
use Rattle.algebra.proofs.Sum.{sum-next}
use Rattle.product.proofs.Summing.{sum-none-yet}
use Rattle.kernel_steps.specs.Weighed.{pair_size}
use Rattle.kernel_steps.proofs.Summing.{small-total, small-pair}
use Rattle.kernel_steps.proofs.total.Goals as goal
use Rattle.algebra.proofs.Order.{abs-add}

-- the next sum fits, and is what it should be
next : (f : ℕ → ℤ) (k n : ℕ) (x : ℤ) → k < n → n ≤ 8 → ((i : ℕ) → i < n → nat_abs (f i) ≤ pair_size) → x ≡ sum k f → SFits w32 (x +ℤ to_z w32 (of_z w32 (f k))) × (x +ℤ to_z w32 (of_z w32 (f k)) ≡ sum (k + 1) f)
next f k n x l few h p =
    let e : to_z w32 (of_z w32 (f k)) ≡ f k = to_z-of_z w32 (f k) (small-pair (h k l)) in
    let size : nat_abs (sum k f +ℤ f k) ≤ 1000000000 = omega (arith, abs-add (sum k f) (f k), small-total f k (omega arith) (λ i q. h i (omega arith)), h k l) in
    let same : x +ℤ to_z w32 (of_z w32 (f k)) ≡ sum k f +ℤ f k = λ t. p t +ℤ e t in
    (small {w = w32} {B = 1000000000} (omega arith) (subst (λ (z : ℤ). nat_abs z ≤ 1000000000) (sym same) size), same ∙ sym (sum-next k f))

pub loop-k-init : goal.loop-k-init
loop-k-init c = sum-none-yet (at c.args.s.now)

pub overflow_add-sum : goal.overflow_add-sum
overflow_add-sum c = (next (at c.args.s.now) c.loop-k.k c.args.pairs (to_z w32 c.loop-k.sum-bits) c.loop-k-test.true c.requires.0 c.requires.1 c.loop-k.invariant).0

pub loop-k-preserved : goal.loop-k-preserved
loop-k-preserved c =
    let n = next (at c.args.s.now) c.loop-k.k c.args.pairs (to_z w32 c.loop-k.sum-bits) c.loop-k-test.true c.requires.0 c.requires.1 c.loop-k.invariant in
    to_z-of_z w32 _ n.0 ∙ n.1
