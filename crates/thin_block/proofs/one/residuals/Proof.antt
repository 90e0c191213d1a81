-- `residuals` meets its contract: the line, and then the rounding. Assumes nothing.
use borrow.Author.Rules.{rules}
use native.Mathlib.Omega.{arith}
use mathlib.Core.Path.{◌≡◌, ap, ◌∙◌}
use mathlib.Core.List.{List}
use Prim.Native.Nat.{ℕ, ◌≤◌}
use lib.ListN.{length}
use lib.IntN.{ℤ}
use Rattle.algebra.specs.Lists.{at, tabulate}
use Rattle.algebra.specs.Shift.{nearest}
use Rattle.algebra.proofs.Lists.{tab-at, tab-length, tab-cong}
use Rattle.meaning.specs.Line.{inverse_sum, inverse_line}
use Rattle.meaning.proofs.Cases.{depth-cases}
use Rattle.thin_block.specs.Thin.{thin_shift}
use Rattle.thin_block.proofs.one.residuals.Statement.{statement}
use Rattle.thin_block.proofs.one.residuals.Tie as tie

depth : (s : tie.Start) → (8 ≤ s.args.d) × (s.args.d ≤ 12)
depth s = depth-cases s.args.d s.requires.depth

-- each number of it, rounded
rounded : (n kind s : ℕ) (c l : List ℤ) → l ≡ inverse_line kind n n (at c) → tabulate (length l) (λ k. nearest s (at l k)) ≡ tabulate n (λ k. nearest s (inverse_sum kind n n (at c) k))
unfolding inverse_line
rounded n kind s c l e =
    ap (λ (m : ℕ). tabulate m (λ k. nearest s (at l k))) (ap length e ∙ tab-length n (inverse_sum kind n n (at c)))
    ∙ tab-cong n _ _ (λ k h. ap (nearest s) (ap (λ (l : List ℤ). at l k) e ∙ tab-at n (inverse_sum kind n n (at c)) k h))

full-requires : tie.Need-full-requires
full-requires c κs = c.before.requires.line

sub-round-each : tie.Need-overflow_sub-d
sub-round-each c = omega (arith, depth c.before.before.before)

round-each-requires : tie.Need-round_each-requires
round-each-requires c κs = let d = depth c.before.before.before.before in (omega arith, omega arith)

same_length : tie.Need-shape_of-out
same_length c = search rules

returns : tie.Need-returns
returns c =
    let I = c.before.before.before.before in
    let s = I.before.before in
    let a = s.args in
    c.before.round_each.ensures
    ∙ rounded a.n a.kind (thin_shift a.d) a.c.now _ I.full.ensures

pub residuals_spec : {M : Type 1} → statement M
residuals_spec =
    tie.close (tie.spec full-requires sub-round-each round-each-requires same_length returns)
