-- What a call that hands back number 0 has passed: the line's tests, and that of the order. Assumes nothing.
use Rattle.std.proofs.Common.{◌≡◌, ◌<◌, ℕ, eqb, List, eqb-true, arith}
use borrow.Author.Tests.{not-false}
use Rattle.algebra.specs.Refusals.{number_of}
use Rattle.algebra.proofs.Refusals.{Clear, no_number}
use Rattle.meaning.specs.Shape.{is_size, is_kind}
use Rattle.meaning.specs.Taken.{TakenLine}
use Rattle.meaning.specs.declared.refusal.Refusal.{Refusal}
use Rattle.meaning.specs.Refusal.{refusal_number}
use Rattle.wrapping.specs.Order.{is_order, Order}
use Rattle.wrapping.specs.Outcome.{wrapped_tests}
use Rattle.wrapping.proofs.Orders.{is-order}

module _ (n kind input output : ℕ) (order : List ℕ) where
  pub tested : Clear (wrapped_tests n kind input output order) → TakenLine n kind input output × Order n order
  tested (s, (k, (i, (o, (each, _))))) = (
    record {
      size = not-false (is_size n) s;
      known = not-false (is_kind kind) k;
      long = eqb-true input n (not-false (eqb input n) i);
      room = eqb-true output n (not-false (eqb output n) o);
    },
    is-order n order (not-false (is_order n order) each),
  )

  pub passed : number_of (wrapped_tests n kind input output order) ≡ 0 → TakenLine n kind input output × Order n order
  passed e = tested (no_number (wrapped_tests n kind input output order) tt e)
