-- Document 02, Wish 8: what is known of the kept numbers of a shape that was taken. Assumes nothing.
use mathlib.Core.Path.{◌≡◌}
use mathlib.Core.Bool.{Bool, true, false, cond}
use Prim.Native.Nat.{ℕ, ◌≤◌, ◌<◌, min}
use native.Mathlib.Nat.{le_trans}
use native.Mathlib.Omega.{arith}
use borrow.Author.Tests.{leb-true}
use lib.Dec.{eqb, leb}
use Rattle.meaning.specs.declared.Shape.{Shape}
use Rattle.meaning.specs.Shape.{most_kept, is_kept, keeps}
use Rattle.meaning.specs.Taken.{TakenBy}
use Rattle.meaning.proofs.Cases.{and_cases}

-- either bound
most-cases : (P : ℕ → Type 0) (kind n : ℕ) → P (min n 32) → P (min n 16) → P (most_kept kind n)
unfolding most_kept
most-cases P kind n all some = either (eqb kind 0)
  where
    either : (b : Bool) → P (min n (cond b 32 16))
    either true = all
    either false = some

pub most-in : (kind n : ℕ) → most_kept kind n ≤ n
most-in kind n = most-cases (λ m. m ≤ n) kind n (omega arith) (omega arith)

most-32 : (kind n : ℕ) → most_kept kind n ≤ 32
most-32 kind n = most-cases (λ m. m ≤ 32) kind n (omega arith) (omega arith)

-- all of 16 and fewer, whatever the kind
pub most-all : (kind n : ℕ) → n ≤ 16 → most_kept kind n ≡ n
most-all kind n h = most-cases (λ m. m ≡ n) kind n (omega arith) (omega arith)

-- a kept number: some, no more than there are
pub record Kept (n k : ℕ) : Type 0 where
  pub some : 0 < k
  pub within : k ≤ n
  pub short : k ≤ 32

pub kept_of : (kind n k : ℕ) → is_kept kind n k ≡ true → Kept n k
kept_of kind n k h =
    let both = and_cases (leb 1 k) (leb k (most_kept kind n)) h in
    let high = leb-true k (most_kept kind n) both.1 in
    record { some = leb-true 1 k both.0; within = le_trans high (most-in kind n); short = le_trans high (most-32 kind n) }

module _ {wide high deep : Bool} (sh : Shape) (t : TakenBy wide high deep sh) where
  both : (is_kept sh.horizontal sh.width sh.columns ≡ true) × (is_kept sh.vertical sh.height sh.rows ≡ true)
  unfolding keeps
  both = and_cases (is_kept sh.horizontal sh.width sh.columns) (is_kept sh.vertical sh.height sh.rows) t.kept

  pub columns-kept : Kept sh.width sh.columns
  columns-kept = kept_of sh.horizontal sh.width sh.columns both.0

  pub rows-kept : Kept sh.height sh.rows
  rows-kept = kept_of sh.vertical sh.height sh.rows both.1
