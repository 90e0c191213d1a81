-- `first_beyond` meets its contract: what the hunt looks at is what the plan reads. Assumes nothing.
use borrow.Author.Rules.{rules}
use mathlib.Core.Path.{◌≡◌, ap, ◌∙◌}
use Prim.Native.Nat.{ℕ, ◌≤◌}
use native.Mathlib.Nat.{mul_comm}
use native.Mathlib.Omega.{arith}
use lib.ListN.{length}
use Rattle.algebra.specs.First.{found}
use Rattle.transform_hunt.specs.Hunt.{first_read}
use Rattle.transform_block.proofs.Taken.{columns-read, rows-read, far}
use Rattle.transform_block.proofs.hunt.first_beyond.Statement.{statement}
use Rattle.transform_block.proofs.hunt.first_beyond.Tie as tie

cast-first-read : tie.Need-overflow_cast-block
cast-first-read c = search rules

cast-first-read-2 : tie.Need-overflow_cast-block-2
cast-first-read-2 c = search rules

cast-first-read-3 : tie.Need-overflow_cast-block-3
cast-first-read-3 c = search rules

reach-requires : tie.Need-reach-requires
reach-requires c κs = search rules

first-read-requires : tie.Need-first_read-requires
first-read-requires c κs =
    let s = c.before.before.before.before in
    let b = s.args.block in
    let n = s.args.c.now in
    record {
      high = b.height;
      long = s.requires.long ∙ mul_comm b.width b.height;
      narrow = (columns-read b n s.requires).within;
      low = (rows-read b n s.requires).within;
      far = omega (arith, c.reach.ensures, far b n s.requires);
    }

returns : tie.Need-returns
returns c =
    let R = c.before in
    let s = R.before.before.before.before in
    let b = s.args.block in
    c.first_read.ensures ∙ ap (λ (r : ℕ). found (length s.args.c.now) (first_read b.width b.columns b.rows r s.args.c.now)) R.reach.ensures

pub first_beyond_spec : {M : Type 1} → statement M
first_beyond_spec = tie.close (tie.spec cast-first-read cast-first-read-2 cast-first-read-3 reach-requires first-read-requires returns)
