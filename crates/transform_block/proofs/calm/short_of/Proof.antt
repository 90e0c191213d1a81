-- `short_of` meets its contract: the last shift is at most 12. Assumes nothing.
use native.Mathlib.Omega.{arith}
use mathlib.Core.Path.{◌≡◌, sym}
use Prim.Native.Nat.{◌-◌}
use Rattle.transform_block.proofs.Shortened.{last_on}
use Rattle.transform_block.proofs.calm.short_of.Statement.{statement}
use Rattle.transform_block.proofs.calm.short_of.Tie as tie

last-requires : tie.Need-last-requires
last-requires c κs = c.requires.1.1.1

sub-t3 : tie.Need-overflow_sub-result
sub-t3 c = let s = c.before in omega (arith, c.last.ensures, last_on s.args.block s.requires.0 s.requires.1.0 s.requires.1.1.0 s.requires.1.1.1)

returns : tie.Need-returns
returns c =
    let b = c.before.args.block in
    λ i. record {
      width = b.width;
      height = b.height;
      horizontal = b.horizontal;
      vertical = b.vertical;
      depth = 20 - c.last.ensures i;
      extended = 0;
      columns = b.columns;
      rows = b.rows;
      lfnst = b.lfnst;
      set = b.set;
      transposed = b.transposed;
    }

pub short_of_spec : {M : Type 1} → statement M
short_of_spec = tie.close (tie.spec last-requires sub-t3 returns)
