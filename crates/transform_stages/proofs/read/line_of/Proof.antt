-- `line_of` meets its contract. Assumes nothing.
use borrow.Author.Rules.{rules}
use native.Mathlib.Omega.{arith}
use Rattle.transform_stages.proofs.Copying.{copied-line}
use Rattle.transform_stages.proofs.read.line_of.Statement.{statement}
use Rattle.transform_stages.proofs.read.line_of.Tie as tie

slice-aggregate-copy : tie.Need-slice_bounds-copy-end
slice-aggregate-copy c = search rules

copy-requires : tie.Need-copy-requires
copy-requires c κs = (c.before.requires.1, omega (arith, c.before.requires.0))

returns : tie.Need-returns
returns c = let s = c.before.before.before in copied-line s.args.o s.args.count c.before.copy.ensures

pub line_of_spec : {M : Type 1} → statement M
line_of_spec = tie.close (tie.spec slice-aggregate-copy copy-requires returns)
