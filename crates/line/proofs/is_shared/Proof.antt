-- `is_shared` meets its contract: at each size. Assumes nothing.
use mathlib.Core.Path.{◌≡◌, refl}
use mathlib.Core.Bool.{not}
use lib.Dec.{eqb}
use Rattle.meaning.proofs.Cases.{size-cases}
use Rattle.shared_steps.specs.Lines.{is_shared}
use Rattle.line.proofs.is_shared.Statement.{statement}
use Rattle.line.proofs.is_shared.Tie as tie

returns : tie.Need-returns
returns c = size-cases (λ n. not (eqb n 8) ≡ is_shared n) refl refl refl refl c.args.n c.requires

pub is_shared_spec : {M : Type 1} → statement M
is_shared_spec = tie.close (tie.spec returns)
