-- `first_read` meets its contract: where the look finds nothing, nothing that is read is refused. Assumes nothing.
use native.Mathlib.Omega.{arith}
use mathlib.Core.Path.{◌≡◌}
use Prim.Native.Nat.{◌+◌, ◌*◌}
use native.Mathlib.Nat.{lt_of_lt_of_le}
use lib.ListN.{length}
use Rattle.algebra.proofs.Lists.{place_in}
use Rattle.long_stages.proofs.Finds.{not-found}
use Rattle.transform_hunt.specs.Hunt.{first_read}
use Rattle.transform_hunt.proofs.Hunting.{none_at_all, none_inside}
use Rattle.transform_hunt.proofs.first_read.Goals as goal

pub returns-then-is_clear : goal.returns-then-is_clear
returns-then-is_clear c =
    let a = c.args in
    let e : first_read a.w a.columns a.rows a.reach a.c.now ≡ length a.c.now =
    none_at_all a.w c.requires.high a.columns a.rows a.reach a.c.now c.requires.long
    (none_inside a.w c.requires.high a.columns a.rows a.reach a.c.now c.requires.long
    (λ x y h g. c.is_clear.ensures c.if-is_clear.true (x + y * a.w) (place_in {x = x} {y = y} {w = a.w} {h = a.rows} (lt_of_lt_of_le h c.requires.narrow) g))) in
    not-found (length a.c.now) (first_read a.w a.columns a.rows a.reach a.c.now) (omega arith)
