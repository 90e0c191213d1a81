-- `word::bits` meets its contract. Assumes nothing.
use Rattle.std.proofs.Common.{◌≡◌, ◌-◌, true, false, pos, nat_abs, ap, ◌∙◌, arith, w32, to_z, of_z}
use lib.Signed.{lt_z}
use mir.ValLaws.{to_z-of_z}
use Rattle.wrapping.specs.Wrapped.{wrap}
use Rattle.wrapping.proofs.Wraps.{wrap-lt, of_negative, of_other}
use Rattle.wrapping.proofs.word.bits.Statement.{statement}
use Rattle.wrapping.proofs.word.bits.Tie as tie

flipped : (c : tie.Then-p-lt0) → to_z w32 (4294967295 - of_z w32 c.before.args.p) ≡ pos (4294967295 - wrap c.before.args.p)
flipped c =
    let s = c.before in
    let e : lt_z s.args.p (pos 0) ≡ true = rw (to_z-of_z w32 s.args.p s.ranges.p) at c.if-p-lt0.true in
    of_negative s.args.p s.ranges.p e

same : (c : tie.Else-p-lt0) → to_z w32 (of_z w32 c.before.args.p) ≡ pos (wrap c.before.args.p)
same c =
    let s = c.before in
    let e : lt_z s.args.p (pos 0) ≡ false = rw (to_z-of_z w32 s.args.p s.ranges.p) at c.if-p-lt0.false in
    to_z-of_z w32 s.args.p s.ranges.p ∙ of_other s.args.p s.ranges.p e

cast-result : tie.Need-overflow_cast-result
cast-result c = rw (flipped c) (tt, record { fits = omega arith })

sub-result : tie.Need-overflow_sub-result
sub-result c = rw (flipped c) (omega arith)

returns : tie.Need-returns-then-p-lt0
returns c = rw (flipped c) (omega (arith, wrap-lt c.before.args.p))

cast-result-2 : tie.Need-overflow_cast-result-2
cast-result-2 c = rw (same c) (tt, record { fits = wrap-lt c.before.args.p })

returns-2 : tie.Need-returns
returns-2 c = ap nat_abs (same c)

pub bits_spec : {M : Type 1} → statement M
bits_spec = tie.close (tie.spec cast-result sub-result returns cast-result-2 returns-2)
