-- `word::signed` meets its contract. Assumes nothing.
use Rattle.std.proofs.Common.{◌≡◌, ◌-◌, ◌^◌, arith, rules, le-ltb}
use Rattle.wrapping.proofs.word.signed.Statement.{statement}
use Rattle.wrapping.proofs.word.signed.Tie as tie

cast-result : tie.Need-overflow_cast-result
cast-result c = search rules

returns : tie.Need-returns-then-u-lt2147483648
returns c = search rules

sub-result : tie.Need-overflow_sub-result
sub-result c = search rules

cast-result-2 : tie.Need-overflow_cast-result-2
cast-result-2 c = search rules

returns-2 : tie.Need-returns
returns-2 c =
    let u = c.before.args.u in
    let e : 4294967295 - (4294967295 - u) ≡ u = omega arith in
    rw (e, le-ltb u (2 ^ 31) c.if-u-lt2147483648.false)

pub signed_spec : {M : Type 1} → statement M
signed_spec = tie.close (tie.spec cast-result returns sub-result cast-result-2 returns-2)
