use Rattle.std.proofs.Common.{rules, ap, of_z}
use mir.Syntax.{w16}
use Rattle.meaning.specs.Plan.{short_range}
use mathlib.Core.Bool.{true≢false}
use Rattle.dct2_block.proofs.touched.at_end.Goals as goal

pub returns-else-v-eq32767 : goal.returns-else-v-eq32767
unfolding short_range
returns-else-v-eq32767 c e =
    (λ q. absurd (true≢false (search rules)), λ q. c.if-v-eq32767.false (ap (of_z w16) q))
