-- `put_sample` meets its contract. Assumes nothing.
use mathlib.Core.Path.{ap, ◌∙◌}
use mir.Syntax.{w32}
use mir.ValLaws.{to_z-of_z}
use Rattle.picture_samples.specs.Samples.{sample_of, samples}
use mathlib.Core.List.{[], ◌∷◌}
use Prim.Native.Nat.{ℕ, ◌/◌, ◌%◌}
use Rattle.file_text.proofs.Writing.{and_then, retext}
use borrow.Author.Rules.{rules}
use Rattle.picture_samples.proofs.put.put_sample.Statement.{statement}
use Rattle.picture_samples.proofs.put.put_sample.Tie as tie

sample-of-requires : tie.Need-sample_of-sample-requires
sample-of-requires c κs = search rules

cast-put : tie.Need-overflow_cast-sample
cast-put c = search rules

put-requires : tie.Need-put-next-requires
put-requires c κs = search rules

cast-put-2 : tie.Need-overflow_cast-sample-2
cast-put-2 c = search rules

put-requires-2 : tie.Need-put-requires
put-requires-2 c κs = search rules

same_length : tie.Need-shape_of-file
same_length c = search rules

returns : tie.Need-returns
unfolding samples
returns c =
    let s = c.before.before.before.before.before.before.before.before.before.before in
    retext (ap (λ (n : ℕ). n / 256 ∷ n % 256 ∷ []) (c.before.before.before.before.before.before.before.before.sample_of-sample.ensures.0 ∙ ap sample_of (to_z-of_z w32 s.args.z s.ranges.z))) (and_then c.before.before.before.before.before.before.put-next.ensures c.before.before.put.ensures)

pub put_sample_spec : {M : Type 1} → statement M
put_sample_spec =
    tie.close
    (tie.spec sample-of-requires cast-put put-requires cast-put-2 put-requires-2 same_length returns)
