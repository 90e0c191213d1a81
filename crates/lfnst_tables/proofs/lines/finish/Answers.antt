use Rattle.std.proofs.Common.{rules, arith, ◌≡◌, refl, sym, ap, ◌∙◌, subst, ◌≤◌, ℤ, nat_abs, w32, w64, to_z, of_z, to_z-of_z}
use lib.Dec.{lit<}
use Rattle.algebra.specs.Clip.{clip}
use Rattle.algebra.specs.Lists.{at}
use Rattle.algebra.proofs.Word.{arg, cast_v}
use Rattle.meaning.specs.Plan.{range_of}
use Rattle.meaning.specs.Inverse.{rounded}
use Rattle.kernel_steps.proofs.Writing.{wrote_none, wrote_at, wrote-to}
use Rattle.lfnst_tables.proofs.lines.finish.Goals as goal
use Rattle.lfnst_tables.proofs.lines.finish.Goals.{In-loop-j}

pub loop-j-init : goal.loop-j-init
loop-j-init c = wrote_none 0 _ _

-- sum j as it is read
read : (c : goal.In-loop-j) → to_z w32 (of_z w32 (at c.loop-j.v c.loop-j.j)) ≡ at c.args.v.now c.loop-j.j
read c = to_z-of_z {w = w32} (search rules) ∙ c.loop-j.invariant.after c.loop-j.j (omega arith)

pub round-requires : goal.round-requires
round-requires c = (
  subst (λ (z : ℤ). nat_abs z ≤ 1000000000) (sym (read (goal.at.round-requires c).In-loop-j)) (c.requires.0.low c.loop-j.j c.loop-j-test.true),
  record { small = omega arith; short = omega arith },
)

pub loop-j-preserved : goal.loop-j-preserved
loop-j-preserved c =
    wrote_at _ _ _ (omega arith) refl (omega (arith, c.requires.0.room, c.loop-j-test.true)) c.loop-j.invariant
    (to_z-of_z {w = w32} (search rules) ∙ c.clipped.ensures
    ∙ ap (clip (range_of c.args.reach)) ((cast_v (arg {w = w32} {z = c.round.result} (search rules)) {w' = w64} (lit< tt)).val ∙ c.round.ensures ∙ ap rounded (read (goal.at.loop-j-preserved c).In-loop-j)))

pub returns : goal.returns
returns c = wrote-to _ (omega (arith, c.loop-j.auto.j-end, c.loop-j-test.false)) c.loop-j.invariant
