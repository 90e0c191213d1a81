use Rattle.std.proofs.Common.{rules, arith, ◌≡◌, refl, sym, ◌∙◌, subst, ◌*◌, nat_abs, SFits, w32, w64, to_z, of_z, to_z-of_z}
use native.Mathlib.Nat.{le_refl}
use Rattle.algebra.proofs.Word.{Is, cast_v! }
use Rattle.product.specs.Product.{line_sum}
use Rattle.kernel_steps.proofs.Writing.{wrote_none, wrote_at, wrote-to}
use Rattle.lfnst.proofs.Summing.{few-outputs, by-dots, dot-line, sum_fits}
use Rattle.lfnst.proofs.sums.long_sums.Goals as goal
use Rattle.lfnst.proofs.sums.long_sums.Goals.{After-dot}

pub loop-j-init : goal.loop-j-init
loop-j-init c = wrote_none 0 _ _

pub overflow_mul-j : goal.overflow_mul-j
overflow_mul-j c = omega (arith, few-outputs c.requires.sizes, c.loop-j-test.true)

pub overflow_mul-n : goal.overflow_mul-n
overflow_mul-n c = omega (arith, few-outputs c.requires.sizes)

pub dot-requires : goal.dot-requires
dot-requires c = by-dots c.requires c.loop-j.j c.loop-j-test.true

-- the sum, which fits 32 bits
value : (c : goal.After-dot) → let s = c.args in to_z w64 (of_z w64 c.dot.result) ≡ line_sum s.u.now 0 2 s.t.now (2 * s.n) s.pairs c.loop-j.j
value c = to_z-of_z {w = w64} (search rules) ∙ c.dot.ensures.0 ∙ dot-line c.requires c.loop-j.j

fits : (c : goal.After-dot) → let s = c.args in SFits w32 (line_sum s.u.now 0 2 s.t.now (2 * s.n) s.pairs c.loop-j.j)
fits c = sum_fits c.requires c.loop-j.j c.loop-j-test.true

pub overflow_cast-v : goal.overflow_cast-v
overflow_cast-v c = let d = (goal.at.overflow_cast-v c).After-dot in subst (SFits w32) (sym (value d)) (fits d)

pub loop-j-preserved : goal.loop-j-preserved
loop-j-preserved c =
    let d = (goal.at.loop-j-preserved c).After-dot in
    let s = c.args in
    let z = line_sum s.u.now 0 2 s.t.now (2 * s.n) s.pairs c.loop-j.j in
    let word : Is w64 (of_z w64 c.dot.result) z (nat_abs z) = record { val = value d; abs = le_refl (nat_abs z) } in
    wrote_at _ _ _ (omega arith) refl (omega (arith, c.requires.room, c.loop-j-test.true)) c.loop-j.invariant (cast_v! word (fits d)).val

pub returns : goal.returns
returns c = wrote-to _ (omega (arith, c.loop-j.auto.j-end, c.loop-j-test.false)) c.loop-j.invariant
