-- `ordinary` meets its contract: the refusals in their order, then LFNST, if the block has one, and the work. Assumes nothing.
use native.Mathlib.Omega.{arith}
use mathlib.Core.Path.{◌≡◌, sym, ap, ◌∙◌}
use mathlib.Core.Bool.{true, false}
use mathlib.Core.List.{List, [], ◌∷◌}
use Prim.Native.Nat.{ℕ, ◌≤◌, ◌<◌}
use native.Mathlib.Nat.{mul_comm}
use borrow.Author.Tests.{ltb-true, ltb-false}
use lib.IntN.{ℤ}
use lib.ListN.{length}
use Rattle.algebra.specs.Refusals as tests
use Rattle.algebra.proofs.Found.{found_some, found_none}
use Rattle.algebra.proofs.Refusals.{refused-first, passed_first}
use Rattle.meaning.specs.declared.Answer.{Answer}
use Rattle.meaning.specs.declared.refusal.Refusal.{Refusal}
use Rattle.meaning.specs.Refusal.{refusal_number}
use Rattle.meaning.specs.Answer.{Outcome, refused, test_at}
use Rattle.transform_block.specs.declared.TransformBlock.{TransformBlock}
use Rattle.transform_block.specs.TransformBlock.{reach_of, transform_plan, first_read_beyond, handed_tests, inverted, transform_outcome}
use Rattle.transform_block.specs.Given.{TakenFields, GivenWork}
use Rattle.transform_block.proofs.Taken.{fields-taken, few, columns-read, rows-read}
use Rattle.transform_hunt.proofs.Hunting.{inside-none}
use Rattle.transform_block.proofs.ordinary.Goals as goal
use Rattle.meaning.proofs.RefusalNumbers.{above}

module _ (b : TransformBlock) (n : List ℤ) where
  -- 1 to 4, 30, 5, 20, 31 and 6; 27; and what a call hands back at either end
  abbrev nine : List tests.Test
  nine = handed_tests b (length n)

  abbrev place : ℕ
  place = first_read_beyond (transform_plan b) n

  abbrev last : List tests.Test
  last = test_at place (length n) 27 ∷ []

  abbrev refuse : ℕ → ℕ → Outcome
  refuse number place = (refused number place, n)

  abbrev done : Outcome
  done = inverted b n

  past : 0 ≡ tests.number_of nine → transform_outcome b n ≡ tests.first_of last refuse done
  past e = passed_first last refuse done nine tt (sym e)

  -- what a call that nothing refuses was handed
  given : 0 ≡ tests.number_of nine → length n ≤ place → GivenWork b n
  given e none =
      let t = fields-taken b n (sym e) in
      record {
        taken = t;
        inside = inside-none b.width b.height b.columns b.rows (reach_of b) n (t.long ∙ mul_comm b.width b.height) none (columns-read b n t).within (rows-read b n t).within;
      }

pub returns-in-Err : goal.returns-in-Err
returns-in-Err c =
    let b = c.args.block in
    let n = c.args.numbers.now in
    let m = above c.in-Err.refusal in
    let e : refusal_number c.in-Err.refusal ≡ tests.number_of (nine b n) = c.in-Err.ensures in
    ap (λ (a : Answer). (a, n)) (c.at.ensures ∙ ap (λ (k : ℕ). refused k 0) e)
    ∙ sym (refused-first (last b n) (refuse b n) (done b n) (nine b n) tt (λ z. omega (arith, m, e, z)))

pub first_beyond-requires : goal.first_beyond-requires
first_beyond-requires c = fields-taken c.args.block c.args.numbers.now (sym c.in_default.ensures)

pub overflow_cast-place : goal.overflow_cast-place
overflow_cast-place c =
    let b = c.args.block in
    let n = c.args.numbers.now in
    let f = found_some (length n) (place b n) c.in-Some.place c.in-Some.ensures in
    omega (arith, f.0, ltb-true _ _ f.1, few b n (fields-taken b n (sym c.in_default.ensures)))

pub returns-in-Some : goal.returns-in-Some
returns-in-Some c =
    let b = c.args.block in
    let n = c.args.numbers.now in
    let f = found_some (length n) (place b n) c.in-Some.place c.in-Some.ensures in
    ap (λ (a : Answer). (a, n)) (c.at-in-Some.ensures ∙ ap (λ (k : ℕ). refused 27 k) f.0)
    ∙ sym (past b n c.in_default.ensures ∙ rw f.1)

pub after_low-behind-requires : goal.after_low-behind-requires
after_low-behind-requires c =
    let b = c.args.block in
    let n = c.args.numbers.now in
    given b n c.in_default.ensures (ltb-false _ _ (found_none (length n) (place b n) c.in_default-first_beyond.ensures))

pub calmed-calm-requires : goal.calmed-calm-requires
calmed-calm-requires c = c.after_low-behind.ensures.given

pub work-requires : goal.work-requires
work-requires c = c.calmed-calm.ensures.0

pub returns : goal.returns
returns c =
    let b = c.args.block in
    let n = c.args.numbers.now in
    let none = found_none (length n) (place b n) c.in_default-first_beyond.ensures in
    ap (λ (a : Answer). (a, c.work.new.numbers)) c.accepted.ensures ∙ c.work.ensures ∙ c.calmed-calm.ensures.1 ∙ c.after_low-behind.ensures.same
    ∙ sym (past b n c.in_default.ensures ∙ rw none)
