-- A 4 by 4 block by value "refuses with 3, 4, 5 and 9 only": of the lent form's tests, 1, 2, 20, 6, 7 and 8 cannot apply
-- (`forward-tests`, `inverse-tests`). And four lines of four are known by their numbers in order (`lines-one`), so that a
-- contract over `flat` settles each of them. Assumes nothing.
use mathlib.Core.Path.{◌≡◌, sym, ap, ◌∙◌}
use mathlib.Core.Bool.{true, false, not}
use mathlib.Core.List.{List, [], ◌∷◌, ◌++◌}
use Prim.Native.Nat.{ℕ, ◌+◌, ◌*◌, ◌≤◌, ◌<◌}
use native.Mathlib.Omega.{arith}
use borrow.Author.Tests.{le-ltb}
use lib.Dec.{ltb}
use lib.IntN.{ℤ, pos}
use lib.ListN.{length, get_or}
use lib.Seq.{ext_get_or}
use Rattle.algebra.specs.Lists.{at, tabulate, flat}
use Rattle.algebra.specs.Refusals.{Test}
use Rattle.algebra.proofs.Lists.{flat-at}
use Rattle.meaning.specs.Shape.{is_size, is_kind, is_depth, most_kept, keeps}
use Rattle.meaning.specs.Plan.{plan_of}
use Rattle.meaning.specs.Answer.{outcome, test, accepted}
use Rattle.meaning.specs.Inverse.{first_outside, rails, inverse_block}
use Rattle.meaning.specs.Forward.{first_too_large, forward_block}
use Rattle.meaning.proofs.KeptPart.{most-all}
use Rattle.layout.specs.Part.{Part}
use Rattle.layout.proofs.Inside.{none-outside}
use Rattle.small_block.specs.Small.{small_shape, zeros, small_forward, small_inverse}

-- 3, 4 and 5
abbrev pub small_tests : ℕ → ℕ → ℕ → List Test
small_tests horizontal vertical depth = test (not (is_kind horizontal)) 3 ∷ test (not (is_kind vertical)) 4 ∷ test (not (is_depth depth)) 5 ∷ []

-- all of a 4 by 4 block is kept
whole : (b : List ℤ) → Part 4 4 4 4 b
whole b = record { narrow = omega arith; low = omega arith; right = λ x y l g v. absurd (omega arith); below = λ x y g l v. absurd (omega arith) }

all-four : (h v d : ℕ) → keeps (small_shape h v d) ≡ true
unfolding keeps
all-four h v d = rw (most-all h 4 (omega arith), most-all v 4 (omega arith))

module _ (b : List (List ℤ)) (h v d : ℕ) (long : length (flat b) ≡ 16) where
  pub forward-tests : small_forward b h v d
      ≡ outcome (small_tests h v d ++ (record { applies = ltb (first_too_large (small_shape h v d) (flat b)) 16; number = 9; place = first_too_large (small_shape h v d) (flat b) } ∷ [])) zeros
      (accepted 0, forward_block (small_shape h v d) (flat b))
  unfolding is_size tabulate
  forward-tests = rw (long, all-four h v d)

  none_found : ltb (first_outside (plan_of (small_shape h v d)) (flat b)) 16 ≡ false
  none_found =
      let all : (k : ℕ) → 4 ≤ most_kept k 4 = λ k. omega (arith, most-all k 4 (omega arith)) in
      let e = none-outside (plan_of (small_shape h v d)) (flat b) long (whole (flat b)) (all h) (all v) in
      le-ltb (first_outside (plan_of (small_shape h v d)) (flat b)) 16 (omega (arith, e))

  pub inverse-tests : small_inverse b h v d ≡ outcome (small_tests h v d) zeros (accepted (rails (plan_of (small_shape h v d)) (flat b)), inverse_block (plan_of (small_shape h v d)) (flat b))
  unfolding is_size tabulate
  inverse-tests = rw (long, all-four h v d, none_found)

-- four lines of four
pub record Four (b : List (List ℤ)) : Type 0 where
  pub lines : length b ≡ 4
  pub each : (y : ℕ) → y < length b → length (get_or b y []) ≡ 4

pub lines-one : (a b : List (List ℤ)) → Four a → Four b → flat a ≡ flat b → a ≡ b
lines-one a b f g e =
    ext_get_or [] a b (f.lines ∙ sym g.lines)
    (λ y h.
    let hb : y < length b = omega (arith, f.lines, g.lines) in
    ext_get_or (pos 0) (get_or a y []) (get_or b y []) (f.each y h ∙ sym (g.each y hb))
    (λ x l.
    let hx : x < 4 = omega (arith, f.each y h) in
    sym (flat-at 4 a f.each x y hx h) ∙ ap (λ (u : List ℤ). at u (x + y * 4)) e ∙ flat-at 4 b g.each x y hx hb))
