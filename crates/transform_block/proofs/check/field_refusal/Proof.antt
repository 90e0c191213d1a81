-- `field_refusal` meets its contract: each test after those before it. Assumes nothing.
use borrow.Author.Rules.{rules}
use mathlib.Core.Path.{◌≡◌, sym, ap, ◌∙◌}
use mathlib.Core.Bool.{Bool, true, false, not, ◌&&◌, ◌||◌}
use mathlib.Core.List.{List, [], ◌∷◌}
use Prim.Native.Nat.{◌*◌, ◌≤◌}
use native.Mathlib.Nat.{lt_of_le_of_lt, mul-le-mul}
use borrow.Author.Tests.{eq-eqb, ne_eqb, not-false, not-true}
use lib.Dec.{lit<}
use Rattle.algebra.specs.Refusals.{Test, number_of}
use Rattle.meaning.specs.Shape.{is_kind, is_depth_to}
use Rattle.meaning.specs.Answer.{test, input_test}
use Rattle.transform_block.specs.TransformBlock.{is_block_side, is_pair, no_line, has_low, is_readable, is_corner, is_low, handed_tests}
use Rattle.transform_block.proofs.check.field_refusal.Statement.{statement}
use Rattle.transform_block.proofs.check.field_refusal.Tie as tie

-- the tests from 3 on, from 30 on, from 5 on, from 20 on, by what it asks for, and from 31 on
abbrev low : tie.Start → List Test
low s = test (not (is_low s.args.block)) 31 ∷ input_test (s.args.block.width * s.args.block.height) s.args.numbers ∷ []

abbrev read : tie.Start → Bool → Bool → List Test
read s kept corner = test (not (kept && corner)) 20 ∷ low s

abbrev fifth : tie.Start → List Test
fifth s = test (not (is_depth_to 16 s.args.block.depth)) 5 ∷ read s (is_readable s.args.block) (is_corner s.args.block)

abbrev lines : tie.Start → List Test
lines s = test (no_line s.args.block.horizontal s.args.block.width || no_line s.args.block.vertical s.args.block.height) 30 ∷ fifth s

abbrev third : tie.Start → List Test
third s = test (not (is_kind s.args.block.horizontal)) 3 ∷ test (not (is_kind s.args.block.vertical)) 4 ∷ lines s

abbrev all : tie.Start → List Test
all s = handed_tests s.args.block s.args.numbers

-- what the tests said
side : (c : tie.After-is_side) → c.is_side.result ≡ is_block_side c.before.args.block.width
unfolding is_block_side
side c = c.is_side.ensures

pair : (c : tie.After-is_pair) → c.is_pair.result ≡ is_pair c.before.before.before.args.block
unfolding is_block_side
pair c = c.is_pair.ensures

corner : (c : tie.After-is_corner) → c.is_corner.result ≡ is_corner c.before.before.before.before.before.before.before.before.before.before.before.before.before.before.before.before.before.args.block
unfolding is_corner has_low
corner c = c.is_corner.ensures

is-side-requires : tie.Need-is_side-requires
is-side-requires c κs = search rules

returns : tie.Need-returns-then-not-is_side
returns c = rw (← side c.before, c.if-not-is_side.true)

is-pair-requires : tie.Need-is_pair-requires
is-pair-requires c κs = search rules

returns-2 : tie.Need-returns-then-not-is_pair
returns-2 c = rw (← pair c.before, ← side c.before.before.before, c.before.before.if-not-is_side.false, c.if-not-is_pair.true)

past2 : (c : tie.Else-not-is_pair) → let s = c.before.before.before.before in number_of (all s) ≡ number_of (third s)
past2 c = rw (← pair c.before, ← side c.before.before.before, c.before.before.if-not-is_side.false, c.if-not-is_pair.false)

is-kind-requires : tie.Need-is_kind-requires
is-kind-requires c κs = search rules

returns-3 : tie.Need-returns-then-not-is_kind
returns-3 c = sym (past2 c.before.before ∙ rw (← c.before.is_kind.ensures, c.if-not-is_kind.true))

is-kind-requires-2 : tie.Need-is_kind-requires-2
is-kind-requires-2 c κs = search rules

returns-4 : tie.Need-returns-then-not-is_kind-2
returns-4 c =
    sym (past2 c.before.before.before.before ∙ rw (← c.before.before.before.is_kind.ensures, c.before.before.if-not-is_kind.false, ← c.before.is_kind-2.ensures, c.if-not-is_kind-2.true))

past4 : (c : tie.Else-not-is_kind-2) → let s = c.before.before.before.before.before.before.before.before in number_of (all s) ≡ number_of (lines s)
past4 c =
    past2 c.before.before.before.before ∙ rw (← c.before.before.before.is_kind.ensures, c.before.before.if-not-is_kind.false, ← c.before.is_kind-2.ensures, c.if-not-is_kind-2.false)

no-line-requires : tie.Need-no_line-requires
no-line-requires c κs = search rules

returns-5 : tie.Need-returns-then-no_line
returns-5 c = sym (past4 c.before.before ∙ rw (← c.before.no_line.ensures, c.if-no_line.true))

no-line-requires-2 : tie.Need-no_line-requires-2
no-line-requires-2 c κs = search rules

returns-6 : tie.Need-returns-then-no_line-2
returns-6 c = sym (past4 c.before.before.before.before ∙ rw (← c.before.before.before.no_line.ensures, c.before.before.if-no_line.false, ← c.before.no_line-2.ensures, c.if-no_line-2.true))

past6 : (c : tie.Else-no_line-2) → let s = c.before.before.before.before.before.before.before.before.before.before.before.before in number_of (all s) ≡ number_of (fifth s)
past6 c = past4 c.before.before.before.before ∙ rw (← c.before.before.before.no_line.ensures, c.before.before.if-no_line.false, ← c.before.no_line-2.ensures, c.if-no_line-2.false)

is-depth-requires : tie.Need-is_depth-requires
is-depth-requires c κs = search rules

returns-7 : tie.Need-returns-then-not-is_depth
returns-7 c = sym (past6 c.before.before ∙ rw (← c.before.is_depth.ensures, c.if-not-is_depth.true))

past7 : (c : tie.Else-not-is_depth) → let s = c.before.before.before.before.before.before.before.before.before.before.before.before.before.before in number_of (all s) ≡ number_of (read s (is_readable s.args.block) (is_corner s.args.block))
past7 c = past6 c.before.before ∙ rw (← c.before.is_depth.ensures, c.if-not-is_depth.false)

reads-requires : tie.Need-reads-requires
reads-requires c κs = search rules

returns-8 : tie.Need-returns-then-not-reads
returns-8 c =
    let s = c.before.before.before.before.before.before.before.before.before.before.before.before.before.before.before.before in
    sym (past7 c.before.before ∙ ap (λ (r : Bool). number_of (read s r (is_corner s.args.block))) (sym c.before.reads.ensures ∙ c.if-not-reads.true))

past8 : (c : tie.Else-not-reads) → let s = c.before.before.before.before.before.before.before.before.before.before.before.before.before.before.before.before in number_of (all s) ≡ number_of (read s true (is_corner s.args.block))
past8 c =
    let s = c.before.before.before.before.before.before.before.before.before.before.before.before.before.before.before.before in
    past7 c.before.before ∙ ap (λ (r : Bool). number_of (read s r (is_corner s.args.block))) (sym c.before.reads.ensures ∙ c.if-not-reads.false)

is-corner-requires : tie.Need-is_corner-requires
is-corner-requires c κs = search rules

returns-9 : tie.Need-returns-then-not-is_corner
returns-9 c = sym (past8 c.before.before ∙ rw (← corner c.before, c.if-not-is_corner.true))

past9 : (c : tie.Else-not-is_corner) → let s = c.before.before.before.before.before.before.before.before.before.before.before.before.before.before.before.before.before.before in number_of (all s) ≡ number_of (low s)
past9 c = past8 c.before.before ∙ rw (← corner c.before, c.if-not-is_corner.false)

is-low-requires : tie.Need-is_low-requires
is-low-requires c κs = search rules

returns-10 : tie.Need-returns-then-not-is_low
returns-10 c = sym (past9 c.before.before ∙ rw (← c.before.is_low.ensures, c.if-not-is_low.true))

past10 : (c : tie.Else-not-is_low) → let s = c.before.before.before.before.before.before.before.before.before.before.before.before.before.before.before.before.before.before.before.before in number_of (all s) ≡ number_of (input_test (s.args.block.width * s.args.block.height) s.args.numbers ∷ [])
past10 c = past9 c.before.before ∙ rw (← c.before.is_low.ensures, c.if-not-is_low.false)

cast-elements : tie.Need-overflow_cast-elements
cast-elements c = search rules

cast-elements-2 : tie.Need-overflow_cast-elements-2
cast-elements-2 c = search rules

mul-elements : tie.Need-overflow_mul-elements
mul-elements c =
    let s = c.before.before.before.before.before.before.before.before.before.before.before.before.before.before.before.before.before.before.before.before.before.before in
    let w : s.args.block.width ≤ 4294967295 = search rules in
    let h : s.args.block.height ≤ 4294967295 = search rules in
    record { fits = lt_of_le_of_lt (mul-le-mul w h) (lit< tt) }

returns-11 : tie.Need-returns-then-numbers-elements
returns-11 c = sym (past10 c.before.before.before ∙ rw (ne_eqb _ _ c.if-numbers-elements.true))

returns-12 : tie.Need-returns
returns-12 c = sym (past10 c.before.before.before ∙ rw (eq-eqb _ _ c.if-numbers-elements.false))

pub field_refusal_spec : {M : Type 1} → statement M
field_refusal_spec =
    tie.close
    (tie.spec
    is-side-requires
    returns
    is-pair-requires
    returns-2
    is-kind-requires
    returns-3
    is-kind-requires-2
    returns-4
    no-line-requires
    returns-5
    no-line-requires-2
    returns-6
    is-depth-requires
    returns-7
    reads-requires
    returns-8
    is-corner-requires
    returns-9
    is-low-requires
    returns-10
    cast-elements
    cast-elements-2
    mul-elements
    returns-11
    returns-12)
