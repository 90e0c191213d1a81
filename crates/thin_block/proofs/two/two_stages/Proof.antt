-- `two_stages` meets its contract: middle values a row apart, then residuals from them. Assumes nothing.
use borrow.Author.Rules.{rules}
use native.Mathlib.Omega.{arith}
use mathlib.Core.Path.{refl, sym, ap, ◌∙◌}
use native.Mathlib.Nat.{mul_comm}
use lib.ListN.{length}
use Rattle.meaning.proofs.Cases.{depth-cases}
use Rattle.thin_block.proofs.Stages.{down-given, rails-are, middles-are, along-given, block-are}
use Rattle.thin_block.proofs.two.two_stages.Statement.{statement}
use Rattle.thin_block.proofs.two.two_stages.Tie as tie

cast-w : tie.Need-overflow_cast-w
cast-w c = search rules

cast-h : tie.Need-overflow_cast-h
cast-h c = search rules

reach-of-requires : tie.Need-reach_of-reach-requires
reach-of-requires c κs = search rules

last-shift-requires : tie.Need-last_shift-last-requires
last-shift-requires c κs = let s = c.before.before.before in omega (arith, depth-cases s.args.shape.depth s.requires.block.taken.depth)

widen-requires : tie.Need-widen-requires
widen-requires c κs = let s = c.before.before.before.before.before in s.requires.block.long ∙ sym s.requires.block.room

put-1024-requires : tie.Need-put_1024-requires
put-1024-requires c κs = (c.before.before.before.before.before.before.before.before.requires.block.taken.height, refl)

slice-aggregate-middles : tie.Need-slice_bounds-middles-end
slice-aggregate-middles c = sym c.before.put_1024.ensures.0

-- what came before the first stage
abbrev widened : tie.After-put_1024 → tie.After-widen
widened c = c.before.before.before

abbrev shifted : tie.After-put_1024 → tie.After-last_shift-last
shifted c = (widened c).before.before

abbrev start : tie.After-put_1024 → tie.Start
start c = (shifted c).before.before.before.before

middles-requires : tie.Need-middles-rails-requires
middles-requires c κs =
    let D = c.before.before in
    let s = start D in
    let sh = s.args.shape in
    (down-given s.requires (widened D).widen.ensures.0 (shifted D).before.reach_of-reach.ensures D.put_1024.ensures.1, omega (arith, s.requires.room, mul_comm sh.width sh.height))

-- and before the second
abbrev first : tie.After-put_1024-2 → tie.After-put_1024
first c = c.before.before.before.before.before.before

put-1024-requires-2 : tie.Need-put_1024-requires-2
put-1024-requires-2 c κs = let D = c.before.before.before.before.before in ((start D).requires.block.taken.width, D.put_1024.ensures.0)

slice-aggregate-residuals : tie.Need-slice_bounds-residuals-end
slice-aggregate-residuals c = sym c.before.put_1024-2.ensures.0

residuals-requires : tie.Need-residuals-requires
residuals-requires c κs =
    let A = c.before.before in
    let D = first A in
    let s = start D in
    let sh = s.args.shape in
    let same = (widened D).widen.ensures.0 in (
      along-given s.requires same (shifted D).before.reach_of-reach.ensures D.put_1024.ensures.1 A.middles-rails.ensures.0 (shifted D).last_shift-last.ensures A.put_1024-2.ensures.1,
      ap length same ∙ s.requires.block.long ∙ mul_comm sh.width sh.height,
    )

same_length : tie.Need-shape_of-first
same_length c = search rules

same-length-2 : tie.Need-shape_of-second
same-length-2 c = search rules

returns : tie.Need-returns
returns c =
    let A = c.before.before.before.before in
    let M = A.before.before.before in
    let D = first A in
    let s = start D in
    let same = (widened D).widen.ensures.0 in
    let far = (shifted D).before.reach_of-reach.ensures in
    let stored = D.put_1024.ensures.1 in
    let made = M.middles-rails.ensures.0 in (
      M.middles-rails.ensures.1 ∙ rails-are s.requires same far stored,
      (middles-are s.requires same far stored made, c.before.residuals.ensures ∙ block-are s.requires same far stored made (shifted D).last_shift-last.ensures A.put_1024-2.ensures.1),
    )

pub two_stages_spec : {M : Type 1} → statement M
two_stages_spec =
    tie.close
    (tie.spec
    cast-w
    cast-h
    reach-of-requires
    last-shift-requires
    widen-requires
    put-1024-requires
    slice-aggregate-middles
    middles-requires
    put-1024-requires-2
    slice-aggregate-residuals
    residuals-requires
    same_length
    same-length-2
    returns)
