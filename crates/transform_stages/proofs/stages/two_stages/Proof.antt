-- `two_stages` meets its contract: middle values at the front of the numbers, then residuals over them. Assumes nothing.
use borrow.Author.Rules.{rules}
use native.Mathlib.Omega.{arith}
use mathlib.Core.Path.{◌≡◌, sym, ◌∙◌}
use mathlib.Core.List.{List}
use Prim.Native.Nat.{◌*◌, ◌≤◌}
use native.Mathlib.Nat.{mul_comm, mul-le-mul, mul-le-mul_right, le_refl}
use lib.ListN.{length}
use lib.IntN.{ℤ}
use Rattle.algebra.proofs.Lists.{Rows, rows-room}
use Rattle.transform_stages.specs.Work.{worked, GivenTwo}
use Rattle.transform_stages.proofs.Copying.{read_none}
use Rattle.transform_stages.proofs.Whole.{wide, columns-given, rails-read, rows-given, block_read}
use Rattle.transform_stages.proofs.stages.two_stages.Statement.{statement}
use Rattle.transform_stages.proofs.stages.two_stages.Tie as tie

given : (s : tie.Start) → let a = s.args in GivenTwo (worked a.width a.height a.horizontal a.vertical a.columns a.rows a.reach a.last) a.reach a.numbers.now
given s = s.requires.0

-- middle values have room at the front of the numbers
room : (s : tie.Start) → let a = s.args in a.height * a.columns ≤ length a.numbers.now
room s =
    let a = s.args in
    let g = given s in
    omega (arith, g.long, mul_comm a.width a.height, mul-le-mul (le_refl a.height) g.sized.columns)

read-requires : tie.Need-read-requires
read-requires c κs =
    let s = c.before in
    let a = s.args in
    let g = given s in (
      record {
        narrow = g.columns;
        low = g.rows;
        within = g.sized.columns;
        few = wide a.width a.height a.horizontal a.vertical a.columns a.rows a.reach a.last a.numbers.now g;
        there = omega (arith, g.long, mul_comm a.width a.height, mul-le-mul_right a.width g.sized.rows);
      },
      read_none _ _ _,
    )

weights-requires : tie.Need-weights-requires
weights-requires c κs = let s = c.before.before.before.before in ((given s).sized.down, s.requires.1)

slice-aggregate-middles : tie.Need-slice_bounds-middles-end-2
slice-aggregate-middles c = sym c.before.before.before.before.before.before.read.ensures.long

add-middles : tie.Need-overflow_add-k
add-middles c = search rules

abbrev start : tie.After-weights → tie.Start
start c = c.before.before.before.before.before

middles-requires : tie.Need-middles-rails-requires
middles-requires c κs =
    let W = c.before.before.before.before in
    let s = start W in
    let a = s.args in (
      columns-given a.width a.height a.horizontal a.vertical a.columns a.rows a.reach a.last a.numbers.now (given s) _ _ W.before.before.before.read.ensures W.weights.ensures.1.1,
      room s,
    )

-- what the first stage has left
abbrev laid : tie.After-middles-rails → tie.After-weights
laid c = c.before.before.before.before.before

abbrev between : tie.After-middles-rails → List ℤ
between c = c.middles-rails.new.m

between-long : (c : tie.After-middles-rails) → let a = (start (laid c)).args in length (between c) ≡ a.width * a.height
between-long c =
    let s = start (laid c) in
    let made : Rows s.args.columns s.args.height _ (between c) s.args.numbers.now = record { are = c.middles-rails.ensures.0 } in
    rows-room made (le_refl s.args.height) (room s) ∙ (given s).long

weights-requires-2 : tie.Need-weights-requires-2
weights-requires-2 c κs = let W = laid c.before.before.before in ((given (start W)).sized.along, (W.weights.ensures.0, W.weights.ensures.1.0))

add-upward : tie.Need-overflow_add-n
add-upward c = search rules

upward-requires : tie.Need-upward-requires
upward-requires c κs =
    let U = c.before.before.before in
    let M = U.before.before.before.before in
    let W = laid M in
    let s = start W in
    let a = s.args in
    rows-given a.width a.height a.horizontal a.vertical a.columns a.rows a.reach a.last a.numbers.now (given s) _ _ W.before.before.before.read.ensures W.weights.ensures.1.1
    (between M) _ _ M.middles-rails.ensures.0 (between-long M) U.weights-2.ensures.1.1

same_length : tie.Need-shape_of-numbers
same_length c = search rules

returns : tie.Need-returns
returns c =
    let U = c.before.before.before.before.before in
    let M = U.before.before.before.before in
    let W = laid M in
    let s = start W in
    let a = s.args in (
      M.middles-rails.ensures.1
          ∙ rails-read a.width a.height a.horizontal a.vertical a.columns a.rows a.reach a.last a.numbers.now (given s) _ _ W.before.before.before.read.ensures W.weights.ensures.1.1,
      c.before.upward.ensures
          ∙ block_read a.width a.height a.horizontal a.vertical a.columns a.rows a.reach a.last a.numbers.now (given s) _ _ W.before.before.before.read.ensures W.weights.ensures.1.1
          (between M) _ _ M.middles-rails.ensures.0 (between-long M) U.weights-2.ensures.1.1,
    )

pub two_stages_spec : {M : Type 1} → statement M
two_stages_spec =
    tie.close
    (tie.spec
    read-requires
    weights-requires
    slice-aggregate-middles
    add-middles
    middles-requires
    weights-requires-2
    add-upward
    upward-requires
    same_length
    returns)
