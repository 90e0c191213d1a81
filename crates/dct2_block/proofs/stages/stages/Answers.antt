use Rattle.std.proofs.Common.{arith, ◌∙◌}
use Prim.Native.Nat.{min}
use Rattle.meaning.proofs.Cases.{size_in}
use Rattle.kernel_picks.proofs.Cases.{few-live}
use Rattle.dct2_block.proofs.Fitting.{asked-whole, asked-fits, used-block}
use Rattle.dct2_block.proofs.stages.stages.Goals as goal

pub whole_of-whole-requires : goal.whole_of-whole-requires
whole_of-whole-requires c = (c.requires.narrow, omega (arith, size_in c.args.w c.requires.width))

pub overflow_add-size : goal.overflow_add-size
overflow_add-size c = omega (arith, few-live (min c.args.h 8) c.args.w c.args.wide c.requires.along, size_in c.args.w c.requires.width)

pub in_room-requires : goal.in_room-requires
in_room-requires c = (omega arith, asked-fits c.requires 64 _ c.whole_of-whole.ensures (omega (arith, c.if-size-le8.true)))

pub returns-then-size-le8 : goal.returns-then-size-le8
returns-then-size-le8 c =
    let e = c.whole_of-whole.ensures in
    (c.in_room.ensures.0 ∙ used-block c.requires _ e, λ f x y h k. c.in_room.ensures.1 f x y (omega (arith, (asked-whole c.requires).0, e)) k)

pub in_room-requires-then-size-le32 : goal.in_room-requires-then-size-le32
in_room-requires-then-size-le32 c = (omega arith, asked-fits c.requires 256 _ c.whole_of-whole.ensures (omega (arith, c.if-size-le32.true)))

pub returns-then-size-le32 : goal.returns-then-size-le32
returns-then-size-le32 c =
    let e = c.whole_of-whole.ensures in
    (c.in_room-then-size-le32.ensures.0 ∙ used-block c.requires _ e, λ f x y h k. c.in_room-then-size-le32.ensures.1 f x y (omega (arith, (asked-whole c.requires).0, e)) k)

pub in_room-requires-2 : goal.in_room-requires-2
in_room-requires-2 c = (omega arith, asked-fits c.requires 1024 _ c.whole_of-whole.ensures (omega (arith, c.requires.room)))

pub returns : goal.returns
returns c =
    let e = c.whole_of-whole.ensures in
    (c.in_room-2.ensures.0 ∙ used-block c.requires _ e, λ f x y h k. c.in_room-2.ensures.1 f x y (omega (arith, (asked-whole c.requires).0, e)) k)
