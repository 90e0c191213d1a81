-- `full` meets its contract: each size has its table. Assumes nothing.
use Rattle.std.proofs.Common.{arith, ◌≡◌, refl}
use Rattle.meaning.proofs.Cases.{thirty_two}
use Rattle.stage_weights.proofs.Rooms.{all-32}
use Rattle.full_line.proofs.WholeLine.{whole-given, whole-line}
use Rattle.full_line.proofs.full.Goals as goal

pub line-requires : goal.line-requires
line-requires c = (
  whole-given c.in-4.is 2 refl (omega arith) c.args.kind c.args.forward c.zipped_4.ensures c.args.x.now c.args.y.now c.requires,
  record { small = omega arith; short = omega arith },
)

pub line-requires-in-8 : goal.line-requires-in-8
line-requires-in-8 c = (
  whole-given c.in-8.is 4 refl (omega arith) c.args.kind c.args.forward c.zipped_8.ensures c.args.x.now c.args.y.now c.requires,
  record { small = omega arith; short = omega arith },
)

pub line-requires-in-16 : goal.line-requires-in-16
line-requires-in-16 c = (
  whole-given c.in-16.is 8 refl (omega arith) c.args.kind c.args.forward c.zipped_16.ensures c.args.x.now c.args.y.now c.requires,
  record { small = omega arith; short = omega arith },
)

pub line-requires-in_default : goal.line-requires-in_default
line-requires-in_default c =
    let e : c.args.n ≡ 32 = thirty_two c.args.n c.requires.size (λ q. omega arith) (λ q. omega arith) (λ q. omega arith) in (
      whole-given e 16 refl (omega arith) c.args.kind c.args.forward (all-32 c.args.n c.args.kind c.args.forward e c.put_1024.ensures.1) c.args.x.now c.args.y.now c.requires,
      record { small = omega arith; short = omega arith },
    )

pub returns-in-4 : goal.returns-in-4
returns-in-4 c = whole-line c.in-4.is 2 refl (omega arith) c.args.kind c.args.forward c.zipped_4.ensures c.args.x.now c.args.y.now c.requires _ c.line.ensures

pub returns-in-8 : goal.returns-in-8
returns-in-8 c = whole-line c.in-8.is 4 refl (omega arith) c.args.kind c.args.forward c.zipped_8.ensures c.args.x.now c.args.y.now c.requires _ c.line-in-8.ensures

pub returns-in-16 : goal.returns-in-16
returns-in-16 c = whole-line c.in-16.is 8 refl (omega arith) c.args.kind c.args.forward c.zipped_16.ensures c.args.x.now c.args.y.now c.requires _ c.line-in-16.ensures

pub returns-in_default : goal.returns-in_default
returns-in_default c =
    let e : c.args.n ≡ 32 = thirty_two c.args.n c.requires.size (λ q. omega arith) (λ q. omega arith) (λ q. omega arith) in
    whole-line e 16 refl (omega arith) c.args.kind c.args.forward (all-32 c.args.n c.args.kind c.args.forward e c.put_1024.ensures.1) c.args.x.now c.args.y.now c.requires _
    c.line-in_default.ensures
