-- `weight` meets its contract: each size has its table. Assumes nothing.
use Rattle.std.proofs.Common.{rules, arith, ◌≡◌, refl, false, ◌∙◌}
use mir.Syntax.{w32}
use mir.ValLaws.{to_z-of_z}
use Rattle.meaning.proofs.Cases.{thirty_two}
use Rattle.stage_weights.proofs.Rooms.{all-32}
use Rattle.full_line.proofs.WholeLine.{weight_is}
use Rattle.full_line.proofs.weight.Goals as goal

pub stored-requires-in_default : goal.stored-requires-in_default
stored-requires-in_default c =
    let e : c.args.n ≡ 32 = thirty_two c.args.n c.requires.size (λ q. omega arith) (λ q. omega arith) (λ q. omega arith) in
    (weight_is e 16 refl c.args.kind (all-32 c.args.n c.args.kind false e c.put_1024.ensures.1) c.args.i c.args.j c.requires).0

pub returns-in_default : goal.returns-in_default
returns-in_default c =
    let e : c.args.n ≡ 32 = thirty_two c.args.n c.requires.size (λ q. omega arith) (λ q. omega arith) (λ q. omega arith) in
    to_z-of_z w32 c.stored-in_default.result (search rules) ∙ c.stored-in_default.ensures
    ∙ (weight_is e 16 refl c.args.kind (all-32 c.args.n c.args.kind false e c.put_1024.ensures.1) c.args.i c.args.j c.requires).1
