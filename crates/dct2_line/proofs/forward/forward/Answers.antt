-- `forward::forward` meets its contract: each size has its line. Assumes nothing.
use Rattle.std.proofs.Common.{arith, ◌≡◌, ◌∙◌}
use Rattle.meaning.proofs.Cases.{thirty_two}
use Rattle.dct2_line.proofs.ForwardStep.{whole-small, whole-line}
use Rattle.dct2_line.proofs.forward.forward.Goals as goal

pub widen-requires : goal.widen-requires
widen-requires c = c.requires.long ∙ c.in-4.is

pub forward_4-requires : goal.forward_4-requires
forward_4-requires c = (whole-small c.args.x.now 4 (omega arith) (omega arith) c.widen.ensures.1 _ c.widen.ensures.0, c.requires.room ∙ c.in-4.is)

pub returns-in-4 : goal.returns-in-4
returns-in-4 c = c.forward_4.ensures ∙ whole-line 4 c.in-4.is c.args.x.now _ c.widen.ensures.0

pub widen-requires-in-8 : goal.widen-requires-in-8
widen-requires-in-8 c = c.requires.long ∙ c.in-8.is

pub forward_8-requires : goal.forward_8-requires
forward_8-requires c = (whole-small c.args.x.now 8 (omega arith) (omega arith) c.widen-in-8.ensures.1 _ c.widen-in-8.ensures.0, c.requires.room ∙ c.in-8.is)

pub returns-in-8 : goal.returns-in-8
returns-in-8 c = c.forward_8.ensures ∙ whole-line 8 c.in-8.is c.args.x.now _ c.widen-in-8.ensures.0

pub widen-requires-in-16 : goal.widen-requires-in-16
widen-requires-in-16 c = c.requires.long ∙ c.in-16.is

pub forward_16-requires : goal.forward_16-requires
forward_16-requires c = (whole-small c.args.x.now 16 (omega arith) (omega arith) c.widen-in-16.ensures.1 _ c.widen-in-16.ensures.0, c.requires.room ∙ c.in-16.is)

pub returns-in-16 : goal.returns-in-16
returns-in-16 c = c.forward_16.ensures ∙ whole-line 16 c.in-16.is c.args.x.now _ c.widen-in-16.ensures.0

pub widen-requires-in_default : goal.widen-requires-in_default
widen-requires-in_default c =
    let e : c.args.n ≡ 32 = thirty_two c.args.n c.requires.size (λ q. omega arith) (λ q. omega arith) (λ q. omega arith) in
    c.requires.long ∙ e

pub forward_32-requires : goal.forward_32-requires
forward_32-requires c =
    let e : c.args.n ≡ 32 = thirty_two c.args.n c.requires.size (λ q. omega arith) (λ q. omega arith) (λ q. omega arith) in
    (whole-small c.args.x.now 32 (omega arith) (omega arith) c.widen-in_default.ensures.1 _ c.widen-in_default.ensures.0, c.requires.room ∙ e)

pub returns-in_default : goal.returns-in_default
returns-in_default c =
    let e : c.args.n ≡ 32 = thirty_two c.args.n c.requires.size (λ q. omega arith) (λ q. omega arith) (λ q. omega arith) in
    c.forward_32.ensures ∙ whole-line 32 e c.args.x.now _ c.widen-in_default.ensures.0
