-- `inverse::inverse` meets its contract: each size has its line. Assumes nothing.
use Rattle.std.proofs.Common.{arith, ◌≡◌, ◌∙◌}
use Rattle.meaning.proofs.Cases.{thirty_two}
use Rattle.dct2_line.proofs.InverseStep.{whole-inputs, whole-line}
use Rattle.dct2_line.proofs.inverse.inverse.Goals as goal

pub inverse_4-requires : goal.inverse_4-requires
inverse_4-requires c = whole-inputs c.args.x.now c.args.y.now 4 c.in-4.is c.requires c.read.ensures

pub returns-in-4 : goal.returns-in-4
returns-in-4 c = c.inverse_4.ensures ∙ whole-line 4 c.in-4.is c.args.x.now

pub inverse_8-requires : goal.inverse_8-requires
inverse_8-requires c = whole-inputs c.args.x.now c.args.y.now 8 c.in-8.is c.requires c.read.ensures

pub returns-in-8 : goal.returns-in-8
returns-in-8 c = c.inverse_8.ensures ∙ whole-line 8 c.in-8.is c.args.x.now

pub inverse_16-requires : goal.inverse_16-requires
inverse_16-requires c = whole-inputs c.args.x.now c.args.y.now 16 c.in-16.is c.requires c.read.ensures

pub returns-in-16 : goal.returns-in-16
returns-in-16 c = c.inverse_16.ensures ∙ whole-line 16 c.in-16.is c.args.x.now

pub slice_bounds-o-end : goal.slice_bounds-o-end
slice_bounds-o-end c =
    let e : c.args.n ≡ 32 = thirty_two c.args.n c.requires.size (λ q. omega arith) (λ q. omega arith) (λ q. omega arith) in
    omega (arith, e)

pub inverse_32-requires : goal.inverse_32-requires
inverse_32-requires c =
    let e : c.args.n ≡ 32 = thirty_two c.args.n c.requires.size (λ q. omega arith) (λ q. omega arith) (λ q. omega arith) in
    let w = whole-inputs c.args.x.now c.args.y.now 32 e c.requires c.read.ensures in
    (w.0, (w.1, omega (arith, e)))

pub returns-in_default : goal.returns-in_default
returns-in_default c =
    let e : c.args.n ≡ 32 = thirty_two c.args.n c.requires.size (λ q. omega arith) (λ q. omega arith) (λ q. omega arith) in
    c.inverse_32.ensures ∙ whole-line 32 e c.args.x.now
