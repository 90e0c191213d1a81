-- `stages::stage` meets its contract: at each size the number of pairs is half of it. Assumes nothing.
use borrow.Author.Rules.{rules}
use mathlib.Core.Path.{◌≡◌, sym, subst}
use mathlib.Core.List.{List}
use Prim.Native.Nat.{ℕ, ◌/◌}
use lib.ListN.{length}
use lib.IntN.{ℤ}
use Rattle.meaning.proofs.Cases.{thirty_two}
use Rattle.forward_block.specs.Stage.{line_value, PutLines, Stage}
use Rattle.forward_block.proofs.stages.stage.Statement.{statement}
use Rattle.forward_block.proofs.stages.stage.Tie as tie

-- at a size of n
given : (s : tie.Start) (n : ℕ) → s.args.n ≡ n → let a = s.args in PutLines (n / 2) a.a.now a.step a.gap a.b.now a.apart a.kept a.some a.wide a.shift (length a.out.now)
given s n e =
    let a = s.args in
    subst (λ (n : ℕ). PutLines (n / 2) a.a.now a.step a.gap a.b.now a.apart a.kept a.some a.wide a.shift (length a.out.now)) e s.requires.1

done : (s : tie.Start) (n : ℕ) {out : List ℤ} → s.args.n ≡ n
    → let a = s.args in Stage a.kept a.wide a.some (line_value (n / 2) a.a.now a.step a.gap a.b.now a.apart a.shift) out a.out.now
    → Stage a.kept a.wide a.some (line_value (a.n / 2) a.a.now a.step a.gap a.b.now a.apart a.shift) out a.out.now
done s n {out} e =
    let a = s.args in
    subst (λ (n : ℕ). Stage a.kept a.wide a.some (line_value (n / 2) a.a.now a.step a.gap a.b.now a.apart a.shift) out a.out.now) (sym e)

last : (c : tie.Else-n-eq16) → c.before.before.before.args.n ≡ 32
last c = let s = c.before.before.before in thirty_two s.args.n s.requires.0 c.before.before.if-n-eq4.false c.before.if-n-eq8.false c.if-n-eq16.false

put-lines-requires : tie.Need-put_lines-requires
put-lines-requires c κs = given c.before.before 4 c.before.if-n-eq4.true

put-lines-requires-2 : tie.Need-put_lines-requires-then-n-eq8
put-lines-requires-2 c κs = given c.before.before.before 8 c.before.if-n-eq8.true

put-lines-requires-3 : tie.Need-put_lines-requires-then-n-eq16
put-lines-requires-3 c κs = given c.before.before.before.before 16 c.before.if-n-eq16.true

put-lines-requires-4 : tie.Need-put_lines-requires-else-n-eq16
put-lines-requires-4 c κs = given c.before.before.before.before 32 (last c.before)

same_length : tie.Need-shape_of-out-then-n-eq4
same_length c = search rules

returns : tie.Need-returns-then-n-eq4
returns c = done c.before.before.before.before 4 c.before.before.before.if-n-eq4.true c.before.put_lines.ensures

same-length-2 : tie.Need-shape_of-out-then-n-eq8
same-length-2 c = search rules

returns-2 : tie.Need-returns-then-n-eq8
returns-2 c = done c.before.before.before.before.before 8 c.before.before.before.if-n-eq8.true c.before.put_lines-then-n-eq8.ensures

same-length-3 : tie.Need-shape_of-out-then-n-eq16
same-length-3 c = search rules

returns-3 : tie.Need-returns-then-n-eq16
returns-3 c = done c.before.before.before.before.before.before 16 c.before.before.before.if-n-eq16.true c.before.put_lines-then-n-eq16.ensures

same-length-4 : tie.Need-shape_of-out-else-n-eq16
same-length-4 c = search rules

returns-4 : tie.Need-returns-else-n-eq16
returns-4 c = done c.before.before.before.before.before.before 32 (last c.before.before.before) c.before.put_lines-else-n-eq16.ensures

pub stage_spec : {M : Type 1} → statement M
stage_spec =
    tie.close
    (tie.spec
    put-lines-requires
    put-lines-requires-2
    put-lines-requires-3
    put-lines-requires-4
    same_length
    returns
    same-length-2
    returns-2
    same-length-3
    returns-3
    same-length-4
    returns-4)
