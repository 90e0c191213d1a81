use Rattle.std.proofs.Common.{◌≡◌, ◌∙◌}
use borrow.Author.Tests.{lt-ltb, le-ltb}
use Rattle.block_row.specs.Numbers.{shapes_of}
use Rattle.block_row.specs.Row.{spans}
use Rattle.block_row.proofs.Listed.{shapes-length}
use Rattle.block_row.proofs.row.row_refusal.Goals as goal

pub returns-then-count-gt64 : goal.returns-then-count-gt64
returns-then-count-gt64 c =
    rw (shapes-length c.args.count c.args.shapes.now, lt-ltb 64 c.args.count c.if-count-gt64.true)

pub returns : goal.returns
returns c =
    let s = c.args in
    let summed : c.total-sum.result ≡ spans (shapes_of s.count s.shapes.now) = c.total-sum.ensures in
    c.length_refusal.ensures ∙ rw (shapes-length s.count s.shapes.now, le-ltb 64 s.count c.if-count-gt64.false, ← summed)
