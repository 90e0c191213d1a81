use Rattle.std.proofs.Common.{arith, ◌≡◌, sym, ◌∙◌, true, length}
use lib.ListN.{drop_of_length-le}
use Rattle.picture_header.specs.Header.{read_from, is_p5, header_of}
use Rattle.picture_header.proofs.Tests.{two_bytes}
use Rattle.picture_header.proofs.Reading.{read_more, read-ended}
use Rattle.picture_header.proofs.header_of.Goals as goal

pub returns-then-not-is_p5 : goal.returns-then-not-is_p5
unfolding header_of
returns-then-not-is_p5 c = rw (sym c.is_p5.ensures ∙ c.if-not-is_p5.true, c.no_header-header.ensures)

pub loop-start-init : goal.loop-start-init
loop-start-init c = rw c.behind_p5-header.ensures

pub with_byte-header-requires : goal.with_byte-header-requires
with_byte-header-requires c = sym c.ended.ensures ∙ c.if-ended.false

pub loop-start-preserved : goal.loop-start-preserved
loop-start-preserved c =
    let l = c.loop-start in
    rw (c.with_byte-header.ensures, ← read_more c.args.file.now l.header l.start (omega arith) (sym c.ended.ensures ∙ c.if-ended.false)) l.invariant

pub returns-then-ended : goal.returns-then-ended
unfolding header_of
returns-then-ended c =
    let l = c.loop-start in
    rw (sym c.is_p5.ensures ∙ c.if-not-is_p5.false, ← l.invariant, read-ended l.header l.start _ (sym c.ended.ensures ∙ c.if-ended.true))

pub returns : goal.returns
unfolding header_of read_from
returns c =
    let file = c.args.file.now in
    let l = c.loop-start in
    let starts : is_p5 file ≡ true = sym c.is_p5.ensures ∙ c.if-not-is_p5.false in
    let last : l.start ≡ length file = omega (arith, two_bytes file starts, l.auto.start-end, c.loop-start-test.false) in
    rw (starts, ← l.invariant, last, drop_of_length-le file {i = length file} (omega arith))
