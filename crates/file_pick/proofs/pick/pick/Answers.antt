-- One field, and then the rest. Assumes nothing.
use Rattle.std.proofs.Common.{◌≡◌, sym, ap, ◌∙◌, arith, length}
use Rattle.file_fields.specs.declared.cursor.Cursor.{Cursor}
use Rattle.file_fields.specs.declared.cursor.Advance.{Advance}
use Rattle.file_fields.specs.Cursor.{advance_of}
use Rattle.file_pick.specs.Pick.{passes, left, walk, picked}
use Rattle.file_pick.proofs.Fuel.{moves, one_field}
use Rattle.file_pick.proofs.pick.pick.Goals as goal

pub fields-init : goal.fields-init
unfolding picked
fields-init c = ap (λ (k : Cursor). walk (length c.args.file.now) c.args.file.now c.args.n k) c.new-cursor.ensures

pub fields-preserved : goal.fields-preserved
fields-preserved c =
    let file = c.args.file.now in
    let n = c.fields.left_over in
    let k = c.fields.cursor in
    let a = c.advance-advance in
    let p = ap (λ (x : Advance). passes x.tag n) (sym a.ensures) ∙ sym c.passes.ensures ∙ c.if-not-passes.false in
    let on = rw p at (one_field file n k) in
    let fewer = c.left-left_over.ensures ∙ ap (λ (x : Advance). left x.tag n) a.ensures in
    let same : walk (length file) file c.left-left_over.result a.result.next ≡ walk (length file) file (left (advance_of file k).tag n) (advance_of file k).next = (λ i. walk (length file) file (fewer i) (a.ensures i).next) in
    same ∙ sym on ∙ c.fields.invariant

pub fields-smaller : goal.fields-smaller
fields-smaller c =
    let n = c.fields.left_over in
    let a = c.advance-advance in
    let p = ap (λ (x : Advance). passes x.tag n) (sym a.ensures) ∙ sym c.passes.ensures ∙ c.if-not-passes.false in
    let m = moves c.args.file.now c.fields.cursor n p in
    omega (arith, m.0, m.1, ap (λ (x : Advance). x.next.at) a.ensures)

pub returns-then-not-passes : goal.returns-then-not-passes
returns-then-not-passes c =
    let n = c.fields.left_over in
    let p = ap (λ (x : Advance). passes x.tag n) (sym c.advance-advance.ensures) ∙ sym c.passes.ensures ∙ c.if-not-passes.true in
    sym (rw p at (one_field c.args.file.now n c.fields.cursor)) ∙ c.fields.invariant
