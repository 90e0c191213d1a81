-- A turn of the run. Assumes nothing.
use Rattle.std.proofs.Common.{◌≡◌, ℕ, Option, refl, sym, ap, ◌∙◌, arith, length, is_some, unwrap_or}
use Rattle.file_fields.specs.declared.cursor.Cursor.{Cursor}
use Rattle.file_run.specs.Run.{printed_from, refusal_from, printed, refusal}
use Rattle.file_run.proofs.Loop.{printed-more, refusal-more, printed-last, refusal-last, beyond, finish}
use Rattle.file_run.proofs.run.run.Goals as goal

pub turns-init : goal.turns-init
unfolding printed refusal
turns-init c =
    let file = c.args.file.now in
    let e = c.new-cursor.ensures in
    record {
      text = ap (λ (k : Cursor). printed_from (length file) file k) e;
      number = ap (λ (k : Cursor). refusal_from (length file) file k) e;
      beyond = refl;
      room = omega arith;
      inside = omega (arith, ap (λ (k : Cursor). k.at) e);
    }

pub turns-preserved : goal.turns-preserved
turns-preserved c =
    let file = c.args.file.now in
    let k = c.turns.cursor in
    let i = c.turns.invariant in
    let does = c.turn-done.ensures.0 in
    let on = ap (λ (x : Option ℕ). is_some x) c.in_default.is in
    let f = c.turn-done.ensures.1 on in
    record {
      text = printed-more file k does on i.text;
      number = refusal-more file k does on i.number;
      beyond = beyond _ does.wrote i.beyond;
      room = omega (arith, i.room, f.2);
      inside = f.1;
    }

pub returns-in-Some : goal.returns-in-Some
returns-in-Some c =
    let file = c.args.file.now in
    let k = c.turns.cursor in
    let i = c.turns.invariant in
    let does = c.turn-done.ensures.0 in
    let last = ap (λ (x : Option ℕ). is_some x) c.in-Some.is in
    let said = ap (λ (x : Option ℕ). unwrap_or x 0) (sym c.in-Some.is) ∙ refusal-last file k does last i.number in
    finish file _ c.args.text.now _ _ (omega (arith, does.wrote.room, i.room, i.inside)) (printed-last file k does last i.text) (beyond _ does.wrote i.beyond) said
