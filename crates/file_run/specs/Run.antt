-- Document 01, "The block file and its program": what a file prints, field by field, and the number of the refusal that ends it.
use Rattle.std.specs.Prelude.{Bool, true, false, cond, not, List, [], ◌++◌, ℕ, zero, suc, ◌*◌, eqb, ℤ, pos, length}
use Rattle.algebra.specs.Lists.{tabulate, over}
use Rattle.meaning.specs.declared.Shape.{Shape}
use Rattle.meaning.specs.declared.Answer.{Answer}
use Rattle.meaning.specs.Inverse.{inverse_outcome}
use Rattle.meaning.specs.Forward.{forward_outcome}
use Rattle.file_fields.specs.declared.cursor.Cursor.{Cursor}
use Rattle.file_fields.specs.Cursor.{file_start, advance_of, bytes_of}
use Rattle.file_numbers.specs.Numbers.{numbers}
use Rattle.file_text.specs.Text.{inverse_text, forward_text, refusal_text}
use Rattle.file_run.specs.declared.run.RunDone.{RunDone}

-- what a field prints, whether the run ends with it, the number of its refusal or 0, and the cursor behind it
pub record Turn : Type 0 where
  pub text : List ℕ
  pub ends : Bool
  pub number : ℕ
  pub next : Cursor

-- what the output of a block holds before it is run: w*h numbers
abbrev pub blank : Shape → List ℤ
blank shape = tabulate (shape.width * shape.height) (λ k. pos 0)

-- "The first refusal ends the run": "R number offset"
abbrev pub refused_turn : ℕ → ℕ → Cursor → Turn
refused_turn number offset next = record { text = refusal_text number offset; ends = true; number = number; next = next }

-- a block that was run, and its line: 8 or 9 refuses it
abbrev pub block_turn : Answer → List ℕ → ℕ → Cursor → Turn
block_turn answer text offset next =
    cond (eqb answer.number 0) (record { text = text; ends = false; number = 0; next = next }) (refused_turn answer.number offset next)

-- "Tag 02: coefficients, 2 bytes each: run the inverse"
abbrev pub inverse_turn : Shape → List ℤ → ℕ → Cursor → Turn
inverse_turn shape coefficients offset next =
    let outcome = inverse_outcome shape coefficients (blank shape) in
    block_turn outcome.0 (inverse_text shape.width shape.height outcome.0.rails outcome.1) offset next

-- "Tag 03: residuals, 2 bytes each: run the forward"
abbrev pub forward_turn : Shape → List ℤ → ℕ → Cursor → Turn
forward_turn shape residuals offset next =
    let outcome = forward_outcome shape residuals (blank shape) in
    block_turn outcome.0 (forward_text shape.width shape.height outcome.1) offset next

-- by the number and the tag: a refusal, a block, or a shape or its kept part, for which nothing is printed, or the end, where the
-- tag is 0. "the offset being that of the field's tag": the cursor's place, "(0 for 14)": 14 is met at the start
unfoldable pub turn_at : List ℕ → Cursor → Turn
turn_at file cursor =
    let advance = advance_of file cursor in
    cond (not (eqb advance.number 0)) (refused_turn advance.number cursor.at advance.next)
    (cond (eqb advance.tag 2) (inverse_turn cursor.shape (numbers (bytes_of file cursor)) cursor.at advance.next)
    (cond (eqb advance.tag 3) (forward_turn cursor.shape (numbers (bytes_of file cursor)) cursor.at advance.next)
    (record { text = []; ends = eqb advance.tag 0; number = 0; next = advance.next })))

-- at most k fields from a cursor on: "lines printed before it stand"
unfoldable pub printed_from : ℕ → List ℕ → Cursor → List ℕ
printed_from zero file cursor = []
printed_from (suc k) file cursor =
    let turn = turn_at file cursor in
    turn.text ++ cond turn.ends [] (printed_from k file turn.next)

-- "The first refusal ends the run": its number, and 0 where none does
unfoldable pub refusal_from : ℕ → List ℕ → Cursor → ℕ
refusal_from zero file cursor = 0
refusal_from (suc k) file cursor =
    let turn = turn_at file cursor in
    cond turn.ends turn.number (refusal_from k file turn.next)

-- a file has no more fields than bytes (proofs/Fuel: any larger number gives the same). "An empty file prints nothing"
unfoldable pub printed : List ℕ → List ℕ
printed file = printed_from (length file) file file_start

unfoldable pub refusal : List ℕ → ℕ
refusal file = refusal_from (length file) file file_start

-- what the run hands back, and what its buffer holds then: "lines printed" and, behind them, what it held
abbrev pub run_outcome : List ℕ → List ℕ → RunDone × List ℕ
run_outcome file text = (record { length = length (printed file); number = refusal file }, over (printed file) text)
