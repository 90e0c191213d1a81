-- What was printed and what is still to print make up what the file prints. Seven bytes of text for each byte of the file that was read leave
-- room for one more turn. Assumes nothing.
use Rattle.std.proofs.Common.{◌≡◌, ◌-◌, ◌*◌, ◌≤◌, ◌++◌, length, take, drop}
use Rattle.file_run.specs.Run.{printed_from, refusal_from, printed, refusal}
use Rattle.file_run.proofs.run.run.Given as goal

abbrev pub invariant-turns : goal.invariant-turns
invariant-turns l =
    record {
      text : take l.at l.text ++ printed_from (length l.file) l.file l.cursor ≡ printed l.file;
      number : refusal_from (length l.file) l.file l.cursor ≡ refusal l.file;
      beyond : drop l.at l.text ≡ drop l.at l.initial.text;
      room : l.at ≤ 7 * l.cursor.at;
      inside : l.cursor.at ≤ 65536;
    }

-- the place moves on
abbrev pub decreases-turns : goal.decreases-turns
decreases-turns l = 65537 - l.cursor.at
