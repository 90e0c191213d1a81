-- Document 01, "The block file and its program": "The first refusal ends the run". What the functions of the run that do a turn
-- ask and promise.
use Rattle.std.specs.Prelude.{◌≡◌, is_some, unwrap_or, false, List, ℕ, ◌+◌, ◌*◌, ◌≤◌, ◌<◌}
use Rattle.file_run.specs.declared.run.TurnDone.{TurnDone}
use Rattle.file_text.specs.Wrote.{Wrote}
use Rattle.file_run.specs.Run.{Turn}

-- the turn's text, of at most `most` bytes, was put at `at`; `done` says where it ends, and what the turn says
pub record Does (turn : Turn) (most at : ℕ) (out out' : List ℕ) (done : TurnDone) : Type 0 where
  pub wrote : Wrote turn.text most at out out' done.at
  pub ends : is_some done.ending ≡ turn.ends
  pub number : unwrap_or done.ending 0 ≡ turn.number
  pub next : done.next ≡ turn.next

-- a turn that does not end the run moves on within a file that is not too long, and prints at most seven bytes for each byte
-- of the file that it moves over
abbrev pub Follows : ℕ → ℕ → TurnDone → Type 0
Follows place at done = is_some done.ending ≡ false → (place < done.next.at) × (done.next.at ≤ 65536) × (done.at + 7 * place ≤ at + 7 * done.next.at)
