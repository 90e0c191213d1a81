-- What the contract of `run` allows is one outcome: for any bytes and any buffer, two results that it allows are equal.
-- Assumes nothing.
use mathlib.Core.Path.{◌≡◌}
use mathlib.Core.List.{List}
use Prim.Native.Nat.{ℕ}
use Rattle.algebra.proofs.Unique.{one}
use Rattle.file_run.specs.declared.run.RunDone.{RunDone}
use Rattle.file_run.specs.Run.{run_outcome}

-- the length, the number, and every byte of the buffer
pub one-run : (file text : List ℕ) {x y : RunDone × List ℕ} → x ≡ run_outcome file text → y ≡ run_outcome file text → x ≡ y
one-run file text p q = one p q
