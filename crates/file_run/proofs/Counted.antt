-- What `run` says of the part of its buffer that it counts: it lies in the buffer. Assumes nothing.
use mathlib.Core.Path.{◌≡◌, sym, ap, ◌∙◌}
use mathlib.Core.List.{List, ◌++◌}
use Prim.Native.Nat.{ℕ, ◌≤◌}
use native.Mathlib.Omega.{arith}
use lib.ListN.{length, take, drop, length-append}
use lib.Seq.{length-take-le}
use Rattle.file_run.specs.declared.run.RunDone.{RunDone}
use Rattle.file_run.specs.Run.{printed, run_outcome}

pub run-counts : (file text text' : List ℕ) (r : RunDone) → ◌≡◌ {A = RunDone × List ℕ} (r, text') (run_outcome file text) → (r.length ≤ length text') × (r.length ≡ length (take r.length text'))
run-counts file text text' r e =
    let all = printed file in
    let n : r.length ≡ length all = ap (λ (x : RunDone × List ℕ). x.0.length) e in
    let l : length text' ≡ length (all ++ drop (length all) text) = ap (λ (x : RunDone × List ℕ). length x.1) e in
    let h : r.length ≤ length text' = omega (arith, n, l ∙ length-append all (drop (length all) text)) in
    (h, sym (length-take-le r.length text' h))
