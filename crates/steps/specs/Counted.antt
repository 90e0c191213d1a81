-- What a run hands back of its count, or of the test that refused it: "the count of multiplying steps", and 0 beside a number.
use Rattle.std.specs.Prelude.{ℕ, Result, Ok, Err}
use Rattle.meaning.specs.declared.refusal.Refusal.{Refusal}
use Rattle.meaning.specs.Refusal.{refusal_number}
use Rattle.steps.specs.declared.StepCount.{StepCount}

abbrev pub step_count : Result ℕ Refusal → StepCount
step_count (Ok count) = record { number = 0; count = count }
step_count (Err refusal) = record { number = refusal_number refusal; count = 0 }
