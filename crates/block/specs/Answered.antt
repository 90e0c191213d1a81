-- Number and place of an answer in one number: the place counts 2 ^ 32.
use Rattle.std.specs.Prelude.{ℕ, ◌/◌, ◌%◌}
use Rattle.meaning.specs.declared.Answer.{Answer}

abbrev pub answer_of : ℕ → ℕ → Answer
answer_of code rails = record { number = code % 4294967296; place = code / 4294967296; rails = rails }
