-- The numbers of refusals: 0 is none of them, and each is of one refusal. Assumes nothing.
use Rattle.std.proofs.Common.{arith, ◌<◌, ap}
use Rattle.std.specs.Prelude.{◌≡◌, Result, Ok, Err}
use Rattle.meaning.specs.declared.refusal.Refusal.{Refusal}
use Rattle.meaning.specs.Refusal.{refusal_number, number_in}

pub above : (refusal : Refusal) → 0 < refusal_number refusal
above refusal = grind arith

-- No two refusals have one number.
pub number-one : {a b : Refusal} → refusal_number a ≡ refusal_number b → a ≡ b
number-one {a} {b} same = grind arith

-- What a test says is known by its number.
pub result-one : (r s : Result Unit Refusal) → number_in r ≡ number_in s → r ≡ s
result-one (Ok done) (Ok ended) same = grind arith
result-one (Ok done) (Err b) same = let p = above b in absurd (omega (arith, same))
result-one (Err a) (Ok ended) same = let p = above a in absurd (omega (arith, same))
result-one (Err a) (Err b) same = ap Err (number-one same)
