-- Document 02, Wish 5: "It equals the calls made one by one in order". The stretch of each block, and the calls, for the
-- theorems of proofs/OneByOne and proofs/NearExact.
use Rattle.std.specs.Prelude.{List, [], ◌∷◌, ◌++◌, ℕ, ◌+◌, ℤ, take, drop}
use Rattle.meaning.specs.declared.Shape.{Shape}
use Rattle.meaning.specs.declared.Answer.{Answer}
use Rattle.meaning.specs.Inverse.{inverse_outcome}
use Rattle.block_row.specs.Row.{span, spans}

-- n numbers from `start` on
abbrev pub stretch : ℕ → ℕ → List ℤ → List ℤ
stretch start n l = take n (drop start l)

-- where the stretch of block k starts: the stretches before it lie one after the other
abbrev pub start_of : List Shape → ℕ → ℕ
start_of shapes k = spans (take k shapes)

-- the calls from `start` on: each is handed its stretch of the input, and of the output as the calls before it left it; its own
-- stretch of the output is what it leaves there, and the rest stays
unfoldable pub calls : List Shape → ℕ → List ℤ → List ℤ → List Answer × List ℤ
calls [] start c out = ([], out)
calls (sh ∷ shs) start c out =
    let here = inverse_outcome sh (stretch start (span sh) c) (stretch start (span sh) out) in
    let rest = calls shs (start + span sh) c (take start out ++ here.1 ++ drop (start + span sh) out) in
    (here.0 ∷ rest.0, rest.1)
