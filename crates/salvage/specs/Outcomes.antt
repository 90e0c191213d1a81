-- Document 02, Wish 12: "Refusals, with nothing written: 14 as before; 7 for an output shorter than the file or a list of under
-- 1,024 places; 26 for more than 1,024 dropped stretches."
use Rattle.std.specs.Prelude.{List, [], ◌∷◌, ℕ, ◌*◌, ◌/◌, ltb, length}
use Rattle.algebra.specs.Lists.{over}
use Rattle.algebra.specs.Refusals.{Test, first_of}
use Rattle.meaning.specs.Answer.{test}
use Rattle.file_fields.specs.Cursor.{too_long}
use Rattle.salvage.specs.declared.saving.Saved.{Saved}
use Rattle.salvage.specs.Pieces.{written, dropped}

-- "1,024 places", of two numbers each: "list each dropped stretch by offset and length"
abbrev pub places : ℕ
places = 1024

abbrev pub salvage_tests : List ℕ → List ℕ → List ℕ → List Test
salvage_tests file out list =
    test (too_long file) 14
    ∷ test (ltb (length out) (length file)) 7
    ∷ test (ltb (length list) (2 * places)) 7
    ∷ test (ltb (2 * places) (length (dropped file))) 26
    ∷ []

-- what is handed back, and what the two buffers hold then
abbrev pub salvage_outcome : List ℕ → List ℕ → List ℕ → Saved × List ℕ × List ℕ
salvage_outcome file out list =
    first_of (salvage_tests file out list) (λ number place. (record { number = number; bytes = 0; stretches = 0 }, out, list)) (
      record { number = 0; bytes = length (written file); stretches = length (dropped file) / 2 },
      over (written file) out,
      over (dropped file) list,
    )
