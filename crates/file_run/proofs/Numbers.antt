-- "Numbers on both sides", every item marked P: one table, `items`, and one theorem, `items-hold`. It is the table of
-- lines and blocks (meaning/proofs/Numbers), and item 8 as what its file prints. Assumes nothing.
use mathlib.Core.Path.{◌≡◌}
use mathlib.Core.List.{List, [], ◌∷◌, map}
use Prim.Native.Nat.{ℕ}
use Rattle.meaning.proofs.Numbers as calls
use Rattle.meaning.proofs.Numbers.{◌and◌}
use Rattle.file_run.specs.Run.{printed, refusal}
use Rattle.file_run.proofs.Printed.{whole_case, whole_text, whole-case, whole-ends}

pub data Item : Type 0 where
  -- an item of lines or blocks
  call : calls.Item → Item
  -- a file that no refusal ends, and its text
  prints : List ℕ → List ℕ → Item

abbrev pub Says : Item → Type 0
Says (call i) = calls.Says i
Says (prints file text) = (printed file ≡ text) × (refusal file ≡ 0)

abbrev pub items : List Item
items = prints whole_case whole_text ∷ map call calls.items

-- what a list of items says, all of it
infixr 5 ◌also◌
pub data Hold : List Item → Type 0 where
  none : Hold []
  ◌also◌ : {i : Item} {is : List Item} → Says i → Hold is → Hold (i ∷ is)

calls-hold : (is : List calls.Item) → calls.Hold is → Hold (map call is)
calls-hold [] calls.none = none
calls-hold (i ∷ is) (p and h) = p also calls-hold is h

pub items-hold : Hold items
items-hold =
    let whole : Says (prints whole_case whole_text) = (whole-case, whole-ends) in
    whole also calls-hold calls.items calls.items-hold
