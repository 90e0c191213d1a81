-- 1 to 5, 20 and 6, as `block_refusal` has them of an output as long as the input, to which 7 never applies: what is made of a call
-- that they refuse, and of one that they let pass. Assumes nothing.
use native.Mathlib.Omega.{arith}
use mathlib.Core.Path.{◌≡◌, sym, ◌∙◌}
use mathlib.Core.Bool.{Bool}
use mathlib.Core.List.{List, ◌∷◌, ◌++◌}
use Prim.Native.Nat.{ℕ, ◌*◌, ◌<◌}
use lib.IntN.{ℤ}
use lib.ListN.{length}
use Rattle.algebra.specs.Refusals.{Test, first_of, number_of}
use Rattle.algebra.proofs.Refusals.{refused-first, passed_first}
use Rattle.meaning.specs.declared.Shape.{Shape}
use Rattle.meaning.specs.declared.refusal.Refusal.{Refusal}
use Rattle.meaning.specs.Refusal.{refusal_number}
use Rattle.meaning.specs.Shape.{is_size, is_long_depth}
use Rattle.meaning.specs.Answer.{input_test, length_tests}
use Rattle.meaning.specs.Long.{long_shape_tests}
use Rattle.meaning.proofs.AcceptedCalls.{without-7}
use Rattle.meaning.proofs.RefusalNumbers.{above}

module _ (extended : Bool) (sh : Shape) (c : List ℤ) where
  abbrev elements : ℕ
  elements = sh.width * sh.height

  abbrev pub seven : List Test
  seven = long_shape_tests extended sh ++ length_tests elements (length c) (length c)

  module _ {A : Type 0} (refused : ℕ → ℕ → A) (done : A) (ts : List Test) where
    pub six : first_of (long_shape_tests extended sh ++ (input_test elements (length c) ∷ ts)) refused done ≡ first_of (seven ++ ts) refused done
    six = sym (without-7 refused done (is_size sh.width) (is_size sh.height) (is_long_depth extended sh.depth) sh elements (length c) (length c) (λ _ e. e) ts)

    pub refuses : (number_of seven ≡ 0 → ⊥) → first_of (long_shape_tests extended sh ++ (input_test elements (length c) ∷ ts)) refused done ≡ refused (number_of seven) 0
    refuses n = six ∙ refused-first ts refused done seven tt n

    pub passes : number_of seven ≡ 0 → first_of (long_shape_tests extended sh ++ (input_test elements (length c) ∷ ts)) refused done ≡ first_of ts refused done
    passes e = six ∙ passed_first ts refused done seven tt e
