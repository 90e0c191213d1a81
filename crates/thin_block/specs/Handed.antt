-- Document 02, Wish 7: "the result is handed back as the stretch of the one that holds it".
use Rattle.std.specs.Prelude.{cond, List, ℕ, ◌*◌, eqb, ℤ, take}
use Rattle.meaning.specs.declared.Shape.{Shape}
use Rattle.thin_block.specs.Thin.{Areas, thin_outcome}

-- the answer, the stretch, and where it starts
pub record Handed (A : Type 0) : Type 0 where
  pub number : ℕ
  pub place : ℕ
  pub rails : ℕ
  pub stretch : List ℤ
  pub start : A

-- "the first after one stage, the second after two"
abbrev pub holder : {A : Type 0} → ℕ → A → A → A
holder area first second = cond (eqb area 2) second first

-- "A refused call .. hands back the empty start of the first"; p and q are where the areas start
abbrev pub handed_of : {A : Type 0} → ℕ → Areas → A → A → Handed A
handed_of n o p q =
    record {
      number = o.answer.number;
      place = o.answer.place;
      rails = o.answer.rails;
      stretch = take (cond (eqb o.answer.area 0) 0 n) (holder o.answer.area o.first o.second);
      start = holder o.answer.area p q;
    }

abbrev pub handed : {A : Type 0} → Shape → List ℤ → List ℤ → List ℤ → A → A → Handed A
handed sh c a b p q = handed_of (sh.width * sh.height) (thin_outcome sh c a b) p q
