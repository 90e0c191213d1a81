-- The number of fields that `printed_from` and `refusal_from` are given says nothing: any that is at least what is left of the file
-- gives the same. Assumes nothing.
use mathlib.Core.Path.{◌≡◌, refl, sym, ap, ◌∙◌}
use mathlib.Core.Bool.{Bool, true, false, cond, not, false≢true}
use mathlib.Core.Logic.{◌⊎◌, inl, inr}
use mathlib.Core.List.{List, [], ◌++◌}
use Prim.Native.Nat.{ℕ, zero, suc, ◌+◌, ◌≤◌, ◌<◌}
use native.Mathlib.Omega.{arith}
use borrow.Author.Tests.{le-ltb, lt-ltb}
use lib.Dec.{eqb}
use lib.IntN.{ℤ}
use lib.ListN.{length, take, drop}
use Rattle.meaning.specs.declared.Shape.{Shape}
use Rattle.meaning.specs.declared.Answer.{Answer}
use Rattle.meaning.specs.Inverse.{inverse_outcome}
use Rattle.meaning.specs.Forward.{forward_outcome}
use Rattle.meaning.proofs.Cases.{le-or-lt}
use Rattle.file_fields.specs.declared.cursor.Cursor.{Cursor}
use Rattle.file_fields.specs.Field.{Field, field_at, whole_field}
use Rattle.file_fields.specs.Cursor.{file_start, found_at}
use Rattle.file_numbers.specs.Numbers.{numbers}
use Rattle.file_text.specs.Text.{inverse_text, forward_text}
use Rattle.file_run.specs.Run.{Turn, blank, refused_turn, block_turn, inverse_turn, forward_turn, turn_at, printed_from, refusal_from, printed, refusal}
use Rattle.file_fields.proofs.Found.{found-cases}

-- ---- a turn that does not end the run moves the place on
-- what `turn_at` makes of a field
abbrev turn_of : List ℕ → Cursor → Field → Turn
turn_of file c f =
    cond (not (eqb f.number 0)) (refused_turn f.number c.at f.next)
    (cond (eqb f.tag 2) (inverse_turn c.shape (numbers (take f.bytes (drop f.start file))) c.at f.next)
    (cond (eqb f.tag 3) (forward_turn c.shape (numbers (take f.bytes (drop f.start file))) c.at f.next)
    (record { text = []; ends = eqb f.tag 0; number = 0; next = f.next })))

abbrev Moves : List ℕ → Cursor → Turn → Type 0
Moves file c t = t.ends ≡ false → (c.at < length file) × (c.at < t.next.at)

module _ (file : List ℕ) (c : Cursor) where
  both : (b : Bool) (t u : Turn) → Moves file c t → Moves file c u → Moves file c (cond b t u)
  both true t u p q = p
  both false t u p q = q

  never : (t : Turn) → t.ends ≡ true → Moves file c t
  never t e = λ h. absurd (false≢true (sym h ∙ e))

  block-moves : (a : Answer) (text : List ℕ) (offset : ℕ) (n : Cursor) → (c.at < length file) × (c.at < n.at) → Moves file c (block_turn a text offset n)
  block-moves a text offset n h = both (eqb a.number 0) (record { text = text; ends = false; number = 0; next = n }) (refused_turn a.number offset n) (λ e. h) (never (refused_turn a.number offset n) refl)

  inverse-moves : (sh : Shape) (z : List ℤ) (n : Cursor) → (c.at < length file) × (c.at < n.at) → Moves file c (inverse_turn sh z c.at n)
  inverse-moves sh z n h =
      let o = inverse_outcome sh z (blank sh) in
      block-moves o.0 (inverse_text sh.width sh.height o.0.rails o.1) c.at n h

  forward-moves : (sh : Shape) (z : List ℤ) (n : Cursor) → (c.at < length file) × (c.at < n.at) → Moves file c (forward_turn sh z c.at n)
  forward-moves sh z n h =
      let o = forward_outcome sh z (blank sh) in
      block-moves o.0 (forward_text sh.width sh.height o.1) c.at n h

  turn-moves : Moves file c (turn_at file c)
  unfolding turn_at
  turn-moves =
      found-cases file c (λ f. Moves file c (turn_of file c f))
      (λ n z. both (not (eqb n 0)) (refused_turn n c.at c) (record { text = []; ends = true; number = 0; next = c }) (never (refused_turn n c.at c) refl) (never (record { text = []; ends = true; number = 0; next = c }) refl))
      (λ h l w. let f = whole_field file c.at c.shape in
      let body = numbers (take f.bytes (drop f.start file)) in
      let on : (c.at < length file) × (c.at < f.next.at) = (h, omega arith) in
      both (eqb f.tag 2) (inverse_turn c.shape body c.at f.next) _ (inverse-moves c.shape body f.next on)
      (both (eqb f.tag 3) (forward_turn c.shape body c.at f.next) (record { text = []; ends = eqb f.tag 0; number = 0; next = f.next }) (forward-moves c.shape body f.next on)
      (λ e. on)))

  -- ---- at the end of a file that is not too long nothing is printed
  turn_end : length file ≤ 65536 → length file ≤ c.at → turn_at file c ≡ record { text = []; ends = true; number = 0; next = c }
  unfolding turn_at found_at field_at
  turn_end l h = rw (le-ltb 65536 (length file) l, le-ltb c.at (length file) h)

  -- ---- a file that is too long ends the run at once
  turn-long : 65536 < length file → (turn_at file c).ends ≡ true
  unfolding turn_at found_at
  turn-long h = rw (lt-ltb 65536 (length file) h)

-- ---- what a run gives, turn by turn: its text, or the number of the refusal that ends it
record Given (A : Type 0) : Type 0 where
  none : A
  adds : Turn → A → A
  from : ℕ → List ℕ → Cursor → A
  by-none : (file : List ℕ) (c : Cursor) → from zero file c ≡ none
  by_turn : (k : ℕ) (file : List ℕ) (c : Cursor) → from (suc k) file c ≡ adds (turn_at file c) (cond (turn_at file c).ends none (from k file (turn_at file c).next))
  at-end : (c : Cursor) → adds (record { text = []; ends = true; number = 0; next = c }) none ≡ none

printed-none : (file : List ℕ) (c : Cursor) → printed_from zero file c ≡ []
unfolding printed_from
printed-none file c = refl

printed-turn : (k : ℕ) (file : List ℕ) (c : Cursor) → printed_from (suc k) file c ≡ (turn_at file c).text ++ cond (turn_at file c).ends [] (printed_from k file (turn_at file c).next)
unfolding printed_from
printed-turn k file c = refl

abbrev text : Given (List ℕ)
text = record { none = []; adds = λ t l. t.text ++ l; from = printed_from; by-none = printed-none; by_turn = printed-turn; at-end = λ c. refl }

-- the turn that ends the run says the number, whatever would follow
again : (b : Bool) (n m : ℕ) → cond b n m ≡ cond b n (cond b 0 m)
again true n m = refl
again false n m = refl

refusal-none : (file : List ℕ) (c : Cursor) → refusal_from zero file c ≡ 0
unfolding refusal_from
refusal-none file c = refl

refusal-turn : (k : ℕ) (file : List ℕ) (c : Cursor) → refusal_from (suc k) file c ≡ cond (turn_at file c).ends (turn_at file c).number (cond (turn_at file c).ends 0 (refusal_from k file (turn_at file c).next))
unfolding refusal_from
refusal-turn k file c =
    let t = turn_at file c in
    again t.ends t.number (refusal_from k file t.next)

abbrev number : Given ℕ
number = record { none = 0; adds = λ t n. cond t.ends t.number n; from = refusal_from; by-none = refusal-none; by_turn = refusal-turn; at-end = λ c. refl }

-- ---- with enough fields, however many, a run gives the same
module _ {A : Type 0} (g : Given A) where
  past : (k : ℕ) (file : List ℕ) (c : Cursor) → length file ≤ 65536 → length file ≤ c.at → g.from k file c ≡ g.none
  past zero file c l h = g.by-none file c
  past (suc k) file c l h = g.by_turn k file c ∙ rw (turn_end file c l h) (g.at-end c)

  enough : (k j : ℕ) (file : List ℕ) (c : Cursor) → length file ≤ 65536 → length file ≤ c.at + k → length file ≤ c.at + j → g.from k file c ≡ g.from j file c
  enough zero j file c l h i = g.by-none file c ∙ sym (past j file c l (omega arith))
  enough (suc k) zero file c l h i = past (suc k) file c l (omega arith) ∙ sym (g.by-none file c)
  enough (suc k) (suc j) file c l h i =
      let t = turn_at file c in
      g.by_turn k file c
      ∙ ap (λ (a : A). g.adds t a) (same t.ends (λ e. let m = turn-moves file c e in enough k j file t.next l (omega arith) (omega arith)))
      ∙ sym (g.by_turn j file c)
    where
      same : {x y : A} (b : Bool) → (b ≡ false → x ≡ y) → cond b g.none x ≡ cond b g.none y
      same true e = refl
      same false e = e refl

  at_once : (k : ℕ) (file : List ℕ) (c : Cursor) → 65536 < length file → 0 < k → g.from k file c ≡ g.adds (turn_at file c) g.none
  at_once zero file c l h = absurd (omega arith)
  at_once (suc k) file c l h = g.by_turn k file c ∙ rw (turn-long file c l)

  any-more : (file : List ℕ) (k : ℕ) → length file ≤ k → g.from k file file_start ≡ g.from (length file) file file_start
  any-more file k h = by (le-or-lt (length file) 65536)
    where
      by : (length file ≤ 65536) ⊎ (65536 < length file) → g.from k file file_start ≡ g.from (length file) file file_start
      by (inl l) = enough k (length file) file file_start l (omega arith) (omega arith)
      by (inr l) = at_once k file file_start l (omega arith) ∙ sym (at_once (length file) file file_start l (omega arith))

  -- a turn of the run, and then the rest: with as many fields as the file has bytes, at any place
  one-turn : (file : List ℕ) (c : Cursor) → g.from (length file) file c ≡ g.adds (turn_at file c) (cond (turn_at file c).ends g.none (g.from (length file) file (turn_at file c).next))
  one-turn file c = by (le-or-lt (length file) 65536)
    where
      by : (length file ≤ 65536) ⊎ (65536 < length file) → g.from (length file) file c ≡ g.adds (turn_at file c) (cond (turn_at file c).ends g.none (g.from (length file) file (turn_at file c).next))
      by (inl l) = enough (length file) (suc (length file)) file c l (omega arith) (omega arith) ∙ g.by_turn (length file) file c
      by (inr l) = at_once (length file) file c l (omega arith) ∙ rw (turn-long file c l)

pub fuel : (file : List ℕ) (k : ℕ) → length file ≤ k → printed_from k file file_start ≡ printed file
unfolding printed
fuel file k h = any-more text file k h

pub refusal-fuel : (file : List ℕ) (k : ℕ) → length file ≤ k → refusal_from k file file_start ≡ refusal file
unfolding refusal
refusal-fuel file k h = any-more number file k h

pub text-turn : (file : List ℕ) (c : Cursor) → printed_from (length file) file c ≡ (turn_at file c).text ++ cond (turn_at file c).ends [] (printed_from (length file) file (turn_at file c).next)
text-turn file c = one-turn text file c

pub number-turn : (file : List ℕ) (c : Cursor) → refusal_from (length file) file c ≡ cond (turn_at file c).ends (turn_at file c).number (refusal_from (length file) file (turn_at file c).next)
number-turn file c =
    let t = turn_at file c in
    one-turn number file c ∙ sym (again t.ends t.number (refusal_from (length file) file t.next))
