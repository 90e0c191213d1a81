-- The cursor from which the reader goes on lies behind the one before it, and not past the end. Assumes nothing.
use mathlib.Core.Path.{◌≡◌, refl, sym, ap, ◌∙◌, subst}
use mathlib.Core.Bool.{Bool, true, false, cond, false≢true}
use mathlib.Core.List.{List}
use Prim.Native.Nat.{ℕ, zero, suc, ◌+◌, ◌-◌, ◌≤◌, ◌<◌}
use native.Mathlib.Omega.{arith}
use borrow.Author.Tests.{eqb-true, eq-eqb, ne_eqb}
use lib.ListN.{length}
use Rattle.file_fields.specs.declared.cursor.Cursor.{Cursor}
use Rattle.file_fields.specs.declared.cursor.Advance.{Advance}
use Rattle.file_fields.specs.Cursor.{advance_of}
use Rattle.file_fields.proofs.Found.{found-cases}
use Rattle.salvage.specs.Pieces.{goes_on, goes_on_in, next_after, reads, onward}

-- the search stays within its k offsets and the one behind them
pub search-range : (k : ℕ) (file : List ℕ) (at : ℕ) → (at ≤ goes_on_in k file at) × (goes_on_in k file at ≤ at + k)
unfolding goes_on_in
search-range zero file at = (omega arith, omega arith)
search-range (suc k) file at = pick (goes_on file at) (search-range k file (suc at))
  where
    pick : {n : ℕ} (b : Bool) → (suc at ≤ n) × (n ≤ suc at + k) → (at ≤ cond b at n) × (cond b at n ≤ at + suc k)
    pick true h = (omega arith, omega arith)
    pick false h = (omega arith, omega arith)

module _ (file : List ℕ) (c : Cursor) where
  abbrev lost : Cursor
  lost = record { at = next_after file c.at; shape = c.shape }

  -- what a field that is read, and a stretch that is dropped, lead to
  pub onward-by : (P : Cursor → Type 0) → (reads file c ≡ true → P (advance_of file c).next) → (reads file c ≡ false → P lost) → P (onward file c)
  unfolding onward
  onward-by P read not = pick (advance_of file c).next lost (reads file c) read not
    where
      pick : (x y : Cursor) (b : Bool) → (b ≡ true → P x) → (b ≡ false → P y) → P (cond b x y)
      pick x y true p q = p refl
      pick x y false p q = q refl

  pub onward-read : reads file c ≡ true → (advance_of file c).next ≡ onward file c
  onward-read e = onward-by (λ n. (advance_of file c).next ≡ n) (λ r. refl) (λ r. absurd (false≢true (sym r ∙ e)))

  pub onward-lost : reads file c ≡ false → lost ≡ onward file c
  onward-lost e = onward-by (λ n. lost ≡ n) (λ r. absurd (false≢true (sym e ∙ r))) (λ r. refl)

  read-moves : c.at < length file → (advance_of file c).number ≡ 0 → (c.at < (advance_of file c).next.at) × ((advance_of file c).next.at ≤ length file)
  read-moves l =
      found-cases file c (λ f. f.number ≡ 0 → (c.at < f.next.at) × (f.next.at ≤ length file))
      (λ n e z. absurd (omega (arith, e z))) (λ h m w z. (omega arith, w.body))

  pub moves : c.at < length file → (c.at < (onward file c).at) × ((onward file c).at ≤ length file)
  moves l =
      let s = search-range (length file - (c.at + 1)) file (c.at + 1) in
      onward-by (λ n. (c.at < n.at) × (n.at ≤ length file)) (λ r. read-moves l (eqb-true (advance_of file c).number 0 r)) (λ r. (omega (arith, s.0), omega (arith, s.1)))

  -- what the code hands back
  pub advance-read : {s : Advance} → c.at < length file → s ≡ advance_of file c → s.number ≡ 0 → (s.next ≡ onward file c) × ((c.at < s.next.at) × (s.next.at ≤ length file))
  advance-read {s} l e z =
      let n : s.next ≡ onward file c = ap (λ (x : Advance). x.next) e ∙ onward-read (eq-eqb _ 0 (sym (ap (λ (x : Advance). x.number) e) ∙ z)) in
      (n, subst (λ (x : Cursor). (c.at < x.at) × (x.at ≤ length file)) (sym n) (moves l))

  pub advance-lost : {s : Advance} {m : ℕ} → c.at < length file → s ≡ advance_of file c → (s.number ≡ 0 → ⊥) → m ≡ next_after file c.at
      → (◌≡◌ {A = Cursor} (record { at = m; shape = c.shape }) (onward file c)) × ((c.at < m) × (m ≤ length file))
  advance-lost {s} {m} l e z p =
      let n : ◌≡◌ {A = Cursor} (record { at = m; shape = c.shape }) (onward file c) = (λ i. record { at = p i; shape = c.shape }) ∙ onward-lost (ne_eqb _ 0 (λ q. z (ap (λ (x : Advance). x.number) e ∙ q))) in
      (n, subst (λ (x : Cursor). (c.at < x.at) × (x.at ≤ length file)) (sym n) (moves l))
