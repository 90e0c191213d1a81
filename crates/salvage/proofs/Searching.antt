-- The search, offset by offset. Assumes nothing.
use mathlib.Core.Path.{◌≡◌, ap, ◌∙◌, sym}
use mathlib.Core.Bool.{Bool, true, false, cond, ◌&&◌, ◌||◌}
use mathlib.Core.List.{List}
use Prim.Native.Nat.{ℕ, zero, suc, ◌+◌, ◌-◌, ◌≤◌, ◌<◌}
use native.Mathlib.Omega.{arith}
use lib.Dec.{eqb}
use lib.ListN.{length}
use Rattle.file_fields.specs.declared.cursor.Cursor.{Cursor}
use Rattle.file_fields.specs.declared.cursor.Advance.{Advance}
use Rattle.file_fields.specs.Field.{is_data, is_keeping}
use Rattle.file_fields.specs.Cursor.{file_start, advance_of}
use Rattle.salvage.specs.Pieces.{data_follows, goes_on, goes_on_in}

-- ---- what the code computes at an offset
pub follows_so : (file : List ℕ) (c : Cursor) (a : Advance) {r : Bool} → a ≡ advance_of file c → r ≡ (is_data a.tag || (is_keeping a.tag && is_data (advance_of file a.next).tag)) → r ≡ data_follows file c
unfolding data_follows
follows_so file c a p e = e ∙ ap (λ (x : Advance). is_data x.tag || (is_keeping x.tag && is_data (advance_of file x.next).tag)) p

pub goes-on-so : (file : List ℕ) (at : ℕ) (n : Cursor) (a : Advance) {r : Bool} → n ≡ file_start → a ≡ advance_of file (record { at = at; shape = n.shape }) → r ≡ (eqb a.tag 1 && data_follows file a.next) → r ≡ goes_on file at
unfolding goes_on
goes-on-so file at n a p q e = e ∙ ap (λ (x : Advance). eqb x.tag 1 && data_follows file x.next) (q ∙ ap (λ (n : Cursor). advance_of file (record { at = at; shape = n.shape })) p)

-- ---- one offset, and then those behind it
module _ (file : List ℕ) (i : ℕ) where
  one_more : i < length file → goes_on_in (length file - i) file i ≡ cond (goes_on file i) i (goes_on_in (length file - (i + 1)) file (i + 1))
  unfolding goes_on_in
  one_more h =
      let e : length file - i ≡ suc (length file - (i + 1)) = omega arith in
      let n : i + 1 ≡ suc i = omega arith in
      ap (λ (k : ℕ). goes_on_in k file i) e ∙ ap (λ (k : ℕ). cond (goes_on file i) i (goes_on_in (length file - (i + 1)) file k)) (sym n)

  pub not-here : {a : ℕ} → i < length file → goes_on file i ≡ false → goes_on_in (length file - i) file i ≡ a → goes_on_in (length file - (i + 1)) file (i + 1) ≡ a
  not-here h e p = rw e at (sym (one_more h)) ∙ p

  pub here : {a : ℕ} → i < length file → goes_on file i ≡ true → goes_on_in (length file - i) file i ≡ a → i ≡ a
  here h e p = rw e at (sym (one_more h)) ∙ p

  pub at-end : {a : ℕ} → length file ≤ i → goes_on_in (length file - i) file i ≡ a → i ≡ a
  unfolding goes_on_in
  at-end h p =
      let e : length file - i ≡ zero = omega arith in
      ap (λ (k : ℕ). goes_on_in k file i) (sym e) ∙ p
