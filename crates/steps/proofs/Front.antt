-- A list that a loop fills from the front: the first i elements are s's, the others are still o's. Assumes nothing.
use mathlib.Core.Path.{◌≡◌, refl, sym, ap, ◌∙◌}
use mathlib.Core.List.{List, ◌++◌, append-nil}
use Prim.Native.Nat.{ℕ, zero, suc, ◌+◌, ◌≤◌, ◌<◌}
use native.Mathlib.Numerals.{add-one}
use native.Mathlib.Omega.{arith}
use lib.ListN.{length, take, drop, get_or, set, replicate, length-append, length-drop, drop_of_length-le}
use lib.Seq.{drop-cons, take-length, take-suc, set_at, append_snoc, length-take-le}

pub same_at : {A : Type 0} (m i : ℕ) (a : A) → get_or (replicate m a) i a ≡ a
same_at zero i a = refl
same_at (suc m) zero a = refl
same_at (suc m) (suc i) a = same_at m i a

module _ {A : Type 0} (o : List A) (i : ℕ) (s : List A) where
  pub copy_more : (d : A) → i < length s → i < length o → set (take i s ++ drop i o) i (get_or s i d) ≡ take (i + 1) s ++ drop (i + 1) o
  copy_more d hs ho =
      rw (add-one, drop-cons o i d, take-suc s i d)
      (set_at (take i s) _ (drop (suc i) o) (get_or s i d) i (length-take-le i s (omega arith)) ∙ sym (append_snoc (take i s) (get_or s i d) (drop (suc i) o)))

  pub copy-long : i ≤ length s → i ≤ length o → length (take i s ++ drop i o) ≡ length o
  copy-long hs ho = simp (length-append, length-take-le, length-drop) (omega arith)

  pub copied : i ≡ length s → take i s ++ drop i o ≡ s ++ drop (length s) o
  copied e = (λ j. take (e j) s ++ drop (e j) o) ∙ ap (λ l. l ++ drop (length s) o) (take-length s)

  pub all-copied : i ≡ length s → length s ≡ length o → take i s ++ drop i o ≡ s
  all-copied e l =
      let h : length o ≤ length s = omega arith in
      copied e ∙ ap (λ r. s ++ r) (drop_of_length-le o h) ∙ append-nil s
