-- A list of which the part from o up to e was lent and came back as ys. Assumes nothing.
use mathlib.Core.Path.{◌≡◌, sym, ap, ◌∙◌}
use mathlib.Core.List.{List, ◌++◌}
use Prim.Native.Nat.{ℕ, ◌+◌, ◌-◌, ◌≤◌, ◌<◌}
use native.Mathlib.Omega.{arith}
use lib.ListN.{length, take, drop, length-append, length-drop, get_or-append}
use lib.Seq.{length-take-le, get_or-take, get_or-drop, drop_at}
use lib.IntN.{ℤ, pos}
use Rattle.algebra.specs.Lists.{at}

abbrev pub spliced-at : List ℤ → List ℤ → ℕ → ℕ → List ℤ
spliced-at m ys o e = take o m ++ (ys ++ drop (e - o) (drop o m))

module _ (m ys : List ℤ) (o e : ℕ) (start : o ≤ length m) where
  abbrev pub spliced : List ℤ
  spliced = spliced-at m ys o e

  front : length (take o m) ≡ o
  front = length-take-le o m start

  pub before : (k : ℕ) → k < o → at spliced k ≡ at m k
  before k h = get_or-append (take o m) (ys ++ drop (e - o) (drop o m)) (pos 0) k (omega (arith, front)) ∙ get_or-take o m k (pos 0) h

  pub inside : (k : ℕ) → k < length ys → at spliced (o + k) ≡ at ys k
  inside k h =
      sym (get_or-drop o spliced k (pos 0)) ∙ ap (λ (l : List ℤ). at l k) (drop_at (take o m) (ys ++ drop (e - o) (drop o m)) o front)
      ∙ get_or-append ys (drop (e - o) (drop o m)) (pos 0) k h

  pub long : length ys ≡ e - o → o ≤ e → e ≤ length m → length spliced ≡ length m
  long l h g =
      length-append (take o m) (ys ++ drop (e - o) (drop o m))
      ∙ omega (arith, front, length-append ys (drop (e - o) (drop o m)), length-drop (e - o) (drop o m), length-drop o m)
