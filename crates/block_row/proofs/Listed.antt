-- The list of shapes that lent numbers hold: how many there are, and each of them. Assumes nothing.
use mathlib.Core.Path.{◌≡◌, refl, ◌∙◌}
use mathlib.Core.List.{List, [], ◌∷◌, ◌++◌}
use Prim.Native.Nat.{ℕ, zero, suc, ◌+◌, ◌<◌}
use native.Mathlib.Nat.{not-suc-le-zero}
use native.Mathlib.Omega.{arith}
use lib.ListN.{length, get_or, length-append, get_or-append}
use lib.Seq.{get_or_at}
use Rattle.algebra.proofs.Table.{last}
use Rattle.meaning.specs.declared.Shape.{Shape}
use Rattle.block_row.specs.Numbers.{row_shape, shapes_of}

pub shapes-length : (n : ℕ) (l : List ℕ) → length (shapes_of n l) ≡ n
unfolding shapes_of
shapes-length zero l = refl
shapes-length (suc n) l = length-append (shapes_of n l) (row_shape l n ∷ []) ∙ omega (arith, shapes-length n l)

pub shapes-at : (n : ℕ) (l : List ℕ) (k : ℕ) (d : Shape) → k < n → get_or (shapes_of n l) k d ≡ row_shape l k
unfolding shapes_of
shapes-at zero l k d h = absurd (not-suc-le-zero h)
shapes-at (suc n) l k d h =
    last (λ (m : ℕ). get_or (shapes_of n l ++ (row_shape l n ∷ [])) m d ≡ row_shape l m) n k h
    (get_or_at (shapes_of n l) (row_shape l n) [] d n (shapes-length n l))
    (λ j. get_or-append (shapes_of n l) (row_shape l n ∷ []) d k (omega (arith, shapes-length n l)) ∙ shapes-at n l k d j)
