-- Two values that are each equal to a definition's are equal: what one contract allows is one outcome. Assumes nothing.
use mathlib.Core.Path.{◌≡◌, sym, ◌∙◌}

pub one : {A : Type 0} {o x y : A} → x ≡ o → y ≡ o → x ≡ y
one p q = p ∙ sym q
