-- What a search hands back: the place that was found is the first one and below the count, and where none was found the first one is
-- not. Assumes nothing.
use Rattle.std.specs.Prelude.{None, Some}
use Rattle.std.proofs.lemmas.Option.{none-some, same_Some}
use mathlib.Core.Path.{◌≡◌, refl, sym}
use mathlib.Core.Bool.{Bool, true, false, cond}
use Prim.Native.Nat.{ℕ}
use lib.Dec.{ltb}
use Rattle.algebra.specs.First.{found}

pub found_some : (count place k : ℕ) → Some k ≡ found count place → (k ≡ place) × (ltb place count ≡ true)
found_some count place k e = one (ltb place count) e
  where
    one : (b : Bool) → Some k ≡ cond b (Some place) None → (k ≡ place) × (b ≡ true)
    one true e = (same_Some k place e, refl)
    one false e = absurd (none-some k (sym e))

pub found_none : (count place : ℕ) → None ≡ found count place → ltb place count ≡ false
found_none count place e = one (ltb place count) e
  where
    one : (b : Bool) → None ≡ cond b (Some place) None → b ≡ false
    one true e = absurd (none-some place e)
    one false e = refl
