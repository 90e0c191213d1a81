-- The outcome of a call, test by test. Assumes nothing.
use mathlib.Core.Path.{◌≡◌}
use mathlib.Core.List.{List}
use Prim.Native.Nat.{ℕ, ◌/◌, ◌≤◌, ◌<◌}
use borrow.Author.Tests.{le-ltb, lt-ltb}
use lib.ListN.{length}
use Rattle.salvage.specs.declared.saving.Saved.{Saved}
use Rattle.salvage.specs.Pieces.{written, dropped}
use Rattle.algebra.specs.Lists.{over}
use Rattle.salvage.specs.Outcomes.{salvage_outcome}

abbrev no : ℕ → Saved
no number = record { number = number; bytes = 0; stretches = 0 }

module _ (file out list : List ℕ) where
  abbrev Is : Saved → List ℕ → List ℕ → Type 0
  Is s o l = ◌≡◌ {A = Saved × List ℕ × List ℕ} (s, o, l) (salvage_outcome file out list)

  pub is-14 : {s : Saved} → s ≡ no 14 → 65536 < length file → Is s out list
  is-14 e a = rw (e, lt-ltb 65536 (length file) a)

  module _ (a : length file ≤ 65536) where
    pub is-7 : {s : Saved} → s ≡ no 7 → length out < length file → Is s out list
    is-7 e b = rw (e, le-ltb 65536 (length file) a, lt-ltb (length out) (length file) b)

    module _ (b : length file ≤ length out) where
      pub is-7-too : {s : Saved} → s ≡ no 7 → length list < 2048 → Is s out list
      is-7-too e d = rw (e, le-ltb 65536 (length file) a, le-ltb (length out) (length file) b, lt-ltb (length list) 2048 d)

      module _ (d : 2048 ≤ length list) where
        pub is-26 : {s : Saved} → s ≡ no 26 → 2048 < length (dropped file) → Is s out list
        is-26 e f = rw (e, le-ltb 65536 (length file) a, le-ltb (length out) (length file) b, le-ltb (length list) 2048 d, lt-ltb 2048 (length (dropped file)) f)

        pub is-saved : {out' list' : List ℕ} {p q : ℕ} → length (dropped file) ≤ 2048 → (p ≡ length (written file)) × (out' ≡ over (written file) out) → (q ≡ length (dropped file)) × (list' ≡ over (dropped file) list)
            → Is (record { number = 0; bytes = p; stretches = q / 2 }) out' list'
        is-saved f w x =
            rw (le-ltb 65536 (length file) a, le-ltb (length out) (length file) b, le-ltb (length list) 2048 d, le-ltb 2048 (length (dropped file)) f)
            (λ i. (record { number = 0; bytes = w.0 i; stretches = x.0 i / 2 }, w.1 i, x.1 i))
