-- A header is read byte by byte: one byte more, and where it ends. Assumes nothing.
use mathlib.Core.Path.{◌≡◌, refl}
use mathlib.Core.Bool.{true, false}
use mathlib.Core.List.{List, [], ◌∷◌}
use Prim.Native.Nat.{ℕ, suc, ◌+◌, ◌≤◌, ◌<◌}
use native.Mathlib.Numerals.{add-one}
use native.Mathlib.Omega.{arith}
use lib.ListN.{length, drop, get_or}
use lib.Seq.{drop-cons}
use Rattle.meaning.proofs.Cases.{pick}
use Rattle.picture_header.specs.declared.Header.{Header}
use Rattle.picture_header.specs.declared.FoundHeader.{FoundHeader}
use Rattle.picture_header.specs.Header.{behind_p5, ended, with_byte, read_from, is_p5, header_of}
use Rattle.picture_header.proofs.Tests.{no_bytes}

pub read_more : (file : List ℕ) (s : Header) (at : ℕ) → at < length file → ended s ≡ false
    → read_from s at (drop at file) ≡ read_from (with_byte s (get_or file at 0)) (at + 1) (drop (at + 1) file)
unfolding read_from
read_more file s at h e = rw (drop-cons file at 0 h, add-one at, e)

pub read-ended : (s : Header) (at : ℕ) (bs : List ℕ) → ended s ≡ true → read_from s at bs ≡ record { header = s; start = at }
unfolding read_from
read-ended s at [] e = refl
read-ended s at (b ∷ bs) e = rw e

-- the samples start in the file, or at its end
read-in : (s : Header) (at : ℕ) (bs : List ℕ) → (read_from s at bs).start ≤ at + length bs
unfolding read_from
read-in s at [] = omega arith
read-in s at (b ∷ bs) =
    pick (λ (f : FoundHeader). f.start ≤ at + length (b ∷ bs)) (ended s) (omega arith) (omega (arith, read-in (with_byte s b) (suc at) bs))

pub start-in : (file : List ℕ) → (header_of file).start ≤ length file
unfolding header_of
start-in [] = omega arith
start-in (a ∷ []) = rw (no_bytes (a ∷ []) (omega arith)) (omega arith)
start-in (a ∷ b ∷ bs) =
    pick (λ (f : FoundHeader). f.start ≤ length (a ∷ b ∷ bs)) (is_p5 (a ∷ b ∷ bs)) (omega (arith, read-in behind_p5 2 bs)) (omega arith)
