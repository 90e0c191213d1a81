-- The header that is written is read again, whatever stands behind it: one of sixteen texts. Assumes nothing.
use mathlib.Core.Path.{◌≡◌, refl}
use mathlib.Core.Bool.{true, false}
use mathlib.Core.List.{List, ◌++◌}
use Prim.Native.Nat.{ℕ}
use lib.ListN.{length}
use Rattle.meaning.specs.Shape.{is_size}
use Rattle.meaning.proofs.Cases.{size-cases}
use Rattle.file_text.specs.Text.{digits, decimal}
use Rattle.picture_header.specs.declared.FoundHeader.{FoundHeader}
use Rattle.picture_header.specs.Header.{digit, plain, with_byte, read_from, header_of}
use Rattle.picture_header.proofs.Reading.{read-ended}
use Rattle.picture.specs.Picture.{header_text}

abbrev pub ours : ℕ → ℕ → FoundHeader
ours w h =
    record {
      header = record { part = 3; going = false; comment = false; width = w; height = h; maximum = 65535 };
      start = length (header_text w h);
    }

abbrev Back : ℕ → ℕ → Type 0
Back w h = (rest : List ℕ) → header_of (header_text w h ++ rest) ≡ ours w h

-- what was read ends with the header
back : (w h : ℕ) (rest : List ℕ) → read_from (ours w h).header (ours w h).start rest ≡ ours w h
back w h rest = read-ended (ours w h).header (ours w h).start rest refl

pub header-back : (w : ℕ) → is_size w ≡ true → (h : ℕ) → is_size h ≡ true → Back w h
unfolding digits decimal header_text digit plain with_byte read_from header_of
header-back =
    size-cases (λ w. (h : ℕ) → is_size h ≡ true → Back w h)
    (size-cases (Back 4) (back 4 4) (back 4 8) (back 4 16) (back 4 32))
    (size-cases (Back 8) (back 8 4) (back 8 8) (back 8 16) (back 8 32))
    (size-cases (Back 16) (back 16 4) (back 16 8) (back 16 16) (back 16 32))
    (size-cases (Back 32) (back 32 4) (back 32 8) (back 32 16) (back 32 32))
