-- Document 02, Wish 11: "a binary graymap of the Netpbm family (P5) with maximum value 65535".
use Rattle.std.specs.Prelude.{List, [], ◌∷◌, ◌++◌, ℕ, ℤ}
use Rattle.file_text.specs.Text.{decimal}
use Rattle.picture_samples.specs.Samples.{samples}

-- a number, and the byte behind it
abbrev pub number : ℕ → ℕ → List ℕ
number n end = decimal n ++ (end ∷ [])

-- "The header is written as P5, then w and h, then 65535: lines ended by byte 0A, one space inside"
unfoldable pub header_text : ℕ → ℕ → List ℕ
header_text w h = 80 ∷ 53 ∷ 10 ∷ (number w 32 ++ (number h 10 ++ number 65535 10))

unfoldable pub picture_of : ℕ → ℕ → List ℤ → List ℕ
picture_of w h zs = header_text w h ++ samples zs
