-- What headers give, one variant to a line: the width, the height, the maximum value and the place of the samples. The Netpbm
-- tools take them so, but where a line says otherwise. Assumes nothing.
use mathlib.Core.Path.{◌≡◌, refl}
use mathlib.Core.Bool.{cond, not, ◌&&◌}
use mathlib.Core.List.{List, [], ◌∷◌, map}
use Prim.Native.Nat.{ℕ}
use lib.Dec.{eqb}
use Rattle.picture_header.specs.declared.FoundHeader.{FoundHeader}
use Rattle.picture_header.specs.Header.{digit, plain, with_byte, read_from, header_of}

pub data Says : Type 0 where
  none : Says
  got : ℕ → ℕ → ℕ → ℕ → Says

abbrev pub says : FoundHeader → Says
says f =
    let s = f.header in
    cond (eqb s.part 3 && not s.going) (got s.width s.height s.maximum f.start) none

-- a variant, and what it gives
abbrev pub Case : Type 0
Case = List ℕ × Says

abbrev pub variants : List Case
variants =
    -- plain
    (80 ∷ 53 ∷ 10 ∷ 52 ∷ 32 ∷ 52 ∷ 10 ∷ 54 ∷ 53 ∷ 53 ∷ 51 ∷ 53 ∷ 10 ∷ [], got 4 4 65535 13)
    -- blanks only
    ∷ (80 ∷ 53 ∷ 32 ∷ 52 ∷ 32 ∷ 52 ∷ 32 ∷ 54 ∷ 53 ∷ 53 ∷ 51 ∷ 53 ∷ 32 ∷ [], got 4 4 65535 13)
    -- tabs only
    ∷ (80 ∷ 53 ∷ 9 ∷ 52 ∷ 9 ∷ 52 ∷ 9 ∷ 54 ∷ 53 ∷ 53 ∷ 51 ∷ 53 ∷ 9 ∷ [], got 4 4 65535 13)
    -- CR as line end
    ∷ (80 ∷ 53 ∷ 13 ∷ 52 ∷ 32 ∷ 52 ∷ 13 ∷ 54 ∷ 53 ∷ 53 ∷ 51 ∷ 53 ∷ 13 ∷ [], got 4 4 65535 13)
    -- CR LF as line end
    ∷ (80 ∷ 53 ∷ 13 ∷ 10 ∷ 52 ∷ 32 ∷ 52 ∷ 13 ∷ 10 ∷ 54 ∷ 53 ∷ 53 ∷ 51 ∷ 53 ∷ 13 ∷ 10 ∷ [], got 4 4 65535 15)
    -- comment on a line of its own
    ∷ (80 ∷ 53 ∷ 10 ∷ 35 ∷ 32 ∷ 99 ∷ 10 ∷ 52 ∷ 32 ∷ 52 ∷ 10 ∷ 54 ∷ 53 ∷ 53 ∷ 51 ∷ 53 ∷ 10 ∷ [], got 4 4 65535 17)
    -- comment ended by CR
    ∷ (80 ∷ 53 ∷ 10 ∷ 35 ∷ 32 ∷ 99 ∷ 13 ∷ 52 ∷ 32 ∷ 52 ∷ 10 ∷ 54 ∷ 53 ∷ 53 ∷ 51 ∷ 53 ∷ 10 ∷ [], got 4 4 65535 17)
    -- comment after white space
    ∷ (80 ∷ 53 ∷ 10 ∷ 52 ∷ 32 ∷ 35 ∷ 32 ∷ 119 ∷ 10 ∷ 52 ∷ 10 ∷ 54 ∷ 53 ∷ 53 ∷ 51 ∷ 53 ∷ 10 ∷ [], got 4 4 65535 17)
    -- comment straight after a digit
    ∷ (80 ∷ 53 ∷ 10 ∷ 52 ∷ 35 ∷ 32 ∷ 119 ∷ 10 ∷ 52 ∷ 10 ∷ 54 ∷ 53 ∷ 53 ∷ 51 ∷ 53 ∷ 10 ∷ [], got 4 4 65535 16)
    -- comment within a number
    ∷ (80 ∷ 53 ∷ 10 ∷ 52 ∷ 32 ∷ 52 ∷ 10 ∷ 54 ∷ 53 ∷ 35 ∷ 10 ∷ 53 ∷ 51 ∷ 53 ∷ 10 ∷ [], got 4 4 65 11)
    -- comment straight after 65535
    ∷ (80 ∷ 53 ∷ 10 ∷ 52 ∷ 32 ∷ 52 ∷ 10 ∷ 54 ∷ 53 ∷ 53 ∷ 51 ∷ 53 ∷ 35 ∷ 32 ∷ 99 ∷ 10 ∷ [], got 4 4 65535 16)
    -- comment straight after 65535, then white space
    ∷ (80 ∷ 53 ∷ 10 ∷ 52 ∷ 32 ∷ 52 ∷ 10 ∷ 54 ∷ 53 ∷ 53 ∷ 51 ∷ 53 ∷ 35 ∷ 32 ∷ 99 ∷ 10 ∷ 10 ∷ [], got 4 4 65535 16)
    -- number sign after the last white space
    ∷ (80 ∷ 53 ∷ 10 ∷ 52 ∷ 32 ∷ 52 ∷ 10 ∷ 54 ∷ 53 ∷ 53 ∷ 51 ∷ 53 ∷ 32 ∷ 35 ∷ 32 ∷ 99 ∷ 10 ∷ [], got 4 4 65535 13)
    -- two white space bytes after 65535
    ∷ (80 ∷ 53 ∷ 10 ∷ 52 ∷ 32 ∷ 52 ∷ 10 ∷ 54 ∷ 53 ∷ 53 ∷ 51 ∷ 53 ∷ 10 ∷ 10 ∷ [], got 4 4 65535 13)
    -- leading zeros
    ∷ (80 ∷ 53 ∷ 10 ∷ 48 ∷ 48 ∷ 52 ∷ 32 ∷ 48 ∷ 48 ∷ 48 ∷ 52 ∷ 10 ∷ 48 ∷ 48 ∷ 54 ∷ 53 ∷ 53 ∷ 51 ∷ 53 ∷ 10 ∷ [], got 4 4 65535 20)
    -- no white space after P5; the tools take it
    ∷ (80 ∷ 53 ∷ 52 ∷ 32 ∷ 52 ∷ 10 ∷ 54 ∷ 53 ∷ 53 ∷ 51 ∷ 53 ∷ 10 ∷ [], none)
    -- comment straight after P5
    ∷ (80 ∷ 53 ∷ 35 ∷ 99 ∷ 10 ∷ 52 ∷ 32 ∷ 52 ∷ 10 ∷ 54 ∷ 53 ∷ 53 ∷ 51 ∷ 53 ∷ 10 ∷ [], got 4 4 65535 15)
    -- maximum value 255
    ∷ (80 ∷ 53 ∷ 10 ∷ 52 ∷ 32 ∷ 52 ∷ 10 ∷ 50 ∷ 53 ∷ 53 ∷ 10 ∷ [], got 4 4 255 11)
    -- maximum value 65536: 65536, or any larger, is no maximum value
    ∷ (80 ∷ 53 ∷ 10 ∷ 52 ∷ 32 ∷ 52 ∷ 10 ∷ 54 ∷ 53 ∷ 53 ∷ 51 ∷ 54 ∷ 10 ∷ [], got 4 4 65536 13)
    -- no white space behind 65535; the tools take a sample byte for it
    ∷ (80 ∷ 53 ∷ 10 ∷ 52 ∷ 32 ∷ 52 ∷ 10 ∷ 54 ∷ 53 ∷ 53 ∷ 51 ∷ 53 ∷ [], none)
    -- a letter behind 65535; the tools take it
    ∷ (80 ∷ 53 ∷ 10 ∷ 52 ∷ 32 ∷ 52 ∷ 10 ∷ 54 ∷ 53 ∷ 53 ∷ 51 ∷ 53 ∷ 120 ∷ [], none)
    -- vertical tab
    ∷ (80 ∷ 53 ∷ 11 ∷ 52 ∷ 32 ∷ 52 ∷ 10 ∷ 54 ∷ 53 ∷ 53 ∷ 51 ∷ 53 ∷ 10 ∷ [], none)
    -- a sign
    ∷ (80 ∷ 53 ∷ 10 ∷ 43 ∷ 52 ∷ 32 ∷ 52 ∷ 10 ∷ 54 ∷ 53 ∷ 53 ∷ 51 ∷ 53 ∷ 10 ∷ [], none)
    -- plain graymap, P2; the tools take it for what it is
    ∷ (80 ∷ 50 ∷ 10 ∷ 52 ∷ 32 ∷ 52 ∷ 10 ∷ 54 ∷ 53 ∷ 53 ∷ 51 ∷ 53 ∷ 10 ∷ [], none)
    -- comment between P and 5
    ∷ (80 ∷ 35 ∷ 10 ∷ 53 ∷ 32 ∷ 52 ∷ 32 ∷ 52 ∷ 32 ∷ 54 ∷ 53 ∷ 53 ∷ 51 ∷ 53 ∷ 10 ∷ [], none)
    -- comment that nothing ends
    ∷ (80 ∷ 53 ∷ 32 ∷ 52 ∷ 32 ∷ 52 ∷ 32 ∷ 54 ∷ 53 ∷ 53 ∷ 51 ∷ 53 ∷ 35 ∷ 32 ∷ 99 ∷ [], none)
    ∷ []

pub variants-hold : map (λ (v : Case). says (header_of v.0)) variants ≡ map (λ (v : Case). v.1) variants
unfolding digit plain with_byte read_from header_of
variants-hold = refl
