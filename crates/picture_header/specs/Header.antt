-- Document 02, Wish 11: "Reading takes comments and any white space that the format allows in the header." The header of a
-- graymap as the format has it and the Netpbm tools take it, byte by byte: P5, the width, the height, the maximum value, white
-- space between them, and one byte of white space behind the last.
use Rattle.std.specs.Prelude.{Bool, true, false, cond, not, ◌&&◌, ◌||◌, List, [], ◌∷◌, ℕ, suc, ◌+◌, ◌*◌, ◌-◌, min, eqb, ltb, leb, drop, get_or}
use Rattle.meaning.specs.Shape.{is_size}
use Rattle.picture_header.specs.declared.Header.{Header}
use Rattle.picture_header.specs.declared.FoundHeader.{FoundHeader}

-- white space is blank, tab, line feed and carriage return, and no other byte
abbrev pub ends_line : ℕ → Bool
ends_line b = eqb b 10 || eqb b 13

abbrev pub is_space : ℕ → Bool
is_space b = eqb b 32 || (eqb b 9 || ends_line b)

abbrev pub is_digit : ℕ → Bool
is_digit b = leb 48 b && leb b 57

-- P5 was read, and goes on until white space ends it
abbrev pub behind_p5 : Header
behind_p5 = record { part = 0; going = true; comment = false; width = 0; height = 0; maximum = 0 }

abbrev pub none : Header
none = record { part = 4; going = false; comment = false; width = 0; height = 0; maximum = 0 }

-- the maximum value has ended, by the one byte of white space behind it; or this is no header
abbrev pub ended : Header → Bool
ended s = not (ltb s.part 3) && not s.going

-- white space ends a part
abbrev pub white : Header → Header
white s = record { part = s.part; going = false; comment = false; width = s.width; height = s.height; maximum = s.maximum }

abbrev pub commented : Header → Header
commented s = record { part = s.part; going = s.going; comment = true; width = s.width; height = s.height; maximum = s.maximum }

-- a digit more of a number; leading zeros are taken. 65536 stands for any number above 65535: none is a size or the maximum
abbrev pub more : ℕ → ℕ → ℕ
more n d = min 65536 (n * 10 + d)

-- the number n of part `mine`, where a digit of part `part` is read
abbrev pub with_digit : ℕ → ℕ → ℕ → ℕ → ℕ
with_digit mine part n d = cond (eqb mine part) (more n d) n

-- a digit goes on with the part that goes on, and else begins the next
abbrev pub part_of : Header → ℕ
part_of s = cond s.going s.part (s.part + 1)

-- a digit straight behind P5 makes another word of it
unfoldable pub digit : Header → ℕ → Header
digit s d =
    let part = part_of s in
    cond (eqb part 0) none
    (record {
      part = part;
      going = true;
      comment = false;
      width = with_digit 1 part s.width d;
      height = with_digit 2 part s.height d;
      maximum = with_digit 3 part s.maximum d;
    })

-- a byte outside comments: # starts one
unfoldable pub plain : Header → ℕ → Header
plain s b = cond (eqb b 35) (commented s) (cond (is_space b) (white s) (cond (is_digit b) (digit s (b - 48)) none))

-- a comment runs to the end of its line, and counts as that end: as white space
unfoldable pub with_byte : Header → ℕ → Header
with_byte s b = cond s.comment (cond (ends_line b) (white s) s) (plain s b)

-- from a place on, with what was read before it
unfoldable pub read_from : Header → ℕ → List ℕ → FoundHeader
read_from s at [] = record { header = s; start = at }
read_from s at (b ∷ bs) = cond (ended s) (record { header = s; start = at }) (read_from (with_byte s b) (suc at) bs)

-- "P5"
abbrev pub is_p5 : List ℕ → Bool
is_p5 file = eqb (get_or file 0 0) 80 && eqb (get_or file 1 0) 53

-- the header of a file, and the place at which its samples start
unfoldable pub header_of : List ℕ → FoundHeader
header_of file = cond (is_p5 file) (read_from behind_p5 2 (drop 2 file)) (record { header = none; start = 0 })

-- "such a graymap", with sizes that 1 and 2 would not refuse: whole, and with the maximum value 65535
unfoldable pub is_picture : Header → Bool
is_picture s = eqb s.part 3 && (not s.going && (eqb s.maximum 65535 && (is_size s.width && is_size s.height)))
