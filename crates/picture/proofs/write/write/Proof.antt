-- `write` meets its contract: what is known behind each test, then each way out. Assumes nothing.
use mathlib.Core.Path.{◌≡◌, sym, ◌∙◌}
use mathlib.Core.Bool.{true, false}
use mathlib.Core.List.{List}
use Prim.Native.Nat.{ℕ, ◌+◌, ◌*◌, ◌≤◌, ◌<◌}
use native.Mathlib.Omega.{arith}
use borrow.Author.Tests.{eq-eqb, ne_eqb, lt-ltb, le-ltb}
use lib.ListN.{length}
use Rattle.meaning.specs.Shape.{is_size}
use Rattle.file_text.proofs.Writing.{and_then}
use Rattle.picture_samples.specs.Samples.{any_beyond}
use Rattle.picture.specs.Picture.{picture_of}
use Rattle.picture.proofs.Lengths.{elements, header-length, picture-parts, at-start}
use borrow.Author.Rules.{rules}
use Rattle.picture.proofs.write.write.Statement.{statement}
use Rattle.picture.proofs.write.write.Tie as tie

-- behind each test: where the call started, and what the test says
abbrev start1 : tie.Else-not-is_size → tie.Start
start1 c = c.before.before.before

abbrev start2 : tie.Else-not-is_size-2 → tie.Start
start2 c = start1 c.before.before

abbrev start3 : tie.Else-residuals-count → tie.Start
start3 c = start2 c.before

abbrev start4 : tie.Else-any_beyond → tie.Start
start4 c = start3 c.before.before

wide : (c : tie.Else-not-is_size) → is_size (start1 c).args.width ≡ true
wide c = sym c.before.is_size.ensures ∙ c.if-not-is_size.false

high : (c : tie.Else-not-is_size-2) → is_size (start2 c).args.height ≡ true
high c = sym c.before.is_size-2.ensures ∙ c.if-not-is_size-2.false

count-in : (c : tie.Else-not-is_size-2) → let a = (start2 c).args in (16 ≤ a.width * a.height) × (a.width * a.height ≤ 1024)
count-in c = elements (start2 c).args.width (start2 c).args.height (wide c.before.before) (high c)

long : (c : tie.Else-residuals-count) → let a = (start3 c).args in length a.residuals.now ≡ a.width * a.height
long c = c.if-residuals-count.false

none-beyond : (c : tie.Else-any_beyond) → any_beyond (start4 c).args.residuals.now ≡ false
none-beyond c = sym c.before.any_beyond.ensures ∙ c.if-any_beyond.false

abbrev picture : tie.Else-any_beyond → List ℕ
picture c = let a = (start4 c).args in picture_of a.width a.height a.residuals.now

-- the length that was worked out is that of the picture
picture-long : (c : tie.After-digits_of-2) → let a = (start4 c.before.before).args in
    length (picture c.before.before) ≡ c.before.digits_of.result + c.digits_of-2.result + 11 + 2 * (a.width * a.height)
picture-long c =
    let a = (start4 c.before.before).args in
    omega (arith, picture-parts a.width a.height a.residuals.now, header-length a.width a.height, long c.before.before.before.before, c.before.digits_of.ensures, c.digits_of-2.ensures)

no_room : (c : tie.Then-file-bytes) → let e = c.before.before.before in length (start4 e).args.file.now < length (picture e)
no_room c = omega (arith, picture-long c.before, c.if-file-bytes.true)

room : (c : tie.Else-file-bytes) → let e = c.before.before.before in length (picture e) ≤ length (start4 e).args.file.now
room c = omega (arith, picture-long c.before, c.if-file-bytes.false)

is-size-requires : tie.Need-is_size-requires
is-size-requires c κs = search rules

refused-requires : tie.Need-refused-requires
refused-requires c κs = search rules

returns : tie.Need-returns-then-not-is_size
returns c = rw (c.refused.ensures, sym c.before.before.is_size.ensures ∙ c.before.if-not-is_size.true)

is-size-requires-2 : tie.Need-is_size-requires-2
is-size-requires-2 c κs = search rules

refused-requires-2 : tie.Need-refused-requires-then-not-is_size-2
refused-requires-2 c κs = search rules

returns-2 : tie.Need-returns-then-not-is_size-2
returns-2 c =
    let e = c.before.before.before in
    rw (c.refused-then-not-is_size-2.ensures, wide e, sym c.before.before.is_size-2.ensures ∙ c.before.if-not-is_size-2.true)

mul-count : tie.Need-overflow_mul-count
mul-count c = record { fits = omega (arith, count-in c) }

refused-requires-3 : tie.Need-refused-requires-then-residuals-count
refused-requires-3 c κs = search rules

returns-3 : tie.Need-returns-then-residuals-count
returns-3 c =
    let e = c.before.before in
    rw (c.refused-then-residuals-count.ensures, wide e.before.before, high e, ne_eqb _ _ c.before.if-residuals-count.true)

any-beyond-requires : tie.Need-any_beyond-requires
any-beyond-requires c κs = search rules

refused-requires-4 : tie.Need-refused-requires-then-any_beyond
refused-requires-4 c κs = search rules

returns-4 : tie.Need-returns-then-any_beyond
returns-4 c =
    let e = c.before.before.before in
    rw (c.refused-then-any_beyond.ensures, wide e.before.before.before, high e.before, eq-eqb _ _ (long e), sym c.before.before.any_beyond.ensures ∙ c.before.if-any_beyond.true)

digits-of-requires : tie.Need-digits_of-requires
digits-of-requires c κs = wide c.before.before.before.before.before

digits-of-requires-2 : tie.Need-digits_of-requires-2
digits-of-requires-2 c κs = high c.before.before.before.before

add-bytes : tie.Need-overflow_add-bytes
add-bytes c = search rules

add-bytes-2 : tie.Need-overflow_add-bytes-2
add-bytes-2 c = search rules

mul-bytes : tie.Need-overflow_mul-bytes
mul-bytes c = record { fits = omega (arith, count-in c.before.before.before.before.before) }

add-bytes-3 : tie.Need-overflow_add-bytes-3
add-bytes-3 c = record { fits = omega (arith, count-in c.before.before.before.before.before) }

refused-requires-5 : tie.Need-refused-requires-then-file-bytes
refused-requires-5 c κs = search rules

returns-5 : tie.Need-returns-then-file-bytes
returns-5 c =
    let e = c.before.before.before.before in
    let e3 = e.before.before in
    rw (c.refused-then-file-bytes.ensures, wide e3.before.before.before, high e3.before, eq-eqb _ _ (long e3), none-beyond e, lt-ltb _ _ (no_room c.before))

put-header-requires : tie.Need-put_header-start-requires
put-header-requires c κs =
    let e = c.before.before.before.before in
    omega (arith, c.before.if-file-bytes.false, count-in e.before.before.before)

put-samples-requires : tie.Need-put_samples-end-requires
put-samples-requires c κs =
    let e5 = c.before.before.before.before.before in
    let e = e5.before.before.before in
    let a = (start4 e).args in
    (none-beyond e, omega (arith, room e5, picture-parts a.width a.height a.residuals.now, c.before.before.before.put_header-start.ensures.next))

cast-t21 : tie.Need-overflow_cast-result
cast-t21 c =
    let e = c.before.before.before.before.before.before.before.before.before.before.before in
    record { fits = omega (arith, c.before.before.before.before.before.before.put_header-start.ensures.room, c.before.before.put_samples-end.ensures.room, long e.before.before, count-in e.before.before.before) }

same_length : tie.Need-shape_of-file
same_length c = search rules

returns-6 : tie.Need-returns
unfolding picture_of
returns-6 c =
    let e5 = c.before.before.before.before.before.before.before.before in
    let e = e5.before.before.before in
    let e3 = e.before.before in
    let s = at-start (and_then c.before.before.before.before.before.before.put_header-start.ensures c.before.before.put_samples-end.ensures) in
    rw (wide e3.before.before.before, high e3.before, eq-eqb _ _ (long e3), none-beyond e, le-ltb _ _ (room e5)) (λ i. (record { number = 0; bytes = s.0 i }, s.1 i))

pub write_spec : {M : Type 1} → statement M
write_spec =
    tie.close
    (tie.spec
    is-size-requires
    refused-requires
    returns
    is-size-requires-2
    refused-requires-2
    returns-2
    mul-count
    refused-requires-3
    returns-3
    any-beyond-requires
    refused-requires-4
    returns-4
    digits-of-requires
    digits-of-requires-2
    add-bytes
    add-bytes-2
    mul-bytes
    add-bytes-3
    refused-requires-5
    returns-5
    put-header-requires
    put-samples-requires
    cast-t21
    same_length
    returns-6)
