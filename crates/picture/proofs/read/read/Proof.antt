-- `read` meets its contract: what is known of the header that was found, then each way out. Assumes nothing.
use mathlib.Core.Path.{◌≡◌, sym, subst, ap, ◌∙◌}
use mathlib.Core.Bool.{true}
use mathlib.Core.List.{List}
use Prim.Native.Nat.{ℕ, ◌*◌, ◌≤◌}
use native.Mathlib.Omega.{arith}
use borrow.Author.Tests.{eq-eqb, ne_eqb}
use lib.ListN.{length, take, drop, length-drop}
use lib.Seq.{take-length}
use Rattle.picture_header.specs.declared.FoundHeader.{FoundHeader}
use Rattle.picture_header.specs.Header.{is_picture}
use Rattle.picture_header.proofs.Tests.{sides}
use Rattle.picture_header.proofs.Reading.{start-in}
use Rattle.picture.proofs.Lengths.{elements}
use borrow.Author.Rules.{rules}
use Rattle.picture.proofs.read.read.Statement.{statement}
use Rattle.picture.proofs.read.read.Tie as tie

abbrev count : FoundHeader → ℕ
count f = f.header.width * f.header.height

abbrev file : tie.After-header_of-found → List ℕ
file b = b.before.before.args.file.now

in-file : (b : tie.After-header_of-found) → b.header_of-found.result.start ≤ length (file b)
in-file b = subst (λ (x : FoundHeader). x.start ≤ length (file b)) (sym b.header_of-found.ensures) (start-in (file b))

-- past 24
abbrev found : tie.Else-not-is_picture → tie.After-header_of-found
found c = c.before.before.before

pictured : (c : tie.Else-not-is_picture) → is_picture (found c).header_of-found.result.header ≡ true
pictured c = sym c.before.is_picture.ensures ∙ c.if-not-is_picture.false

few : (c : tie.Else-not-is_picture) → count (found c).header_of-found.result ≤ 1024
few c = let d = sides (found c).header_of-found.result.header (pictured c) in (elements _ _ d.0 d.1).1

-- 25, and past it
abbrev behind : tie.After-header_of-found → List ℕ
behind b = drop b.header_of-found.result.start (file b)

abbrev Enough : tie.After-header_of-found → Type 0
Enough b = length (behind b) ≡ 2 * count b.header_of-found.result

not-enough : (c : tie.Then-file-start) → Enough (found c.before) → ⊥
not-enough c q = let b = found c.before in omega (arith, length-drop b.header_of-found.result.start (file b), c.if-file-start.true, q)

enough : (c : tie.Else-file-start) → Enough (found c.before)
enough c = let b = found c.before in omega (arith, length-drop b.header_of-found.result.start (file b), c.if-file-start.false)

header-of-requires : tie.Need-header_of-found-requires
header-of-requires c κs = search rules

is-picture-requires : tie.Need-is_picture-requires
is-picture-requires c κs = search rules

refused-requires : tie.Need-refused-requires
refused-requires c κs = search rules

returns : tie.Need-returns-then-not-is_picture
returns c =
    let b = c.before.before.before.before in
    rw (c.refused.ensures, ← b.header_of-found.ensures, sym c.before.before.is_picture.ensures ∙ c.before.if-not-is_picture.true)

cast-count : tie.Need-overflow_cast-count
cast-count c = search rules

cast-count-2 : tie.Need-overflow_cast-count-2
cast-count-2 c = search rules

mul-count : tie.Need-overflow_mul-count
mul-count c = record { fits = omega (arith, few c) }

sub-if2 : tie.Need-overflow_sub-file
sub-if2 c = omega (arith, in-file (found c))

mul-if2 : tie.Need-overflow_mul-count-2
mul-if2 c = record { fits = omega (arith, few c) }

refused-requires-2 : tie.Need-refused-requires-then-file-start
refused-requires-2 c κs = search rules

returns-2 : tie.Need-returns-then-file-start
returns-2 c =
    let e = c.before.before in
    rw (c.refused-then-file-start.ensures, ← (found e).header_of-found.ensures, pictured e, ne_eqb _ _ (not-enough c.before))

refused-requires-3 : tie.Need-refused-requires-then-residuals-count
refused-requires-3 c κs = search rules

returns-3 : tie.Need-returns-then-residuals-count
returns-3 c =
    let e = c.before.before in
    rw (c.refused-then-residuals-count.ensures, ← (found e.before).header_of-found.ensures, pictured e.before, eq-eqb _ _ (enough e), ne_eqb _ _ c.before.if-residuals-count.true)

sub-read-samples : tie.Need-slice_bounds-read_samples-count
sub-read-samples c = omega (arith, in-file (found c.before.before))

part-read-samples-start : tie.Need-slice_bounds-read_samples-start
part-read-samples-start c = omega (arith, in-file (found c.before.before))

part-read-samples-end : tie.Need-slice_bounds-read_samples-end
part-read-samples-end c = search rules

read-samples-requires : tie.Need-read_samples-requires
read-samples-requires c κs = search rules

same_length : tie.Need-shape_of-residuals
same_length c = search rules

returns-4 : tie.Need-returns
returns-4 c =
    let e3 = c.before.before.before.before in
    let b = found e3.before.before in
    let start = b.header_of-found.result.start in
    let part = ap (λ (k : ℕ). take k (behind b)) (sym (length-drop start (file b))) ∙ take-length (behind b) in
    rw (← b.header_of-found.ensures, pictured e3.before.before, eq-eqb _ _ (enough e3.before), eq-eqb _ _ e3.if-residuals-count.false, c.before.read_samples.ensures, part)

pub read_spec : {M : Type 1} → statement M
read_spec =
    tie.close
    (tie.spec
    header-of-requires
    is-picture-requires
    refused-requires
    returns
    cast-count
    cast-count-2
    mul-count
    sub-if2
    mul-if2
    refused-requires-2
    returns-2
    refused-requires-3
    returns-3
    sub-read-samples
    part-read-samples-start
    part-read-samples-end
    read-samples-requires
    same_length
    returns-4)
