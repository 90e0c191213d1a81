-- `running::line` meets its contract: each size has its table. Assumes nothing.
use Rattle.std.proofs.Common.{◌≡◌, sym, refl, ◌∙◌, arith, rules}
use Rattle.meaning.proofs.Cases.{thirty_two}
use Rattle.wrapping.proofs.StoredLine.{feed, is-line}
use Rattle.stage_weights.proofs.Rooms.{all-32}
use Rattle.wrapping.proofs.running.line.Statement.{statement}
use Rattle.wrapping.proofs.running.line.Tie as tie

-- the size that is none of the others
last : (c : tie.Start) → (c.args.n ≡ 4 → ⊥) → (c.args.n ≡ 8 → ⊥) → (c.args.n ≡ 16 → ⊥) → c.args.n ≡ 32
last c = thirty_two c.args.n c.requires.0.size

zipped-4-requires : tie.Need-zipped_4-t-requires
zipped-4-requires c κs = search rules

slice-aggregate-line-of : tie.Need-slice_bounds-line_of-end
slice-aggregate-line-of c = search rules

line-of-requires : tie.Need-line_of-requires
line-of-requires c κs =
    let S = c.before.before.before.before.before in
    (feed c.before.before.before.if-n-eq4.true 2 refl (omega arith) S.args.kind S.args.forward c.before.before.zipped_4-t.ensures S.args.x.now S.requires.0.long S.requires.1, S.requires.0.room ∙ sym S.requires.0.long)

zipped-8-requires : tie.Need-zipped_8-t-requires
zipped-8-requires c κs = search rules

slice-aggregate-line-of-2 : tie.Need-slice_bounds-line_of-end-then-n-eq8
slice-aggregate-line-of-2 c = search rules

line-of-requires-2 : tie.Need-line_of-requires-then-n-eq8
line-of-requires-2 c κs =
    let S = c.before.before.before.before.before.before in
    (feed c.before.before.before.if-n-eq8.true 4 refl (omega arith) S.args.kind S.args.forward c.before.before.zipped_8-t.ensures S.args.x.now S.requires.0.long S.requires.1, S.requires.0.room ∙ sym S.requires.0.long)

zipped-16-requires : tie.Need-zipped_16-t-requires
zipped-16-requires c κs = search rules

slice-aggregate-line-of-3 : tie.Need-slice_bounds-line_of-end-then-n-eq16
slice-aggregate-line-of-3 c = search rules

line-of-requires-3 : tie.Need-line_of-requires-then-n-eq16
line-of-requires-3 c κs =
    let S = c.before.before.before.before.before.before.before in
    (feed c.before.before.before.if-n-eq16.true 8 refl (omega arith) S.args.kind S.args.forward c.before.before.zipped_16-t.ensures S.args.x.now S.requires.0.long S.requires.1, S.requires.0.room ∙ sym S.requires.0.long)

put-1024-requires : tie.Need-put_1024-requires
put-1024-requires c κs = (c.before.before.before.before.before.requires.0.size, refl)

slice-aggregate-line-of-4 : tie.Need-slice_bounds-line_of-end-else-n-eq16
slice-aggregate-line-of-4 c = search rules

line-of-requires-4 : tie.Need-line_of-requires-else-n-eq16
line-of-requires-4 c κs =
    let S = c.before.before.before.before.before.before.before.before in
    let e = last S c.before.before.before.before.before.before.if-n-eq4.false c.before.before.before.before.before.if-n-eq8.false c.before.before.before.before.if-n-eq16.false in
    (feed e 16 refl (omega arith) S.args.kind S.args.forward (all-32 S.args.n S.args.kind S.args.forward e c.before.before.put_1024.ensures.1) S.args.x.now S.requires.0.long S.requires.1, S.requires.0.room ∙ sym S.requires.0.long)

same_length : tie.Need-shape_of-y-then-n-eq4
same_length c = search rules

returns : tie.Need-returns-then-n-eq4
returns c =
    let S = c.before.before.before.before.before.before.before in
    is-line c.before.before.before.before.before.if-n-eq4.true 2 refl (omega arith) S.args.kind S.args.forward c.before.before.before.before.zipped_4-t.ensures S.args.x.now S.requires.0.long _ c.before.line_of.ensures

same-length-2 : tie.Need-shape_of-y-then-n-eq8
same-length-2 c = search rules

returns-2 : tie.Need-returns-then-n-eq8
returns-2 c =
    let S = c.before.before.before.before.before.before.before.before in
    is-line c.before.before.before.before.before.if-n-eq8.true 4 refl (omega arith) S.args.kind S.args.forward c.before.before.before.before.zipped_8-t.ensures S.args.x.now S.requires.0.long _ c.before.line_of-then-n-eq8.ensures

same-length-3 : tie.Need-shape_of-y-then-n-eq16
same-length-3 c = search rules

returns-3 : tie.Need-returns-then-n-eq16
returns-3 c =
    let S = c.before.before.before.before.before.before.before.before.before in
    is-line c.before.before.before.before.before.if-n-eq16.true 8 refl (omega arith) S.args.kind S.args.forward c.before.before.before.before.zipped_16-t.ensures S.args.x.now S.requires.0.long _ c.before.line_of-then-n-eq16.ensures

same-length-4 : tie.Need-shape_of-y-else-n-eq16
same-length-4 c = search rules

returns-4 : tie.Need-returns-else-n-eq16
returns-4 c =
    let S = c.before.before.before.before.before.before.before.before.before.before in
    let e = last S c.before.before.before.before.before.before.before.before.if-n-eq4.false c.before.before.before.before.before.before.before.if-n-eq8.false c.before.before.before.before.before.before.if-n-eq16.false in
    is-line e 16 refl (omega arith) S.args.kind S.args.forward (all-32 S.args.n S.args.kind S.args.forward e c.before.before.before.before.put_1024.ensures.1) S.args.x.now S.requires.0.long _ c.before.line_of-else-n-eq16.ensures

pub line_spec : {M : Type 1} → statement M
line_spec =
    tie.close
    (tie.spec
    zipped-4-requires
    slice-aggregate-line-of
    line-of-requires
    zipped-8-requires
    slice-aggregate-line-of-2
    line-of-requires-2
    zipped-16-requires
    slice-aggregate-line-of-3
    line-of-requires-3
    put-1024-requires
    slice-aggregate-line-of-4
    line-of-requires-4
    same_length
    returns
    same-length-2
    returns-2
    same-length-3
    returns-3
    same-length-4
    returns-4)
