-- The part that was read is what is drawn. Assumes nothing.
use Rattle.std.proofs.Common.{◌≡◌, List, ℤ, ap, ◌∙◌, ◌*◌, ◌/◌, length, arith}
use lib.ListN.{length-append, length-take}
use Rattle.file_picture.specs.Shown.{drawn_at}
use Rattle.file_fields.proofs.Body.{half-most}
use Rattle.file_numbers.proofs.Half.{half-long, read-front}
use Rattle.file_picture.proofs.shown.forward_shown.Goals as goal

pub slice_bounds-residuals-end : goal.slice_bounds-residuals-end
slice_bounds-residuals-end c = omega (arith, half-most c.args.shape c.args.body.now c.requires, c.wide_zeros-residuals.ensures.0)

pub slice_bounds-read_wide_numbers-end : goal.slice_bounds-read_wide_numbers-end
slice_bounds-read_wide_numbers-end c = simp length-take (omega (arith, half-most c.args.shape c.args.body.now c.requires, c.wide_zeros-residuals.ensures.0))

pub read_wide_numbers-requires : goal.read_wide_numbers-requires
read_wide_numbers-requires c =
    simp length-take (omega (arith, half-most c.args.shape c.args.body.now c.requires, c.wide_zeros-residuals.ensures.0, c.requires.long))

pub slice_bounds-residuals-end-2 : goal.slice_bounds-residuals-end-2
slice_bounds-residuals-end-2 c =
    let sh = c.args.shape in
    simp length-append (omega (arith, ap length c.read_wide_numbers.ensures ∙ half-long (sh.width * sh.height) c.args.body.now c.requires.long))

pub slice_bounds-drawn-end : goal.slice_bounds-drawn-end
slice_bounds-drawn-end c =
    let sh = c.args.shape in
    simp (length-take, length-append) (omega (arith, ap length c.read_wide_numbers.ensures ∙ half-long (sh.width * sh.height) c.args.body.now c.requires.long))

pub returns : goal.returns
returns c =
    let a = c.args in
    let out = a.picture.now in
    let read = read-front (a.shape.width * a.shape.height) a.body.now _ _ c.requires.long c.read_wide_numbers.ensures in
    c.drawn.ensures ∙ ap (λ (l : List ℤ). drawn_at a.shape l a.offset out) read
