-- The part that was read is what the block is run on. Assumes nothing.
use Rattle.std.proofs.Common.{◌≡◌, List, ℤ, ap, ◌∙◌, ◌*◌, ◌/◌, length, arith}
use lib.ListN.{length-append, length-take}
use Rattle.file_picture.specs.Shown.{inverse_shown}
use Rattle.file_fields.proofs.Body.{half, half-most}
use Rattle.file_numbers.proofs.Half.{half-long, read-front}
use Rattle.file_run.proofs.Turns.{zero-part}
use Rattle.file_picture.proofs.shown.inverse_shown.Goals as goal

pub slice_bounds-coefficients-end : goal.slice_bounds-coefficients-end
slice_bounds-coefficients-end c = omega (arith, half-most c.args.shape c.args.body.now c.requires, c.narrow_zeros-coefficients.ensures)

pub slice_bounds-read_numbers-end : goal.slice_bounds-read_numbers-end
slice_bounds-read_numbers-end c = simp length-take (omega (arith, half-most c.args.shape c.args.body.now c.requires, c.narrow_zeros-coefficients.ensures))

pub read_numbers-requires : goal.read_numbers-requires
read_numbers-requires c =
    simp length-take (omega (arith, half-most c.args.shape c.args.body.now c.requires, c.narrow_zeros-coefficients.ensures, c.requires.long))

pub slice_bounds-coefficients-end-2 : goal.slice_bounds-coefficients-end-2
slice_bounds-coefficients-end-2 c =
    let sh = c.args.shape in
    simp length-append (omega (arith, ap length c.read_numbers.ensures ∙ half-long (sh.width * sh.height) c.args.body.now c.requires.long))

pub slice_bounds-inverse_drawn-end : goal.slice_bounds-inverse_drawn-end
slice_bounds-inverse_drawn-end c =
    let sh = c.args.shape in
    simp (length-take, length-append) (omega (arith, ap length c.read_numbers.ensures ∙ half-long (sh.width * sh.height) c.args.body.now c.requires.long))

pub slice_bounds-residuals-end : goal.slice_bounds-residuals-end
slice_bounds-residuals-end c = omega (arith, half-most c.args.shape c.args.body.now c.requires, c.wide_zeros-residuals.ensures.0)

pub slice_bounds-inverse_drawn-end-2 : goal.slice_bounds-inverse_drawn-end-2
slice_bounds-inverse_drawn-end-2 c = simp length-take (omega (arith, half-most c.args.shape c.args.body.now c.requires, c.wide_zeros-residuals.ensures.0))

pub inverse_drawn-requires : goal.inverse_drawn-requires
inverse_drawn-requires c =
    let sh = c.args.shape in
    let body = c.args.body.now in
    let z = c.wide_zeros-residuals in
    zero-part sh _ z.result (half sh body c.requires) (omega (arith, half-most sh body c.requires, z.ensures.0)) z.ensures.1

pub returns : goal.returns
returns c =
    let a = c.args in
    let out = a.picture.now in
    let read = read-front (a.shape.width * a.shape.height) a.body.now _ _ c.requires.long c.read_numbers.ensures in
    c.inverse_drawn.ensures ∙ ap (λ (l : List ℤ). inverse_shown a.shape l a.offset out) read
