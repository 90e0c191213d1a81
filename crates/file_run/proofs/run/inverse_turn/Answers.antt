-- The part that was read is what the block is run on. Assumes nothing.
use Rattle.std.proofs.Common.{◌≡◌, List, ℤ, ap, ◌∙◌, ◌*◌, ◌/◌, length, arith}
use lib.ListN.{length-append, length-take}
use Rattle.file_run.specs.Run.{inverse_turn}
use Rattle.file_fields.proofs.Body.{half, half-most}
use Rattle.file_numbers.proofs.Half.{half-long, read-front}
use Rattle.file_run.proofs.Turns.{same_turn, at_most, zero-part}
use Rattle.file_run.proofs.run.inverse_turn.Goals as goal

pub slice_bounds-coefficients-end : goal.slice_bounds-coefficients-end
slice_bounds-coefficients-end c = omega (arith, half-most c.args.shape c.args.body.now c.requires.0, c.narrow_zeros-coefficients.ensures.0)

pub slice_bounds-read_numbers-end : goal.slice_bounds-read_numbers-end
slice_bounds-read_numbers-end c = simp length-take (omega (arith, half-most c.args.shape c.args.body.now c.requires.0, c.narrow_zeros-coefficients.ensures.0))

pub read_numbers-requires : goal.read_numbers-requires
read_numbers-requires c =
    simp length-take (omega (arith, half-most c.args.shape c.args.body.now c.requires.0, c.narrow_zeros-coefficients.ensures.0, c.requires.0.long))

pub slice_bounds-coefficients-end-2 : goal.slice_bounds-coefficients-end-2
slice_bounds-coefficients-end-2 c =
    let sh = c.args.shape in
    simp length-append (omega (arith, ap length c.read_numbers.ensures ∙ half-long (sh.width * sh.height) c.args.body.now c.requires.0.long))

pub slice_bounds-inverse_line-end : goal.slice_bounds-inverse_line-end
slice_bounds-inverse_line-end c =
    let sh = c.args.shape in
    simp (length-take, length-append) (omega (arith, ap length c.read_numbers.ensures ∙ half-long (sh.width * sh.height) c.args.body.now c.requires.0.long))

pub slice_bounds-residuals-end : goal.slice_bounds-residuals-end
slice_bounds-residuals-end c = omega (arith, half-most c.args.shape c.args.body.now c.requires.0, c.wide_zeros-residuals.ensures.0)

pub slice_bounds-inverse_line-end-2 : goal.slice_bounds-inverse_line-end-2
slice_bounds-inverse_line-end-2 c = simp length-take (omega (arith, half-most c.args.shape c.args.body.now c.requires.0, c.wide_zeros-residuals.ensures.0))

pub inverse_line-requires : goal.inverse_line-requires
inverse_line-requires c =
    let sh = c.args.shape in
    let body = c.args.body.now in
    let z = c.wide_zeros-residuals in
    let m = half-most sh body c.requires.0 in
    (zero-part sh _ z.result (half sh body c.requires.0) (omega (arith, m, z.ensures.0)) z.ensures.1, c.requires.1, simp length-take (omega (arith, m, z.ensures.0, c.requires.2)))

pub returns : goal.returns
returns c =
    let a = c.args in
    let body = a.body.now in
    let z = c.wide_zeros-residuals.result in
    let read = read-front (a.shape.width * a.shape.height) body _ _ c.requires.0.long c.read_numbers.ensures in
    at_most (same_turn (ap (λ (l : List ℤ). inverse_turn a.shape l a.offset a.next) read) c.inverse_line.ensures)
    (omega (arith, length-take (length body / 2) z, c.requires.0.long))
