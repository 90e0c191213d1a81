-- The part that was read is what the parts are of. Assumes nothing.
use Rattle.std.proofs.Common.{◌≡◌, List, ℤ, ap, ◌∙◌, ◌*◌, ◌/◌, length, arith}
use lib.ListN.{length-append, length-take}
use Rattle.why.specs.Why.{why_outcome}
use Rattle.file_fields.proofs.Body.{half-most}
use Rattle.file_numbers.proofs.Half.{half-long, read-front}
use Rattle.file_why.proofs.named.body_parts.Goals as goal

pub slice_bounds-coefficients-end : goal.slice_bounds-coefficients-end
slice_bounds-coefficients-end c = omega (arith, half-most c.args.shape c.args.body.now c.requires, c.narrow_zeros-coefficients.ensures)

pub slice_bounds-read_numbers-end : goal.slice_bounds-read_numbers-end
slice_bounds-read_numbers-end c = simp length-take (omega (arith, half-most c.args.shape c.args.body.now c.requires, c.narrow_zeros-coefficients.ensures))

pub read_numbers-requires : goal.read_numbers-requires
read_numbers-requires c =
    simp length-take (omega (arith, half-most c.args.shape c.args.body.now c.requires, c.narrow_zeros-coefficients.ensures, c.requires.long))

pub slice_bounds-coefficients-end-2 : goal.slice_bounds-coefficients-end-2
slice_bounds-coefficients-end-2 c =
    let sh = c.args.shape in
    simp length-append (omega (arith, ap length c.read_numbers.ensures ∙ half-long (sh.width * sh.height) c.args.body.now c.requires.long))

pub slice_bounds-parts-end : goal.slice_bounds-parts-end
slice_bounds-parts-end c =
    let sh = c.args.shape in
    simp (length-take, length-append) (omega (arith, ap length c.read_numbers.ensures ∙ half-long (sh.width * sh.height) c.args.body.now c.requires.long))

pub returns : goal.returns
returns c =
    let a = c.args in
    let read = read-front (a.shape.width * a.shape.height) a.body.now _ _ c.requires.long c.read_numbers.ensures in
    c.parts.ensures ∙ ap (λ (l : List ℤ). why_outcome a.shape l a.place) read
