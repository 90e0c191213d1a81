use Rattle.std.proofs.Common.{sym, ◌∙◌}
use Rattle.block_row.proofs.Spans.{span-sized, span-wide, span-high}
use Rattle.block_row.proofs.row.span_of.Goals as goal
use Rattle.block_row.proofs.row.span_of.Goals.{else-is_size-via-then-is_size+else-is_size-2, else-is_size-via-else-is_size}

pub returns-then-is_size-2 : goal.returns-then-is_size-2
returns-then-is_size-2 c =
    sym (span-sized c.args.shape (sym c.is_size.ensures ∙ c.if-is_size.true) (sym c.is_size-then-is_size.ensures ∙ c.if-is_size-2.true))

pub returns-else-is_size : goal.returns-else-is_size
returns-else-is_size c =
    elim c.else-is_size.branch [
      | else-is_size-via-then-is_size+else-is_size-2 w ↦ sym (span-high c.args.shape (sym c.is_size.ensures ∙ w.if-is_size.true) (sym w.is_size-then-is_size.ensures ∙ w.if-is_size-2.false))
      | else-is_size-via-else-is_size w ↦ sym (span-wide c.args.shape (sym c.is_size.ensures ∙ w.if-is_size.false))
    ]
