-- 14 comes first. Assumes nothing.
use borrow.Author.Tests.{lt-ltb, le-ltb}
use Rattle.std.proofs.Common.{length}
use Rattle.file_fields.specs.Cursor.{found_at}
use Rattle.file_fields.proofs.field.found.Goals as goal

pub returns-then-file-gt65536 : goal.returns-then-file-gt65536
unfolding found_at
returns-then-file-gt65536 c = simp (lt-ltb 65536 (length c.args.file.now) c.if-file-gt65536.true)

pub returns : goal.returns
unfolding found_at
returns c = simp (le-ltb 65536 (length c.args.file.now) c.if-file-gt65536.false) c.field_at.ensures
