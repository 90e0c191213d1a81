-- What `write` hands back, and the offset. Assumes nothing.
use Rattle.std.proofs.Common.{List, ℕ, ap}
use Rattle.picture.specs.declared.write.Written.{Written}
use Rattle.file_picture.proofs.shown.drawn.Goals as goal

pub returns : goal.returns
returns c =
    let offset = c.args.offset in
    ap (λ (x : Written × List ℕ). (record { number = x.0.number; offset = offset; bytes = x.0.bytes }, x.1)) c.write-written.ensures
