-- `first_beyond` meets its contract: every place that the hunt has passed is in the range. Assumes nothing.
use borrow.Author.Rules.{rules}
use borrow.Author.Tests.{tests}
use mathlib.Core.Path.{sym, ap, ◌∙◌}
use native.Mathlib.Nat.{zero-add}
use lib.ListN.{length}
use Rattle.std.proofs.lemmas.Iterator.{YieldsList-from_slice}
use Rattle.std.proofs.lemmas.Iterator.Search.{position_from_yields_List}
use Rattle.algebra.specs.First.{found}
use Rattle.meaning.specs.Plan.{range_of}
use Rattle.meaning.specs.Long.{beyond}
use Rattle.long_stages.proofs.Finds.{first_counted}
use Rattle.long_stages.proofs.hunt.first_beyond.Goals as goal

pub returns : goal.returns
returns c =
    let l = c.args.c.now in
    let test = beyond (range_of c.args.reach) in
    position_from_yields_List test _ _ c.position.result c.position.ensures.ran (YieldsList-from_slice l cc) (λ x b q k. search (rules, tests))
    ∙ ap (found (length l)) (sym (zero-add _) ∙ sym (first_counted test 0 l))
