use Rattle.std.proofs.Common.{rules, tests, ◌≡◌, refl, ap, ◌∙◌, Bool, ◌||◌, List, [], ◌∷◌, ℤ}
use Rattle.std.specs.List.{list_any}
use Rattle.std.proofs.lemmas.Iterator.{YieldsList-from_slice}
use Rattle.std.proofs.lemmas.Iterator.Search.{any_from_yields_List}
use Rattle.meaning.specs.Plan.{short_range}
use Rattle.meaning.specs.Long.{beyond}
use Rattle.picture_samples.specs.Samples.{any_beyond}
use Rattle.picture_samples.proofs.put.any_beyond.Goals as goal

listed : (zs : List ℤ) → list_any (beyond short_range) zs ≡ any_beyond zs
unfolding any_beyond
listed [] = refl
listed (z ∷ zs) = ap (λ (b : Bool). beyond short_range z || b) (listed zs)

pub returns : goal.returns
returns c =
    any_from_yields_List (beyond short_range) _ _ c.any.result c.any.ensures.ran (YieldsList-from_slice c.args.residuals.now cc) (λ x b q k. search (rules, tests))
    ∙ listed c.args.residuals.now
