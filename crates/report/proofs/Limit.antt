-- "22 for one block too many, totals unchanged": what is given beyond 65,536 blocks changes no total. Assumes nothing.
use Rattle.std.proofs.Common.{◌≡◌, ℕ, ◌≤◌, List, [], ◌∷◌, ◌++◌, length, refl, ap, ◌∙◌, arith}
use Rattle.meaning.specs.declared.Answer.{Answer}
use Rattle.report.specs.Totals.{empty, total, given_place}
use Rattle.report.specs.Given.{GivenBlock, after_all, totals_of}
use Rattle.report.proofs.Counting.{add-limit}
use Rattle.report.proofs.Cells.{with_block}
use Rattle.report.proofs.Report.{given-total}

pub after-append : (xs ys : List GivenBlock) (t : List ℕ) → after_all t (xs ++ ys) ≡ after_all (after_all t xs) ys
unfolding after_all
after-append [] ys t = refl
after-append (x ∷ xs) ys t = after-append xs ys (with_block t x)

pub full : (bs : List GivenBlock) (t : List ℕ) → 65536 ≤ total t given_place → after_all t bs ≡ t
unfolding after_all
full [] t h = refl
full (b ∷ bs) t h =
    let e : with_block t b ≡ t = ap (λ (o : Answer × List ℕ). o.1) (add-limit t b.shape b.residuals h) in
    ap (λ (u : List ℕ). after_all u bs) e ∙ full bs t h

pub beyond : (xs ys : List GivenBlock) → length xs ≡ 65536 → totals_of (xs ++ ys) ≡ totals_of xs
beyond xs ys e = after-append xs ys empty ∙ full ys (totals_of xs) (omega (arith, given-total xs (omega (arith, e)), e))
