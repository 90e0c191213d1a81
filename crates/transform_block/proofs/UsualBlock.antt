-- The usual block: nothing refuses its fields, and where what is read has 16 bits, nothing refuses it at all. Assumes nothing.
use native.Mathlib.Omega.{arith}
use native.Mathlib.Nat.{mul-le-mul, zero-mul}
use mathlib.Core.Path.{◌≡◌, refl, sym, ap, ◌∙◌, subst}
use mathlib.Core.Bool.{Bool, true, false, not, cond, ◌&&◌, ◌||◌}
use mathlib.Core.List.{List}
use Prim.Native.Nat.{ℕ, ◌+◌, ◌*◌, ◌-◌, ◌≤◌, ◌<◌}
use borrow.Author.Tests.{eq-eqb, ne_eqb, le-leb}
use lib.Dec.{eqb, leb}
use lib.IntN.{ℤ, pos, negsuc}
use lib.ListN.{length}
use mir.Syntax.{w16}
use mir.Val.{SFits}
use Rattle.algebra.specs.Lists.{at, tabulate}
use Rattle.algebra.proofs.Order.{parts-le}
use Rattle.meaning.specs.Shape.{is_size, is_kind, is_depth, is_depth_to, most_kept, is_kept, keeps}
use Rattle.meaning.specs.Plan.{plan_of, range_of, reach}
use Rattle.meaning.specs.Taken.{Taken}
use Rattle.meaning.specs.Long.{beyond}
use Rattle.meaning.specs.Answer.{Outcome, accepted}
use Rattle.meaning.specs.Inverse.{rails, inverse_block}
use Rattle.meaning.proofs.Cases.{size-cases, size-some, size_in, depth-cases}
use Rattle.meaning.proofs.LongCall.{not_beyond}
use Rattle.dct2_block.specs.Alone.{flat_of}
use Rattle.transform_short.specs.Short.{dct2_shape, GivenQuick, Quick}
use Rattle.transform_block.specs.declared.TransformBlock.{TransformBlock}
use Rattle.transform_block.specs.TransformBlock.{is_block_side, is_pair, no_line, is_on, is_readable, has_low, is_corner, is_low, is_thin, reach_of, last_of, transform_plan, transformed, transform_outcome}
use Rattle.transform_block.specs.Given.{TakenFields, GivenWork, is_short, Flat, Plain, Usual}
use Rattle.transform_block.proofs.Accepted.{plain_done}
use Rattle.transform_block.proofs.FlatBlock.{flat-done}
use Rattle.transform_block.proofs.ShortBlock.{two, reach-15, same-plan, shaped}

side : (n : ℕ) → is_size n ≡ true → is_block_side n ≡ true
unfolding is_block_side is_size
side = size-cases (λ n. is_block_side n ≡ true) refl refl refl refl

lined : (kind n : ℕ) → is_size n ≡ true → no_line kind n ≡ false
lined kind = size-cases (λ n. no_line kind n ≡ false) refl refl refl refl

kept : (kind n k : ℕ) → kind ≡ 0 → is_size n ≡ true → (1 ≤ k) × (k ≤ n) → is_kept kind n k ≡ true
unfolding most_kept
kept kind n k e s h =
    let l : k ≤ most_kept kind n = rw (eq-eqb kind 0 e) (omega (arith, h, size_in n s)) in
    rw (le-leb 1 k h.0, le-leb k (most_kept kind n) l)

-- a number of 16 bits is in the range of 15
fit-inside : (z : ℤ) → SFits w16 z → beyond (range_of 15) z ≡ false
fit-inside (pos n) f = not_beyond (range_of 15) (pos n) (parts-le (negsuc 32767) (pos n) (omega arith)) (parts-le (pos n) (pos 32767) (omega (arith, f.sfits)))
fit-inside (negsuc n) f = not_beyond (range_of 15) (negsuc n) (parts-le (negsuc 32767) (negsuc n) (omega (arith, f.sfits))) (parts-le (negsuc n) (pos 32767) (omega arith))

module _ (b : TransformBlock) (c : List ℤ) (u : Usual b (length c)) where
  pub off : is_on b ≡ false
  unfolding is_on
  off = rw (eq-eqb b.extended 0 u.plain.extended)

  pub no-low : has_low b ≡ false
  unfolding has_low
  no-low = rw (eq-eqb b.lfnst 0 u.plain.lfnst)

  pub short : is_short b ≡ true
  unfolding is_short
  short = rw (off, u.width, u.height, u.depth)

  kept-both : is_readable b ≡ true
  kept-both = rw (kept b.horizontal b.width b.columns u.plain.horizontal u.width u.columns, kept b.vertical b.height b.rows u.plain.vertical u.height u.rows)

  pub fields : TakenFields b c
  unfolding is_kind is_corner is_low
  fields =
      let d = depth-cases b.depth u.depth in
      let p = u.plain in
      record {
        width = side b.width u.width;
        pair = rw (side b.height u.height, ne_eqb b.width 1 (λ e. omega (arith, e, size-some b.width u.width)));
        horizontal = ap is_kind p.horizontal;
        vertical = ap is_kind p.vertical;
        along = lined b.horizontal b.width u.width;
        down = lined b.vertical b.height u.height;
        depth = rw (le-leb 8 b.depth d.0, le-leb b.depth 16 (omega (arith, d)));
        kept = kept-both;
        corner = rw no-low;
        low = rw (no-low, le-leb b.lfnst 2 (omega (arith, p.lfnst)), le-leb b.set 3 (omega (arith, p.set)), le-leb b.transposed 1 (omega (arith, p.transposed)));
        long = u.long;
      }

  -- its shape
  same_shape : shaped b ≡ dct2_shape b.width b.height b.depth b.columns b.rows
  same_shape = λ i. record { width = b.width; height = b.height; horizontal = u.plain.horizontal i; vertical = u.plain.vertical i; depth = b.depth; columns = b.columns; rows = b.rows }

  taken-shape : Taken (shaped b)
  unfolding keeps
  taken-shape = let t = fields in record { width = u.width; height = u.height; horizontal = t.horizontal; vertical = t.vertical; depth = u.depth; kept = kept-both }

  pub given-quick : GivenQuick (dct2_shape b.width b.height b.depth b.columns b.rows) 1024 c
  given-quick =
      record {
        taken = subst Taken same_shape taken-shape;
        long = u.long;
        few = omega (arith, u.long, mul-le-mul (size_in b.width u.width) (size_in b.height u.height));
      }

  -- what the quick way gives is the outcome
  pub quick-done : {t : Bool} {r : ℕ} {out : List ℤ} → Quick (dct2_shape b.width b.height b.depth b.columns b.rows) c t r out → t ≡ true → ◌≡◌ {A = Outcome} (accepted r, out) (transform_outcome b c)
  quick-done {t} {r} {out} q worked =
      let e = sym (same-plan b short ∙ ap plan_of same_shape) in
      let d = q.done worked in
      (λ i. (accepted ((d.0 ∙ ap (λ p. rails p c) e) i), (d.1 ∙ ap (λ p. inverse_block p c) e) i)) ∙ rest ∙ sym (plain_done b c given no-low)
    where
      given : GivenWork b c
      given = record { taken = fields; inside = λ x y h l. subst (λ (r : ℕ). beyond (range_of r) (at c (x + y * b.width)) ≡ false) (sym (reach-15 b short)) (fit-inside (at c (x + y * b.width)) (q.fits worked x y h l)) }

      rest : ◌≡◌ {A = Outcome} (accepted (rails (transform_plan b) c), inverse_block (transform_plan b) c) (transformed b c)
      rest = rw (two b short)

  -- ---- one number alone
  module _ (one : (b.columns ≡ 1) × (b.rows ≡ 1)) where
    pub is-flat : Flat b
    is-flat = record { columns = one.0; rows = one.1; horizontal = u.plain.horizontal; vertical = u.plain.vertical; off = off; two = two b short }

    pub one-given : beyond (range_of 15) (at c 0) ≡ false → GivenWork b c
    one-given e = record { taken = fields; inside = λ x y h l. subst (λ (r : ℕ). beyond (range_of r) (at c (x + y * b.width)) ≡ false) (sym (reach-15 b short)) (subst (λ (k : ℕ). beyond (range_of 15) (at c k) ≡ false) (first x y h l) e) }
      where
        first : (x y : ℕ) → x < b.columns → y < b.rows → 0 ≡ x + y * b.width
        first x y h l =
            let a : 0 ≡ x = omega (arith, one.0) in
            let d : 0 ≡ y = omega (arith, one.1) in
            omega (arith, a, ap (λ (y : ℕ). y * b.width) d, zero-mul b.width)

    pub one_last : 20 - b.depth ≡ last_of b
    one_last = sym (rw (two b short) (ap (λ (r : ℕ). 5 + r - b.depth) (reach-15 b short)))

    pub one-done : {l : List ℤ} → beyond (range_of 15) (at c 0) ≡ false → l ≡ tabulate (length c) (λ _. flat_of (20 - b.depth) (at c 0)) → ◌≡◌ {A = Outcome} (accepted 0, l) (transform_outcome b c)
    one-done {l} e d = flat-done b c (one-given e) is-flat (d ∙ ap (λ (s : ℕ). tabulate (length c) (λ _. flat_of s (at c 0))) one_last) ∙ sym (plain_done b c (one-given e) no-low)
