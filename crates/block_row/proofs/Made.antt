-- A row of calls, one on: what is done, and what is still to do. Assumes nothing.
use mathlib.Core.Path.{◌≡◌, refl, sym, ap, ◌∙◌}
use mathlib.Core.List.{List, [], ◌++◌, append_assoc}
use Prim.Native.Nat.{ℕ, suc, ◌+◌, ◌-◌, ◌<◌, ◌≤◌}
use native.Mathlib.Omega.{arith}
use native.Mathlib.Numerals.{add-one}
use lib.IntN.{ℤ}
use lib.ListN.{length, take, drop, get_or, length-append, length-drop, take-append-drop, drop_of_length-le}
use lib.Seq.{drop-cons, drop-drop, take_at, drop_at, length-take-le}
use Rattle.meaning.specs.declared.Shape.{Shape}
use Rattle.meaning.specs.declared.Answer.{Answer}
use Rattle.meaning.specs.Answer.{Outcome}
use Rattle.meaning.specs.Inverse.{inverse_outcome}
use Rattle.block_row.specs.Numbers.{put_at, put_all}
use Rattle.block_row.specs.Row.{span, spans, Answered, blocks, row_answers}
use Rattle.block_row.proofs.Spans.{spans-more}
use Rattle.block_row.proofs.Lengths.{inverse-long}

-- k calls are made, and o numbers of both buffers are behind
pub record Made (T : List Shape) (before : List ℕ) (c out₀ : List ℤ) (k o : ℕ) (answers : List ℕ) (out : List ℤ) : Type 0 where
  pub left : o + spans (drop k T) ≡ length c
  pub long : length out ≡ length c
  pub equal : ◌≡◌ {A = Answered} (put_all (blocks (drop k T) (drop o c) (drop o out)).0 k answers, take o out ++ (blocks (drop k T) (drop o c) (drop o out)).1) (row_answers T before c out₀)

pub made_none : (T : List Shape) (before : List ℕ) (c out : List ℤ) → length c ≡ spans T → length out ≡ spans T → Made T before c out 0 0 before out
unfolding row_answers
made_none T before c out a l = record { left = omega arith; long = l ∙ sym a; equal = refl }

module _ {T : List Shape} {before : List ℕ} {c out₀ : List ℤ} {k o : ℕ} {answers : List ℕ} {out : List ℤ} (m : Made T before c out₀ k o answers out) where
  -- the next stretch lies within
  pub made-room : (d : Shape) → k < length T → o + span (get_or T k d) ≤ length c
  made-room d h = omega (arith, m.left, spans-more T k d h)

  module _ (d : Shape) (r : Answer) (ys : List ℤ) (e : ℕ) where
    pub made-next : k < length T → e ≡ o + span (get_or T k d)
        → ◌≡◌ {A = Outcome} (r, ys) (inverse_outcome (get_or T k d) (take (e - o) (drop o c)) (take (e - o) (drop o out)))
        → Made T before c out₀ (k + 1) e (put_at answers k r) (take o out ++ (ys ++ drop (e - o) (drop o out)))
    unfolding blocks put_all
    made-next h q b =
        let sh = get_or T k d in
        let a = span sh in
        let C = drop o c in
        let O = drop o out in
        let D = take o out in
        let n : e - o ≡ a = omega arith in
        let room : o + a ≤ length out = omega (arith, made-room d h, m.long) in
        let b' : ◌≡◌ {A = Outcome} (r, ys) (inverse_outcome sh (take a C) (take a O)) = rw n at b in
        let l : length ys ≡ a = ap (λ (p : Outcome). length p.1) b' ∙ inverse-long sh (take a C) (take a O) ∙ length-take-le a O (omega (arith, length-drop o out)) in
        let f : length D ≡ o = length-take-le o out (omega arith) in
        let s : D ++ (ys ++ drop (e - o) O) ≡ (D ++ ys) ++ drop a O = rw n (sym (append_assoc D ys (drop a O))) in
        let t : length (D ++ ys) ≡ e = length-append D ys ∙ omega arith in
        let u : drop e c ≡ drop a C = ap (λ (m : ℕ). drop m c) q ∙ sym (drop-drop a o c) in
        let R = blocks (drop (suc k) T) (drop a C) (drop a O) in
        let m' : ◌≡◌ {A = Answered} (put_all R.0 (suc k) (put_at answers k (inverse_outcome sh (take a C) (take a O)).0), D ++ ((inverse_outcome sh (take a C) (take a O)).1 ++ R.1)) (row_answers T before c out₀)
        = rw (drop-cons T k d h) at m.equal in
        let x : put_all R.0 (suc k) (put_at answers k r) ≡ put_all R.0 (suc k) (put_at answers k (inverse_outcome sh (take a C) (take a O)).0)
        = ap (λ (z : Outcome). put_all R.0 (suc k) (put_at answers k z.0)) b' in
        let y : (D ++ ys) ++ R.1 ≡ D ++ ((inverse_outcome sh (take a C) (take a O)).1 ++ R.1)
        = append_assoc D ys R.1 ∙ ap (λ (z : Outcome). D ++ (z.1 ++ R.1)) b' in
        let p : spans (drop k T) ≡ a + spans (drop (suc k) T) = spans-more T k d h in
        rw (s, add-one k) (record {
          left = omega (arith, m.left);
          long = length-append (D ++ ys) (drop a O) ∙ omega (arith, length-drop a O, length-drop o out, m.long);
          equal = rw (take_at (D ++ ys) (drop a O) e t, drop_at (D ++ ys) (drop a O) e t, u) ((λ i. (x i, y i)) ∙ m');
        })

    -- the same, with the shape as it was read
    pub made-next-of : (sh : Shape) → get_or T k d ≡ sh → k < length T → e ≡ o + span sh
        → ◌≡◌ {A = Outcome} (r, ys) (inverse_outcome sh (take (e - o) (drop o c)) (take (e - o) (drop o out)))
        → Made T before c out₀ (k + 1) e (put_at answers k r) (take o out ++ (ys ++ drop (e - o) (drop o out)))
    made-next-of sh p h q b =
        made-next h (q ∙ ap (λ (s : Shape). o + span s) (sym p))
        (b ∙ ap (λ (s : Shape). inverse_outcome s (take (e - o) (drop o c)) (take (e - o) (drop o out))) (sym p))

-- all calls are made
pub made_all : {T : List Shape} {before : List ℕ} {c out₀ : List ℤ} {k o : ℕ} {answers : List ℕ} {out : List ℤ} → k ≡ length T → Made T before c out₀ k o answers out
    → ◌≡◌ {A = Answered} (answers, out) (row_answers T before c out₀)
unfolding blocks put_all
made_all {T} {before} {c} {out₀} {k} {o} {answers} {out} e m =
    let n : drop k T ≡ [] = let l : length T ≤ k = omega arith in drop_of_length-le T l in
    let y = take-append-drop o out in
    (λ i. (answers, sym y i)) ∙ (rw n at m.equal)
