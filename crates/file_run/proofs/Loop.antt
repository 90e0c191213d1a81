-- The loop of the run: what was printed and what is still to print make up what the file prints; the number is that of the last
-- turn, or still to come. Assumes nothing.
use mathlib.Core.Path.{◌≡◌, sym, ap, ◌∙◌}
use mathlib.Core.Bool.{Bool, true, false, cond}
use mathlib.Core.List.{List, [], ◌++◌, append_assoc, append-nil}
use Prim.Native.Nat.{ℕ, ◌≤◌}
use lib.ListN.{length, take, drop, take-append-drop}
use lib.Seq.{length-take-le}
use Rattle.std.specs.Prelude.{is_some, unwrap_or}
use Rattle.file_fields.specs.declared.cursor.Cursor.{Cursor}
use Rattle.file_run.specs.declared.run.TurnDone.{TurnDone}
use Rattle.file_run.specs.declared.run.RunDone.{RunDone}
use Rattle.file_run.specs.Run.{turn_at, printed_from, refusal_from, printed, refusal, run_outcome}
use Rattle.file_text.specs.Wrote.{Wrote}
use Rattle.file_run.specs.Does.{Does}
use Rattle.file_text.proofs.Writing.{later}
use Rattle.file_run.proofs.Fuel.{text-turn, number-turn}

-- ---- a turn of the run
module _ (file : List ℕ) (c : Cursor) {m at : ℕ} {o o₁ : List ℕ} {d : TurnDone} (a : Does (turn_at file c) m at o o₁ d) where
  -- that does not end it
  pub printed-more : is_some d.ending ≡ false → take at o ++ printed_from (length file) file c ≡ printed file
      → take d.at o₁ ++ printed_from (length file) file d.next ≡ printed file
  printed-more e h =
      let t = turn_at file c in
      let more = printed_from (length file) file t.next in
      let all = text-turn file c ∙ ap (λ (b : Bool). t.text ++ cond b [] more) (sym a.ends ∙ e) in
      rw (a.wrote.front, a.next) (append_assoc (take at o) t.text more ∙ ap (λ (l : List ℕ). take at o ++ l) (sym all) ∙ h)

  pub refusal-more : is_some d.ending ≡ false → refusal_from (length file) file c ≡ refusal file → refusal_from (length file) file d.next ≡ refusal file
  refusal-more e h =
      let t = turn_at file c in
      let more = refusal_from (length file) file t.next in
      rw a.next (sym (ap (λ (b : Bool). cond b t.number more) (sym a.ends ∙ e)) ∙ sym (number-turn file c) ∙ h)

  -- that ends it
  pub printed-last : is_some d.ending ≡ true → take at o ++ printed_from (length file) file c ≡ printed file → take d.at o₁ ≡ printed file
  printed-last e h =
      let t = turn_at file c in
      let more = printed_from (length file) file t.next in
      let all = text-turn file c ∙ ap (λ (b : Bool). t.text ++ cond b [] more) (sym a.ends ∙ e) ∙ append-nil t.text in
      rw a.wrote.front (ap (λ (l : List ℕ). take at o ++ l) (sym all) ∙ h)

  pub refusal-last : is_some d.ending ≡ true → refusal_from (length file) file c ≡ refusal file → unwrap_or d.ending 0 ≡ refusal file
  refusal-last e h =
      let t = turn_at file c in
      let more = refusal_from (length file) file t.next in
      a.number ∙ sym (ap (λ (b : Bool). cond b t.number more) (sym a.ends ∙ e)) ∙ sym (number-turn file c) ∙ h

-- what lies beyond stays as it was at the start
pub beyond : {s : List ℕ} {m at r : ℕ} {o o₁ : List ℕ} (o₀ : List ℕ) → Wrote s m at o o₁ r → drop at o ≡ drop at o₀ → drop r o₁ ≡ drop r o₀
beyond {s} {m} {at} {r} {o} {o₁} o₀ a h = a.beyond ∙ later at (length s) r o₀ o a.next h

abbrev done : ℕ → ℕ → List ℕ → RunDone × List ℕ
done k n l = (record { length = k; number = n }, l)

pub finish : (file t t₀ : List ℕ) (p n : ℕ) → p ≤ length t → take p t ≡ printed file → drop p t ≡ drop p t₀ → n ≡ refusal file
    → ◌≡◌ {A = RunDone × List ℕ} (record { length = p; number = n }, t) (run_outcome file t₀)
finish file t t₀ p n h a d m =
    let all = printed file in
    let e : p ≡ length all = sym (length-take-le p t h) ∙ ap length a in
    ap (λ (k : ℕ). done k n t) e
    ∙ ap (λ (k : ℕ). done (length all) k t) m
    ∙ ap (done (length all) (refusal file)) (sym (take-append-drop p t) ∙ ap (λ (l : List ℕ). l ++ drop p t) a ∙ ap (λ (l : List ℕ). all ++ l) (d ∙ ap (λ (k : ℕ). drop k t₀) e))
