-- Where the totals of a size and a pair of kinds stand: no two of the 144 share a place (`class-apart`). Assumes nothing.
use Rattle.std.proofs.Common.{◌≡◌, ℕ, ◌+◌, ◌*◌, ◌<◌, true, ◌&&◌, eqb, refl, arith, eq-eqb, eqb-true}
use Rattle.meaning.specs.declared.Shape.{Shape}
use Rattle.meaning.specs.Shape.{is_size, is_kind}
use Rattle.meaning.specs.Taken.{Taken}
use Rattle.meaning.proofs.Cases.{and_cases, size-cases, kind-cases}
use Rattle.meaning.proofs.Stages.{log-in}
use Rattle.report.specs.Totals.{side, class}
use Rattle.report.specs.Given.{alike}

-- no kind is above 2
pub kind-in : (kind : ℕ) → is_kind kind ≡ true → kind < 3
kind-in = kind-cases (λ kind. kind < 3) (omega arith) (omega arith) (omega arith)

-- a size and a pair of kinds that there are
pub record Class (sh : Shape) : Type 0 where
  pub width : is_size sh.width ≡ true
  pub height : is_size sh.height ≡ true
  pub horizontal : is_kind sh.horizontal ≡ true
  pub vertical : is_kind sh.vertical ≡ true

pub class_of : (sh : Shape) → Taken sh → Class sh
class_of sh t = record { width = t.width; height = t.height; horizontal = t.horizontal; vertical = t.vertical }

-- there are four sizes, and no two have one number
side-in : (n : ℕ) → side n < 4
side-in n = omega (arith, log-in n)

side-apart : (n m : ℕ) → is_size n ≡ true → is_size m ≡ true → side n ≡ side m → n ≡ m
side-apart n m a b =
    size-cases (λ n. side n ≡ side m → n ≡ m)
    (size-cases (λ m. side 4 ≡ side m → 4 ≡ m) (λ q. refl) (λ q. omega (arith, q)) (λ q. omega (arith, q)) (λ q. omega (arith, q)) m b)
    (size-cases (λ m. side 8 ≡ side m → 8 ≡ m) (λ q. omega (arith, q)) (λ q. refl) (λ q. omega (arith, q)) (λ q. omega (arith, q)) m b)
    (size-cases (λ m. side 16 ≡ side m → 16 ≡ m) (λ q. omega (arith, q)) (λ q. omega (arith, q)) (λ q. refl) (λ q. omega (arith, q)) m b)
    (size-cases (λ m. side 32 ≡ side m → 32 ≡ m) (λ q. omega (arith, q)) (λ q. omega (arith, q)) (λ q. omega (arith, q)) (λ q. refl) m b)
    n a

pub class-in : (sh : Shape) → Class sh → class sh < 144
unfolding class
class-in sh c = omega (arith, side-in sh.width, side-in sh.height, kind-in sh.horizontal c.horizontal, kind-in sh.vertical c.vertical)

-- the same sizes and kinds
pub record Same (sh s : Shape) : Type 0 where
  pub width : s.width ≡ sh.width
  pub height : s.height ≡ sh.height
  pub horizontal : s.horizontal ≡ sh.horizontal
  pub vertical : s.vertical ≡ sh.vertical

-- "per size and kind": shapes of one class have the same sizes and kinds, and the other way round
pub class-apart : (sh s : Shape) → Class sh → Class s → class s ≡ class sh → Same sh s
unfolding class
class-apart sh s c d e =
    let w0 = side-in sh.width in
    let w1 = side-in s.width in
    let h0 = side-in sh.height in
    let h1 = side-in s.height in
    let a0 = kind-in sh.horizontal c.horizontal in
    let a1 = kind-in s.horizontal d.horizontal in
    let b0 = kind-in sh.vertical c.vertical in
    let b1 = kind-in s.vertical d.vertical in
    record {
      width = side-apart s.width sh.width d.width c.width (omega (arith, e, w0, w1, h0, h1, a0, a1, b0, b1));
      height = side-apart s.height sh.height d.height c.height (omega (arith, e, w0, w1, h0, h1, a0, a1, b0, b1));
      horizontal = omega (arith, e, w0, w1, h0, h1, a0, a1, b0, b1);
      vertical = omega (arith, e, w0, w1, h0, h1, a0, a1, b0, b1);
    }

pub class_same : (sh s : Shape) → Same sh s → class s ≡ class sh
unfolding class
class_same sh s e = λ i. (side (e.width i) * 4 + side (e.height i)) * 9 + (e.horizontal i * 3 + e.vertical i)

-- the test of the definitions
pub alike_same : (sh s : Shape) → alike sh s ≡ true → Same sh s
alike_same sh s e =
    let w = eqb s.width sh.width in
    let h = eqb s.height sh.height in
    let a = eqb s.horizontal sh.horizontal in
    let b = eqb s.vertical sh.vertical in
    let one = and_cases w (h && (a && b)) e in
    let two = and_cases h (a && b) one.1 in
    let three = and_cases a b two.1 in
    record {
      width = eqb-true s.width sh.width one.0;
      height = eqb-true s.height sh.height two.0;
      horizontal = eqb-true s.horizontal sh.horizontal three.0;
      vertical = eqb-true s.vertical sh.vertical three.1;
    }

pub same_alike : (sh s : Shape) → Same sh s → alike sh s ≡ true
same_alike sh s e = rw (eq-eqb s.width sh.width e.width, eq-eqb s.height sh.height e.height, eq-eqb s.horizontal sh.horizontal e.horizontal, eq-eqb s.vertical sh.vertical e.vertical)
