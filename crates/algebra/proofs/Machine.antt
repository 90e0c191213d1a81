-- Machine words as values: `MV w` packs the bits, the integer, a bound on its size, and the proof (`Bridge`). Assumes nothing.
use mathlib.Core.Path.{◌≡◌}
use Prim.Native.Nat.{ℕ, ◌+◌, ◌*◌, ◌^◌, ◌≤◌}
use lib.Dec.{T, ltb, lit<}
use lib.IntN.{ℤ, nat_abs, ◌+ℤ◌, ◌-ℤ◌, ◌*ℤ◌}
use lib.Signed.{shr_z}
use mir.Syntax.{Width}
use mir.Val.{SFits, hbits, to_z, of_z}
use Rattle.algebra.proofs.Word as B
use Rattle.algebra.proofs.Word.{Is}

pub record MV (w : Width) : Type 0 where
  pub n : ℕ
  pub z : ℤ
  pub size : ℕ
  pub is : Is w n z size

-- the size is in the width, by computing
abbrev pub Ok : Width → ℕ → Type 0
Ok w m = T (ltb m (2 ^ hbits w))

abbrev pub arg : {w : Width} {x : ℤ} → SFits w x → MV w
arg {w} {x} f = record { n = of_z w x; z = x; size = 2 ^ hbits w; is = B.arg f }

abbrev pub arg≤ : {w : Width} {x : ℤ} {M : ℕ} → SFits w x → nat_abs x ≤ M → MV w
arg≤ {w} {x} {M} f p = record { n = of_z w x; z = x; size = M; is = B.arg≤ f p }

abbrev pub lit : (w : Width) (m : ℕ) → MV w
lit w m = record { n = m; z = to_z w m; size = nat_abs (to_z w m); is = B.lit w m }

abbrev pub add : {w : Width} (p q : MV w) → Ok w (p.size + q.size) → MV w
add {w} p q t = record { n = of_z w (to_z w p.n +ℤ to_z w q.n); z = p.z +ℤ q.z; size = p.size + q.size; is = B.add_v p.is q.is (lit< t) }

abbrev pub sub : {w : Width} (p q : MV w) → Ok w (p.size + q.size) → MV w
sub {w} p q t = record { n = of_z w (to_z w p.n -ℤ to_z w q.n); z = p.z -ℤ q.z; size = p.size + q.size; is = B.sub_v p.is q.is (lit< t) }

abbrev pub mul : {w : Width} (p q : MV w) → Ok w (p.size * q.size) → MV w
mul {w} p q t = record { n = of_z w (to_z w p.n *ℤ to_z w q.n); z = p.z *ℤ q.z; size = p.size * q.size; is = B.mul_v p.is q.is (lit< t) }

abbrev pub cast : {w : Width} (w' : Width) (p : MV w) → Ok w' p.size → MV w'
cast {w} w' p t = record { n = of_z w' (to_z w p.n); z = p.z; size = p.size; is = B.cast_v p.is (lit< t) }

abbrev pub shr : {w : Width} (p : MV w) (m : ℕ) → Ok w p.size → MV w
shr {w} p m t = record { n = of_z w (shr_z (to_z w p.n) m); z = shr_z p.z m; size = p.size; is = B.shr_v p.is m (lit< t) }

-- a word whose size is known otherwise
abbrev pub sized : {w : Width} (p : MV w) {B : ℕ} → nat_abs p.z ≤ B → MV w
sized {w} p {B} h = record { n = p.n; z = p.z; size = B; is = record { val = p.is.val; abs = h } }

-- ---- what the machine asks, and what is returned
pub add-fits : {w : Width} (p q : MV w) → Ok w (p.size + q.size) → SFits w (to_z w p.n +ℤ to_z w q.n)
add-fits p q t = B.add-fits p.is q.is (lit< t)

pub sub-fits : {w : Width} (p q : MV w) → Ok w (p.size + q.size) → SFits w (to_z w p.n -ℤ to_z w q.n)
sub-fits p q t = B.sub-fits p.is q.is (lit< t)

pub mul-fits : {w : Width} (p q : MV w) → Ok w (p.size * q.size) → SFits w (to_z w p.n *ℤ to_z w q.n)
mul-fits p q t = B.mul-fits p.is q.is (lit< t)

pub cast_fits : {w : Width} (w' : Width) (p : MV w) → Ok w' p.size → SFits w' (to_z w p.n)
cast_fits w' p t = B.cast_fits p.is (lit< t)

pub val : {w : Width} (p : MV w) → to_z w p.n ≡ p.z
val p = p.is.val
