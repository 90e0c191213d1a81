-- Laws of tabulated lists and of blocks of rows; a list that a loop fills; a lent part that comes back. Assumes nothing.
use mathlib.Core.Path.{◌≡◌, refl, sym, ap, ◌∙◌, subst}
use mathlib.Core.List.{List, [], ◌∷◌, ◌++◌, append_assoc, append-nil}
use Prim.Native.Nat.{ℕ, zero, suc, ◌+◌, ◌*◌, ◌-◌, ◌/◌, ◌%◌, ◌≤◌, ◌<◌}
use native.Mathlib.Nat.{not-suc-le-zero, mul-le-mul_right, suc-mul, add-mul, one-mul, zero-mul, mul-zero, zero-add, add_comm, sub-zero, le_of_suc-le-suc, mod-lt, div-add-mod', div-lt_iff_lt-mul}
use native.Mathlib.Numerals.{add-one}
use native.Mathlib.Omega.{arith}
use native.Mathlib.Decide.{ℕ_discrete}
use lib.Arith.{digits_mod, digits_div}
use lib.ListN.{length, take, drop, get_or, set, replicate, length-append, length-set, length-take, length-drop, get_or-append, drop_of_length-le}
use lib.Seq.{ext_get_or, get_or_at, get_or-append-add, get_or-take, get_or-drop, get_or-set_same, get_or-set_other, take_at, drop_at, drop-drop, length-take-le}
use lib.IntN.{ℤ, pos}
use Rattle.algebra.specs.Lists.{at, tabulate, block, flat}
use Rattle.algebra.proofs.Table.{last}

-- ---- tabulate
pub tab-length : (n : ℕ) (f : ℕ → ℤ) → length (tabulate n f) ≡ n
unfolding tabulate
tab-length zero f = refl
tab-length (suc n) f = length-append (tabulate n f) (f n ∷ []) ∙ ap (λ (k : ℕ). k + 1) (tab-length n f) ∙ omega arith

pub tab-at : (n : ℕ) (f : ℕ → ℤ) (k : ℕ) → k < n → at (tabulate n f) k ≡ f k
unfolding tabulate
tab-at zero f k h = absurd (not-suc-le-zero h)
tab-at (suc n) f k h =
    last (λ (m : ℕ). at (tabulate n f ++ (f n ∷ [])) m ≡ f m) n k h
    (get_or_at (tabulate n f) (f n) [] (pos 0) n (tab-length n f))
    (λ l. get_or-append (tabulate n f) (f n ∷ []) (pos 0) k (omega (arith, tab-length n f)) ∙ tab-at n f k l)

-- a list is tabulated by its length and its elements
pub tabulated : (n : ℕ) (r : List ℤ) (f : ℕ → ℤ) → length r ≡ n → ((k : ℕ) → k < n → at r k ≡ f k) → r ≡ tabulate n f
tabulated n r f l e = ext_get_or (pos 0) r (tabulate n f) (l ∙ sym (tab-length n f)) (λ k h. e k (omega arith) ∙ sym (tab-at n f k (omega arith)))

pub tab-cong : (n : ℕ) (f g : ℕ → ℤ) → ((k : ℕ) → k < n → f k ≡ g k) → tabulate n f ≡ tabulate n g
tab-cong n f g e = tabulated n (tabulate n f) g (tab-length n f) (λ k h. tab-at n f k h ∙ e k h)

-- ---- blocks
-- row y of h rows of w lies within, and column x of it
pub row_in : {y h : ℕ} (w : ℕ) → y < h → y * w + w ≤ h * w
row_in {y} {h} w l =
    let p : suc y * w ≤ h * w = mul-le-mul_right w l in
    omega (arith, suc-mul y w)

pub place_in : {x y w h : ℕ} → x < w → y < h → x + y * w < h * w
place_in {x} {y} {w} {h} hx hy = omega (arith, row_in w hy)

pub block_none : (w : ℕ) (f : ℕ → ℕ → ℤ) → block w 0 f ≡ []
unfolding block
block_none w f = refl

-- one row more, as a loop counts
pub block_more : (w y : ℕ) (f : ℕ → ℕ → ℤ) → block w (y + 1) f ≡ block w y f ++ tabulate w (λ x. f x y)
unfolding block
block_more w y f = rw add-one

pub block-length : (w h : ℕ) (f : ℕ → ℕ → ℤ) → length (block w h f) ≡ h * w
unfolding block
block-length w zero f = sym (zero-mul w)
block-length w (suc h) f = length-append (block w h f) (tabulate w (λ x. f x h)) ∙ omega (arith, block-length w h f, tab-length w (λ x. f x h), suc-mul h w)

pub block_at : (w h : ℕ) (f : ℕ → ℕ → ℤ) (x y : ℕ) → x < w → y < h → at (block w h f) (x + y * w) ≡ f x y
unfolding block
block_at w zero f x y hx hy = absurd (not-suc-le-zero hy)
block_at w (suc h) f x y hx hy =
    let t = tabulate w (λ x. f x h) in
    let here : x + h * w ≡ length (block w h f) + x = omega (arith, block-length w h f) in
    last (λ (m : ℕ). at (block w h f ++ t) (x + m * w) ≡ f x m) h y hy
    (ap (at (block w h f ++ t)) here ∙ get_or-append-add (block w h f) t x (pos 0) ∙ tab-at w (λ x. f x h) x hx)
    (λ l. get_or-append (block w h f) t (pos 0) (x + y * w) (omega (arith, block-length w h f, place_in {x = x} {y = y} {w = w} {h = h} hx l)) ∙ block_at w h f x y hx l)

pub block_cong : (w h : ℕ) (f g : ℕ → ℕ → ℤ) → ((x y : ℕ) → x < w → y < h → f x y ≡ g x y) → block w h f ≡ block w h g
unfolding block
block_cong w zero f g e = refl
block_cong w (suc h) f g e = λ i. block_cong w h f g (λ x y p q. e x y p (omega arith)) i ++ tab-cong w (λ x. f x h) (λ x. g x h) (λ x p. e x h p (omega arith)) i

-- column and row of a place; two columns share none
pub column-of : {x w : ℕ} (y : ℕ) → x < w → (x + y * w) % w ≡ x
column-of {x} {w} y h = ap (λ (k : ℕ). k % w) (add_comm x (y * w)) ∙ digits_mod y h

pub row_of : {x w : ℕ} (y : ℕ) → x < w → (x + y * w) / w ≡ y
row_of {x} {w} y h = ap (λ (k : ℕ). k / w) (add_comm x (y * w)) ∙ digits_div y h

-- what holds of every column of every row holds of every place
pub every-place : (w h : ℕ) (P : ℕ → Type 0) → ((x y : ℕ) → x < w → y < h → P (x + y * w)) → (k : ℕ) → k < h * w → P k
every-place w h P p k l =
    let s : 0 < w = some w l in
    let e : k % w + k / w * w ≡ k = add_comm (k % w) (k / w * w) ∙ div-add-mod' k w in
    subst P e (p (k % w) (k / w) (mod-lt k s) ((div-lt_iff_lt-mul s).1 l))
  where
    some : (w : ℕ) → k < h * w → 0 < w
    some zero l = absurd (omega (arith, mul-zero h))
    some (suc w) l = omega arith

-- a list is a block by its length and what stands in each column of each row
pub block-ext : (w h : ℕ) (f : ℕ → ℕ → ℤ) (l : List ℤ) → length l ≡ h * w → ((x y : ℕ) → x < w → y < h → at l (x + y * w) ≡ f x y) → l ≡ block w h f
block-ext w h f l n e =
    ext_get_or (pos 0) l (block w h f) (n ∙ sym (block-length w h f))
    (λ k b. every-place w h (λ k. at l k ≡ at (block w h f) k) (λ x y p q. e x y p q ∙ sym (block_at w h f x y p q)) k (omega arith))

-- ---- a loop that writes one value after another from place o on: what it wrote, and what is still as it was
pub record Filled (o j : ℕ) (a a₀ : List ℤ) (f : ℕ → ℤ) : Type 0 where
  pub long : length a ≡ length a₀
  pub done : (k : ℕ) → k < j → at a (o + k) ≡ f k
  pub before : (k : ℕ) → k < o → at a k ≡ at a₀ k
  pub after : (k : ℕ) → o + j ≤ k → at a k ≡ at a₀ k

pub fill_none : (o : ℕ) (a : List ℤ) (f : ℕ → ℤ) → Filled o 0 a a f
fill_none o a f = record { long = refl; done = λ k h. absurd (not-suc-le-zero h); before = λ k h. refl; after = λ k h. refl }

pub fill-next : {o j : ℕ} {a a₀ : List ℤ} {f : ℕ → ℤ} (z : ℤ) → o + j < length a₀ → Filled o j a a₀ f → z ≡ f j → Filled o (j + 1) (set a (o + j) z) a₀ f
fill-next {o} {j} {a} {a₀} {f} z l p e =
    record {
      long = length-set a (o + j) z ∙ p.long;
      done = λ k h. one k h (ℕ_discrete k j);
      before = λ k h. get_or-set_other a (o + j) k z (pos 0) (λ q. omega arith) ∙ p.before k h;
      after = λ k h. get_or-set_other a (o + j) k z (pos 0) (λ q. omega arith) ∙ p.after k (omega arith);
    }
  where
    one : (k : ℕ) → k < j + 1 → Dec (k ≡ j) → at (set a (o + j) z) (o + k) ≡ f k
    one k h (yes q) = subst (λ (i : ℕ). at (set a (o + j) z) (o + i) ≡ f i) (sym q) (get_or-set_same a (o + j) z (pos 0) (omega (arith, p.long)) ∙ e)
    one k h (no n) = get_or-set_other a (o + j) (o + k) z (pos 0) (λ q. n (omega arith)) ∙ p.done k (omega arith)

-- the same from place 0 on
pub fill-first : {j : ℕ} {a a₀ : List ℤ} {f : ℕ → ℤ} (z : ℤ) → j < length a₀ → Filled 0 j a a₀ f → z ≡ f j → Filled 0 (j + 1) (set a j z) a₀ f
fill-first {j} {a} {a₀} {f} z l p e =
    let q : 0 + j ≡ j = zero-add j in
    subst (λ (i : ℕ). Filled 0 (j + 1) (set a i z) a₀ f) q (fill-next z (omega arith) p e)

-- all of a list is filled
pub filled : {n : ℕ} {a a₀ : List ℤ} {f : ℕ → ℤ} → length a₀ ≡ n → Filled 0 n a a₀ f → a ≡ tabulate n f
filled {n} {a} {f = f} l p = tabulated n a f (p.long ∙ l) (λ k h. ap (at a) (sym (zero-add k)) ∙ p.done k h)

-- a loop over a list has filled all of it
pub filled-to : {n j : ℕ} {a a₀ : List ℤ} {f : ℕ → ℤ} → length a₀ ≡ n → j ≤ n → n ≤ j → Filled 0 j a a₀ f → a ≡ tabulate n f
filled-to {n} {j} {a} {a₀} {f} l g h p =
    let e : j ≡ n = omega arith in
    filled l (subst (λ (k : ℕ). Filled 0 k a a₀ f) e p)

-- ---- a lent part from a on, of k numbers, comes back as ys into a list of which the front is done
pub part-back : {A : Type 0} (D o ys : List A) (a k e : ℕ) → length D ≡ a → e ≡ a + k
    → take a (D ++ drop a o) ++ (ys ++ drop k (drop a (D ++ drop a o))) ≡ (D ++ ys) ++ drop e o
part-back D o ys a k e h q = rw (take_at D (drop a o) a h, drop_at D (drop a o) a h, drop-drop k a o, q) (sym (append_assoc D ys (drop (a + k) o)))

-- ---- a part of k numbers from a on, that was lent and came back as f 0, f 1, ..
pub part_in : (l : List ℤ) (a k : ℕ) → a + k ≤ length l → length (take (a + k - a) (drop a l)) ≡ k
part_in l a k h = simp (length-take, length-drop) (omega arith)

pub part_filled : (l ys : List ℤ) (a k : ℕ) (f : ℕ → ℤ) → a + k ≤ length l → ys ≡ tabulate (length (take (a + k - a) (drop a l))) f
    → Filled a k (take a l ++ (ys ++ drop (a + k - a) (drop a l))) l f
part_filled l ys a k f h e =
    record {
      long = simp (length-append, length-drop) (omega (arith, front_long, ys-long));
      done = λ i g. past i ∙ get_or-append ys (drop (a + k - a) (drop a l)) (pos 0) i (omega (arith, ys-long)) ∙ ap (λ (u : List ℤ). at u i) ys-all ∙ tab-at k f i g;
      before = λ i g. get_or-append (take a l) (ys ++ drop (a + k - a) (drop a l)) (pos 0) i (omega (arith, front_long)) ∙ get_or-take a l i (pos 0) g;
      after = λ i g. beyond i (i - (a + k)) (omega arith);
    }
  where
    front_long : length (take a l) ≡ a
    front_long = length-take-le a l (omega arith)

    ys-all : ys ≡ tabulate k f
    ys-all = e ∙ ap (λ (n : ℕ). tabulate n f) (part_in l a k h)

    ys-long : length ys ≡ k
    ys-long = ap length ys-all ∙ tab-length k f

    past : (i : ℕ) → at (take a l ++ (ys ++ drop (a + k - a) (drop a l))) (a + i) ≡ at (ys ++ drop (a + k - a) (drop a l)) i
    past i =
        let q : a + i ≡ length (take a l) + i = omega (arith, front_long) in
        ap (at (take a l ++ (ys ++ drop (a + k - a) (drop a l)))) q ∙ get_or-append-add (take a l) (ys ++ drop (a + k - a) (drop a l)) i (pos 0)

    beyond : (i j : ℕ) → i ≡ a + (k + j) → at (take a l ++ (ys ++ drop (a + k - a) (drop a l))) i ≡ at l i
    beyond i j q =
        let v : k + j ≡ length ys + j = omega (arith, ys-long) in
        let u : a + (a + k - a + j) ≡ i = omega arith in
        ap (at (take a l ++ (ys ++ drop (a + k - a) (drop a l)))) q ∙ past (k + j) ∙ ap (at (ys ++ drop (a + k - a) (drop a l))) v
        ∙ get_or-append-add ys (drop (a + k - a) (drop a l)) j (pos 0)
        ∙ get_or-drop (a + k - a) (drop a l) j (pos 0) ∙ get_or-drop a l (a + k - a + j) (pos 0) ∙ ap (at l) u

-- ---- a loop that lends one row of n after another: the rows before y are done, what stands after them is as it was
pub record Rows (n y : ℕ) (f : ℕ → ℕ → ℤ) (m o : List ℤ) : Type 0 where
  pub are : m ≡ block n y f ++ drop (y * n) o

pub rows_none : (n : ℕ) (f : ℕ → ℕ → ℤ) (o : List ℤ) → Rows n 0 f o o
rows_none n f o = record { are = rw (zero-mul n, block_none n f) }

module _ {n y : ℕ} {f : ℕ → ℕ → ℤ} {m o : List ℤ} (p : Rows n y f m o) where
  pub rows-room : {h : ℕ} → y ≤ h → h * n ≤ length o → length m ≡ length o
  rows-room l g = ap length p.are ∙ length-append (block n y f) (drop (y * n) o) ∙ omega (arith, block-length n y f, length-drop (y * n) o, mul-le-mul_right n l)

  pub rows_long : {h : ℕ} → y ≤ h → length o ≡ h * n → length m ≡ length o
  rows_long l g = rows-room l (omega arith)

  pub rows_next : {ys : List ℤ} → ys ≡ tabulate n (λ x. f x y) → Rows n (y + 1) f (take (y * n) m ++ (ys ++ drop (y * n + n - y * n) (drop (y * n) m))) o
  rows_next t =
      let k : y * n + n - y * n ≡ n = omega arith in
      let q : (y + 1) * n ≡ y * n + n = omega (arith, add-mul y 1 n, one-mul n) in
      record { are = rw (k, p.are, t, q, block_more n y f) (part-back (block n y f) o (tabulate n (λ x. f x y)) (y * n) n (y * n + n) (block-length n y f) refl) }

  pub rows_all : {h : ℕ} → y ≡ h → length o ≡ h * n → m ≡ block n h f
  rows_all {h} l g =
      let q : length o ≤ h * n = omega arith in
      p.are ∙ rw (l, drop_of_length-le o q) (append-nil (block n h f))

-- the first n numbers of a list, lent as the part from 0 to n, and read again where they came back
pub part-long : {A : Type 0} (n : ℕ) (l : List A) → n ≤ length l → length (take (n - 0) l) ≡ n
part-long n l h = rw (sub-zero n) (length-take-le n l h)

pub part_same : {A : Type 0} (n : ℕ) (l r : List A) → length l ≡ n → take (n - 0) (l ++ r) ≡ l
part_same n l r h = rw (sub-zero n) (take_at l r n h)

-- ---- zeros, and past the end too
pub zeros-at : (n k : ℕ) → at (replicate n (pos 0)) k ≡ pos 0
zeros-at zero k = refl
zeros-at (suc n) zero = refl
zeros-at (suc n) (suc k) = zeros-at n k

pub take-zeros : (n : ℕ) (l : List ℤ) → ((k : ℕ) → at l k ≡ pos 0) → (k : ℕ) → at (take n l) k ≡ pos 0
take-zeros zero l z k = refl
take-zeros (suc n) [] z k = refl
take-zeros (suc n) (x ∷ l) z zero = z 0
take-zeros (suc n) (x ∷ l) z (suc k) = take-zeros n l (λ i. z (suc i)) k

-- ---- rows joined
pub flat-length : (n : ℕ) (rows : List (List ℤ)) → ((y : ℕ) → y < length rows → length (get_or rows y []) ≡ n) → length (flat rows) ≡ length rows * n
unfolding flat
flat-length n [] e = sym (zero-mul n)
flat-length n (r ∷ rows) e =
    length-append r (flat rows)
    ∙ omega (arith, suc-mul (length rows) n, e 0 (omega arith), flat-length n rows (λ y h. e (suc y) (omega arith)))

pub flat-at : (n : ℕ) (rows : List (List ℤ)) → ((y : ℕ) → y < length rows → length (get_or rows y []) ≡ n)
    → (x y : ℕ) → x < n → y < length rows → at (flat rows) (x + y * n) ≡ at (get_or rows y []) x
unfolding flat
flat-at n [] e x y hx hy = absurd (not-suc-le-zero hy)
flat-at n (r ∷ rows) e x zero hx hy =
    let l : length r ≡ n = e 0 (omega arith) in
    let q : x + 0 * n ≡ x = omega (arith, zero-mul n) in
    ap (at (r ++ flat rows)) q ∙ get_or-append r (flat rows) (pos 0) x (omega arith)
flat-at n (r ∷ rows) e x (suc y) hx hy =
    let l : length r ≡ n = e 0 (omega arith) in
    let q : x + suc y * n ≡ length r + (x + y * n) = omega (arith, suc-mul y n) in
    ap (at (r ++ flat rows)) q ∙ get_or-append-add r (flat rows) (x + y * n) (pos 0)
    ∙ flat-at n rows (λ k h. e (suc k) (omega arith)) x y hx (le_of_suc-le-suc hy)
