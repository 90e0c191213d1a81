-- Document 01, "Sharing between weights". Each place of a row is a signed sum of the row's first places, in one of three ways, its
-- class. L = 2n+1 is a product p * q. Rows and places are counted from 0.
use Rattle.std.specs.Prelude.{Bool, true, false, not, cond, List, [], ◌∷◌, ℕ, zero, suc, ◌+◌, ◌*◌, ◌-◌, ◌/◌, ◌%◌, eqb, ltb, ℤ, pos, negsuc, neg_ℤ, ◌+ℤ◌}

-- ---- a signed sum of places
pub data SignedPlace : Type 0 where
  plus minus : ℕ → SignedPlace

abbrev pub signed_place : Bool → ℕ → SignedPlace
signed_place true g = minus g
signed_place false g = plus g

-- what f has at those places, with their signs
abbrev pub folded : (ℕ → ℤ) → List SignedPlace → ℤ
folded f [] = pos 0
folded f (plus g ∷ E) = f g +ℤ folded f E
folded f (minus g ∷ E) = neg_ℤ (f g) +ℤ folded f E

-- how often, and with which sign, place k occurs
abbrev pub occurrence : List SignedPlace → ℕ → ℤ
occurrence [] k = pos 0
occurrence (plus g ∷ E) k = cond (eqb g k) (pos 1) (pos 0) +ℤ occurrence E k
occurrence (minus g ∷ E) k = cond (eqb g k) (negsuc 0) (pos 0) +ℤ occurrence E k

-- ---- the classes
abbrev pub half : ℕ → ℕ
half p = p / 2

abbrev pub is_odd : ℕ → Bool
is_odd k = eqb (k % 2) 1

-- w or q - w, whichever is less
abbrev pub nearer : ℕ → ℕ → ℕ
nearer w q = cond (ltb (w + w) q) w (q - w)

-- "Rows where 2i+1 shares a factor with L repeat a few values (features 2 and 3)": p divides 2i+1 in class 2, q does in class 3
unfoldable pub class_of : ℕ → ℕ → ℕ → ℕ
class_of p q i = cond (eqb (i % p) (half p)) 2 (cond (eqb (i % q) (half q)) 3 1)

-- Feature 1: the first places stand for themselves. The places past them are the sums of two where p is 3 (s1 + s10 = s12), and
-- where p is 5 those of two others less these (s(j) + s(j+26) + s(13-j) = s(j+13) + s(26-j)).
unfoldable pub leading : ℕ → ℕ → ℕ → List SignedPlace
leading p q k =
    let m = half p * q in
    let g = k - m in
    cond (ltb k m) (plus k ∷ [])
    (cond (eqb p 3) (plus g ∷ plus (q - 2 - g) ∷ []) (minus g ∷ minus (q - 2 - g) ∷ plus (q + g) ∷ plus (2 * q - 2 - g) ∷ []))

-- Features 2 and 3: place k + 1 = b * q + g or b * q - g, g = 1 .. (q - 1) / 2, counts as place g, with the sign (-1)^b or its
-- opposite; a place that q divides is 0.
unfoldable pub periodic : ℕ → ℕ → List SignedPlace
periodic q k =
    let w = (k + 1) % q in
    cond (eqb w 0) [] (signed_place (not (ltb ((k + 1) % (2 * q)) q)) (nearer w q - 1) ∷ [])

-- how many first places a class has, and place k of its rows as a signed sum of them
abbrev pub width : ℕ → ℕ → ℕ → ℕ
width p q c = cond (eqb c 1) (half p * q) (cond (eqb c 2) (half q) (half p))

abbrev pub signed_places : ℕ → ℕ → ℕ → ℕ → List SignedPlace
signed_places p q c k = cond (eqb c 1) (leading p q k) (cond (eqb c 2) (periodic q k) (periodic p k))

-- ---- the same from the other side: the places that count as the first place g
unfoldable pub leading_into : ℕ → ℕ → ℕ → List SignedPlace
leading_into p q g =
    let r = g % q + 1 in
    cond (eqb r q) (plus g ∷ []) (plus g ∷ signed_place (ltb (g / q + 1) (half p)) (half p * q + (nearer r q - 1)) ∷ [])

-- stretches of q places, every second one with the sign changed, of which the last is half as long
abbrev pub stretches : ℕ → ℕ → ℕ → List SignedPlace
stretches q g zero = []
stretches q g (suc k) = signed_place (is_odd k) (k * q + g) ∷ signed_place (is_odd k) (k * q + q - 2 - g) ∷ stretches q g k

unfoldable pub periodic_into : ℕ → ℕ → ℕ → List SignedPlace
periodic_into n q g = signed_place (is_odd (n / q)) (n / q * q + g) ∷ stretches q g (n / q)

abbrev pub into : ℕ → ℕ → ℕ → ℕ → ℕ → List SignedPlace
into n p q c g = cond (eqb c 1) (leading_into p q g) (cond (eqb c 2) (periodic_into n q g) (periodic_into n p g))
