-- The product of two packed monomials: if no digit carries, it has the variables of both.
use Rattle.std.proofs.Common.{◌≡◌, ℕ, zero, suc, ◌+◌, ◌/◌, ◌%◌, ◌<◌, ◌≤◌, List, [], ◌∷◌, ◌++◌, map, length, replicate}
use Rattle.std.proofs.Common.{drop, get_or}
use Rattle.std.proofs.Common.{Bool, true, false, refl, ap, sym, ◌∙◌, arith, nat_lt, if◌then◌else◌}
use Rattle.std.specs.Prelude.{◌*ℤ◌}
use Rattle.std.proofs.lemmas.Bool.Decides.{nat_tests}
use Rattle.std.proofs.lemmas.List.{length-append, length-replicate, map-append, drop_more}
use Rattle.model.specs.Polynomials.{degree_of}
use Rattle.poly_terms.specs.declared.keyed.Key.{Key}
use Rattle.poly_terms.specs.declared.keyed.Keyed.{Keyed}
use Rattle.poly_terms.specs.Expanding.{inserted, all_inserted, multiplied, products}
use Rattle.poly_terms.specs.Ordered.{AreFrom}
use Rattle.poly_terms.specs.Keys.{number_of, key_sum, factors_at, monomial_at, monomials_at, ascend_from, product_at}
use Rattle.poly_terms.specs.Keys.{all_products}
use Rattle.poly_terms.proofs.OrderLaws.{from-less}

-- a variable that is at most as great as all others is inserted first
inserted-first : (v : ℕ) (vs : List ℕ) → AreFrom v vs → inserted v vs ≡ v ∷ vs
inserted-first v [] h = refl
inserted-first v (w ∷ ws) h = ap (λ (b : Bool). if b then w ∷ inserted v ws else v ∷ w ∷ ws) (above h.0)
  where
    above : v ≤ w → nat_lt w v ≡ false
    above l = grind (arith, nat_tests)

-- a variable is inserted after copies of a smaller one
inserted-behind : (n v w : ℕ) (vs : List ℕ) → v < w → inserted w (replicate n v ++ vs) ≡ replicate n v ++ inserted w vs
inserted-behind zero v w vs l = refl
inserted-behind (suc n) v w vs l =
    ap (λ (b : Bool). if b then v ∷ inserted w (replicate n v ++ vs) else w ∷ v ∷ (replicate n v ++ vs)) (below l)
    ∙ ap (λ (us : List ℕ). v ∷ us) (inserted-behind n v w vs l)
  where
    below : v < w → nat_lt v w ≡ true
    below k = grind (arith, nat_tests)

-- copies of a variable of at least n, before variables of at least n
from-copies : (n m v : ℕ) (vs : List ℕ) → n ≤ v → AreFrom n vs → AreFrom n (replicate m v ++ vs)
from-copies n zero v vs l h = h
from-copies n (suc m) v vs l h = (l, from-copies n m v vs l h)

-- copies of a variable that is at most as great as all others are inserted first
copies-first : (m n v : ℕ) (vs ws : List ℕ) → AreFrom v vs
    → all_inserted (replicate m v ++ vs) (replicate n v ++ ws) ≡ all_inserted (replicate (m + n) v ++ vs) ws
copies-first m zero v vs ws h =
    ap (λ (k : ℕ). all_inserted (replicate k v ++ vs) ws) (let e : m ≡ m + 0 = omega arith in e)
copies-first m (suc n) v vs ws h =
    ap (λ (us : List ℕ). all_inserted us (replicate n v ++ ws))
    (inserted-first v (replicate m v ++ vs) (from-copies v m v vs (omega arith) h))
    ∙ (copies-first (suc m) n v vs ws h
    ∙ ap (λ (k : ℕ). all_inserted (replicate k v ++ vs) ws) (let e : suc m + n ≡ m + suc n = omega arith in e))

-- greater variables are inserted after the copies
greater-behind : (n v : ℕ) (vs ws : List ℕ) → AreFrom (suc v) ws
    → all_inserted (replicate n v ++ vs) ws ≡ replicate n v ++ all_inserted vs ws
greater-behind n v vs [] h = refl
greater-behind n v vs (w ∷ ws) h =
    ap (λ (us : List ℕ). all_inserted us ws) (inserted-behind n v w vs (omega (arith, h.0)))
    ∙ greater-behind n v (inserted w vs) ws h.1

-- the first variable of an ascending table is at least n, and the others are greater than it
ascend-first : (n v : ℕ) (vs : List ℕ) → ascend_from n (v ∷ vs) ≡ true → n ≤ v
ascend-first n v vs h = go (nat_lt v n) refl h
  where
    from : nat_lt v n ≡ false → n ≤ v
    from e = grind (arith, nat_tests)

    go : (b : Bool) → nat_lt v n ≡ b → (if b then false else ascend_from (suc v) vs) ≡ true → n ≤ v
    go true e k = cc
    go false e k = from e

pub ascend-rest : (n v : ℕ) (vs : List ℕ) → ascend_from n (v ∷ vs) ≡ true → ascend_from (suc v) vs ≡ true
ascend-rest n v vs h = go (nat_lt v n) h
  where
    go : (b : Bool) → (if b then false else ascend_from (suc v) vs) ≡ true → ascend_from (suc v) vs ≡ true
    go true k = cc
    go false k = k

-- the variables of a number are at least the table's first
pub factors-from : (n : ℕ) (table : List ℕ) (k : ℕ) → ascend_from n table ≡ true → AreFrom n (factors_at table k)
factors-from n [] k h = tt
factors-from n (v ∷ vs) k h =
    let l = ascend-first n v vs h in
    from-copies n (k % 16) v (factors_at vs (k / 16)) l
    (from-less n (suc v) (factors_at vs (k / 16)) (omega (arith, l)) (factors-from (suc v) vs (k / 16) (ascend-rest n v vs h)))

-- the number of variables of a number is its last digit plus that of the others
pub factors-length : (v : ℕ) (vs : List ℕ) (k : ℕ) → length (factors_at (v ∷ vs) k) ≡ k % 16 + length (factors_at vs (k / 16))
factors-length v vs k =
    length-append (replicate (k % 16) v) (factors_at vs (k / 16))
    ∙ ap (λ (n : ℕ). n + length (factors_at vs (k / 16))) (length-replicate (k % 16) v)

-- the number of variables from a digit on: that digit plus the others
pub factors-from-digit : (table : List ℕ) (k rest : ℕ) → k < length table
    → length (factors_at (drop k table) rest) ≡ rest % 16 + length (factors_at (drop (k + 1) table) (rest / 16))
factors-from-digit table k rest l =
    ap (λ (vs : List ℕ). length (factors_at vs rest)) (drop_more table k 0 l) ∙ factors-length (get_or table k 0) (drop (k + 1) table) rest

-- if the variables of two numbers together are at most 15, the sum of the numbers has the variables of both
pub factors-sum : (n : ℕ) (table : List ℕ) (a b : ℕ) → ascend_from n table ≡ true
    → length (factors_at table a) + length (factors_at table b) ≤ 15
    → factors_at table (a + b) ≡ all_inserted (factors_at table a) (factors_at table b)
factors-sum n [] a b h l = refl
factors-sum n (v ∷ vs) a b h l =
    let rest = ascend-rest n v vs h in
    let few = few-both (a % 16) (b % 16) (length (factors_at vs (a / 16))) (length (factors_at vs (b / 16)))
    (factors-length v vs a) (factors-length v vs b) l in
    (λ i. replicate (digits a b few.0 i) v ++ factors_at vs (quotients a b few.0 i))
    ∙ (ap (λ (us : List ℕ). replicate (a % 16 + b % 16) v ++ us) (factors-sum (suc v) vs (a / 16) (b / 16) rest few.1)
    ∙ (sym (greater-behind (a % 16 + b % 16) v (factors_at vs (a / 16)) (factors_at vs (b / 16)) (factors-from (suc v) vs (b / 16) rest))
    ∙ sym (copies-first (a % 16) (b % 16) v (factors_at vs (a / 16)) (factors_at vs (b / 16))
    (from-less v (suc v) (factors_at vs (a / 16)) (omega arith) (factors-from (suc v) vs (a / 16) rest)))))
  where
    few-both : (x y k m : ℕ) → length (factors_at (v ∷ vs) a) ≡ x + k → length (factors_at (v ∷ vs) b) ≡ y + m
        → length (factors_at (v ∷ vs) a) + length (factors_at (v ∷ vs) b) ≤ 15 → (x + y ≤ 15) × (k + m ≤ 15)
    few-both x y k m e f g = (omega (arith, e, f, g), omega (arith, e, f, g))

    digits : (x y : ℕ) → x % 16 + y % 16 ≤ 15 → (x + y) % 16 ≡ x % 16 + y % 16
    digits x y g = omega arith

    quotients : (x y : ℕ) → x % 16 + y % 16 ≤ 15 → (x + y) / 16 ≡ x / 16 + y / 16
    quotients x y g = omega arith

-- the number of a sum of keys is the sum of the numbers
number-sum : (k l : Key) → number_of (key_sum k l) ≡ number_of k + number_of l
number-sum k l = omega arith

-- if the variables of two keys together are at most 15, the sum of the keys has the variables of both
keys-sum : (table : List ℕ) (k l : Key) → ascend_from 0 table ≡ true
    → length (factors_at table (number_of k)) + length (factors_at table (number_of l)) ≤ 15
    → factors_at table (number_of (key_sum k l)) ≡ all_inserted (factors_at table (number_of k)) (factors_at table (number_of l))
keys-sum table k l h few =
    ap (factors_at table) (number-sum k l) ∙ factors-sum 0 table (number_of k) (number_of l) h few

-- a row of packed products unpacks to the row of the products
row-at : (table : List ℕ) (e : Keyed) (fs : List Keyed) → ascend_from 0 table ≡ true
    → length (factors_at table (number_of e.key)) + degree_of (monomials_at table fs) ≤ 15
    → monomials_at table (map (product_at e) fs) ≡ map (multiplied (monomial_at table e)) (monomials_at table fs)
row-at table e [] h l = refl
row-at table e (f ∷ fs) h l =
    let few : length (factors_at table (number_of e.key)) + length (factors_at table (number_of f.key)) ≤ 15 = omega (arith, l) in
    let others : length (factors_at table (number_of e.key)) + degree_of (monomials_at table fs) ≤ 15 = omega (arith, l) in
    λ i. record { coef = e.coef *ℤ f.coef; vars = keys-sum table e.key f.key h few i } ∷ row-at table e fs h others i

-- packed products unpack to the products
pub products-at : (table : List ℕ) (es fs : List Keyed) → ascend_from 0 table ≡ true
    → degree_of (monomials_at table es) + degree_of (monomials_at table fs) ≤ 15
    → monomials_at table (all_products es fs) ≡ products (monomials_at table es) (monomials_at table fs)
products-at table [] fs h l = refl
products-at table (e ∷ es) fs h l =
    let here : length (factors_at table (number_of e.key)) + degree_of (monomials_at table fs) ≤ 15 = omega (arith, l) in
    let others : degree_of (monomials_at table es) + degree_of (monomials_at table fs) ≤ 15 = omega (arith, l) in
    map-append (monomial_at table) (map (product_at e) fs) (all_products es fs)
    ∙ (λ i. row-at table e fs h here i ++ products-at table es fs h others i)
