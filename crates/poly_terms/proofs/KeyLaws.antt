-- Laws of sums over packed monomials and of merging their rows of products.
use Rattle.std.proofs.Common.{◌≡◌, ℕ, ◌+◌, ◌<◌, ◌≤◌, List, [], ◌∷◌, ◌++◌, map, length, drop, get_or}
use Rattle.std.proofs.Common.{refl, ap, sym, ◌∙◌, subst, arith, true, append_assoc, max}
use Rattle.std.specs.Prelude.{ℤ, pos, ◌+ℤ◌, ◌*ℤ◌}
use Rattle.std.proofs.lemmas.Int.{ints}
use Rattle.std.proofs.lemmas.List.{drop_more}
use Rattle.linear_forms.proofs.int_laws.RingLaws.{add-mul_ℤ, mul_comm_ℤ}
use Rattle.model.specs.Polynomials as plain
use Rattle.model.specs.Polynomials.{degree_of}
use Rattle.poly_terms.specs.declared.keyed.Key.{Key}
use Rattle.poly_terms.specs.declared.keyed.Keyed.{Keyed}
use Rattle.poly_terms.specs.Expanding.{products, product_of, sum_of}
use Rattle.poly_terms.specs.Keys.{number_of, key_sum, no_factors, factors_at, monomials_at, ascend_from, product_at}
use Rattle.poly_terms.specs.Keys.{all_products, total_at}
use Rattle.poly_terms.specs.Keys.{reach_at, IsMergedFrom}
use Rattle.poly_terms.specs.Totals.{total, IsSamePolynomial}
use Rattle.poly_terms.proofs.FactorLaws.{products-at}
use Rattle.poly_terms.proofs.FormLaws.{degree-products}
use Rattle.poly_terms.proofs.TotalLaws.{same-sums}

-- the total of an appended list is the sum of the totals
total-at-append : (h : Key → ℤ) (es fs : List Keyed) → total_at h (es ++ fs) ≡ total_at h es +ℤ total_at h fs
total-at-append h [] fs = nothing _
  where
    nothing : (z : ℤ) → z ≡ pos 0 +ℤ z
    nothing z = omega (arith, ints)
total-at-append h (e ∷ es) fs = regroup _ _ _ _ (total-at-append h es fs)
  where
    regroup : (a b c d : ℤ) → a ≡ b +ℤ c → d +ℤ a ≡ (d +ℤ b) +ℤ c
    regroup a b c d e = omega (arith, ints)

-- the greatest measure of an appended list is the greater one of its parts
reach-append : (d : Key → ℕ) (es fs : List Keyed) → reach_at d (es ++ fs) ≡ max (reach_at d es) (reach_at d fs)
reach-append d [] fs = omega arith
reach-append d (e ∷ es) fs = omega (arith, reach-append d es fs)

-- a list is merged from an equal one
pub same-list : (es fs : List Keyed) → es ≡ fs → IsMergedFrom es fs
same-list es fs e = record { totals = λ h. ap (total_at h) e; reach = λ d. omega (arith, ap (reach_at d) e) }

-- merging is transitive
pub same-then : (es fs gs : List Keyed) → IsMergedFrom es fs → IsMergedFrom fs gs → IsMergedFrom es gs
same-then es fs gs p q = record {
  totals = λ h. p.totals h ∙ q.totals h;
  reach = λ d. omega (arith, p.reach d, q.reach d);
}

-- a monomial may be appended instead of prepended
pub put-behind : (ms rest : List Keyed) (f : Keyed) → IsMergedFrom ((ms ++ f ∷ []) ++ rest) (f ∷ (ms ++ rest))
put-behind ms rest f = record {
  totals = λ h. regroup _ _ _ _ _ _ (total-at-append h (ms ++ f ∷ []) rest) (total-at-append h ms (f ∷ [])) (total-at-append h ms rest);
  reach = λ d. omega (arith, reach-append d (ms ++ f ∷ []) rest, reach-append d ms (f ∷ []), reach-append d ms rest);
}
  where
    regroup : (a b c d e f : ℤ) → a ≡ b +ℤ c → b ≡ d +ℤ (e +ℤ pos 0) → f ≡ d +ℤ c → a ≡ e +ℤ f
    regroup a b c d e f p q r = omega (arith, ints, p, q, r)

-- appending others to both sides preserves merging
pub others-behind : (ns ms rest : List Keyed) (e f : Keyed) → IsMergedFrom ns (f ∷ (ms ++ e ∷ []))
    → IsMergedFrom (ns ++ rest) (f ∷ (ms ++ e ∷ rest))
others-behind ns ms rest e f p = record {
  totals = λ h. regroup _ _ _ _ _ _ _ _ (total-at-append h ns rest) (p.totals h) (total-at-append h ms (e ∷ [])) (total-at-append h ms (e ∷ rest));
  reach = λ d. omega (arith, reach-append d ns rest, p.reach d, reach-append d ms (e ∷ []), reach-append d ms (e ∷ rest));
}
  where
    regroup : (a b c d x y z w : ℤ) → a ≡ b +ℤ c → b ≡ d +ℤ x → x ≡ y +ℤ (z +ℤ pos 0) → w ≡ y +ℤ (z +ℤ c) → a ≡ d +ℤ w
    regroup a b c d x y z w p q r s = omega (arith, ints, p, q, r, s)

-- two monomials with the same key whose sum is 0 may be removed
pub sum-gone : (ms : List Keyed) (e f : Keyed) → e.key ≡ f.key → e.coef +ℤ f.coef ≡ pos 0 → IsMergedFrom ms (f ∷ (ms ++ e ∷ []))
sum-gone ms e f k z = record {
  totals = λ h. regroup (total_at h ms) _ e.coef f.coef (h e.key) (h f.key) (ap h k) z (total-at-append h ms (e ∷ []));
  reach = λ d. omega (arith, reach-append d ms (e ∷ []));
}
  where
    regroup : (a b x y v w : ℤ) → v ≡ w → x +ℤ y ≡ pos 0 → b ≡ a +ℤ ((x *ℤ v) +ℤ pos 0) → a ≡ (y *ℤ w) +ℤ b
    regroup a b x y v w e g r = omega (arith, ints, r, add-mul_ℤ x y w, ap (λ (z : ℤ). z *ℤ w) g, ap (λ (z : ℤ). x *ℤ z) e)

-- two monomials with the same key may be replaced by their sum, appended
pub sum-behind : (ms : List Keyed) (e f s : Keyed) → e.key ≡ f.key → s.key ≡ f.key → s.coef ≡ e.coef +ℤ f.coef
    → IsMergedFrom (ms ++ s ∷ []) (f ∷ (ms ++ e ∷ []))
sum-behind ms e f s k l z = record {
  totals = λ h. regroup (total_at h ms) _ _ e.coef f.coef s.coef (h e.key) (h f.key) (h s.key) (ap h k) (ap h l) z
      (total-at-append h ms (e ∷ [])) (total-at-append h ms (s ∷ []));
  reach = λ d. omega (arith, reach-append d ms (s ∷ []), reach-append d ms (e ∷ []), ap d l);
}
  where
    regroup : (a b c x y t u v w : ℤ) → u ≡ v → w ≡ v → t ≡ x +ℤ y → b ≡ a +ℤ ((x *ℤ u) +ℤ pos 0) → c ≡ a +ℤ ((t *ℤ w) +ℤ pos 0)
        → c ≡ (y *ℤ v) +ℤ b
    regroup a b c x y t u v w e f g r s =
        omega (arith, ints, r, s, add-mul_ℤ x y v, ap (λ (z : ℤ). z *ℤ v) g, ap (λ (z : ℤ). x *ℤ z) e, ap (λ (z : ℤ). t *ℤ z) f)

-- after one more product of a row is merged
pub row-step : (xs zs rest whole : List Keyed) (f : Keyed) → IsMergedFrom zs (f ∷ xs) → IsMergedFrom (xs ++ f ∷ rest) whole
    → IsMergedFrom (zs ++ rest) whole
row-step xs zs rest whole f p q = record {
  totals = λ h. regroup _ _ _ _ _ _ (total-at-append h zs rest) (p.totals h) (total-at-append h xs (f ∷ rest)) ∙ q.totals h;
  reach = λ d. omega (arith, reach-append d zs rest, p.reach d, reach-append d xs (f ∷ rest), q.reach d);
}
  where
    regroup : (a b c d x w : ℤ) → a ≡ b +ℤ c → b ≡ d +ℤ x → w ≡ x +ℤ (d +ℤ c) → a ≡ w
    regroup a b c d x w p q s = omega (arith, ints, p, q, s)

-- after one more row is merged
pub rows-step : (xs row zs rest whole : List Keyed) → IsMergedFrom zs (xs ++ row) → IsMergedFrom (xs ++ (row ++ rest)) whole
    → IsMergedFrom (zs ++ rest) whole
rows-step xs row zs rest whole p q = record {
  totals = λ h. total-at-append h zs rest
      ∙ (ap (λ (z : ℤ). z +ℤ total_at h rest) (p.totals h)
      ∙ (sym (total-at-append h (xs ++ row) rest) ∙ (ap (total_at h) (append_assoc xs row rest) ∙ q.totals h)));
  reach = λ d. omega (arith, reach-append d zs rest, p.reach d, reach-append d xs row, reach-append d xs (row ++ rest), reach-append d row rest, q.reach d);
}

-- the elements from i on are the one at i and those after it
pub keyed-from : (es : List Keyed) (i : ℕ) (e : Keyed) → i < length es → e ≡ get_or es i e → drop i es ≡ e ∷ drop (i + 1) es
keyed-from es i e l f = drop_more es i e l ∙ ap (λ (d : Keyed). d ∷ drop (i + 1) es) (sym f)

-- after one more element is moved
pub moved : (ms es : List Keyed) (i : ℕ) (e : Keyed) → i < length es → e ≡ get_or es i e
    → (ms ++ e ∷ []) ++ drop (i + 1) es ≡ ms ++ drop i es
moved ms es i e l f = append_assoc ms (e ∷ []) (drop (i + 1) es) ∙ ap (λ (us : List Keyed). ms ++ us) (sym (keyed-from es i e l f))

-- after one element is combined with the next product
pub others-at : (ns ms es : List Keyed) (i : ℕ) (f d : Keyed) → i < length es → IsMergedFrom ns (f ∷ (ms ++ get_or es i d ∷ []))
    → IsMergedFrom (ns ++ drop (i + 1) es) (f ∷ (ms ++ drop i es))
others-at ns ms es i f d l p =
    subst (λ (rest : List Keyed). IsMergedFrom (ns ++ drop (i + 1) es) (f ∷ (ms ++ rest))) (sym (drop_more es i d l))
    (others-behind ns ms (drop (i + 1) es) (get_or es i d) f p)

-- the sum of two keys doesn't depend on their order
key-swapped : (k l : Key) → key_sum k l ≡ key_sum l k
key-swapped k l = λ i. record { high = swapped k.high l.high i; low = swapped k.low l.low i }
  where
    swapped : (x y : ℕ) → x + y ≡ y + x
    swapped x y = omega arith

-- the total of all products with one more monomial in the second list
total-column : (h : Key → ℤ) (es fs : List Keyed) (f : Keyed)
    → total_at h (all_products es (f ∷ fs)) ≡ total_at h (map (product_at f) es) +ℤ total_at h (all_products es fs)
total-column h [] fs f = omega (arith, ints)
total-column h (e ∷ es) fs f =
    regroup _ _ _ _ _ _ _ _ (cell e.coef f.coef (h (key_sum e.key f.key)) (h (key_sum f.key e.key)) (ap h (key-swapped e.key f.key)))
    (total-at-append h (map (product_at e) fs) (all_products es (f ∷ fs)))
    (total-at-append h (map (product_at e) fs) (all_products es fs)) (total-column h es fs f)
  where
    cell : (a b x y : ℤ) → x ≡ y → (a *ℤ b) *ℤ x ≡ (b *ℤ a) *ℤ y
    cell a b x y e = λ i. mul_comm_ℤ a b i *ℤ e i

    regroup : (a b c d x y z v : ℤ) → a ≡ b → c ≡ d +ℤ x → y ≡ d +ℤ z → x ≡ v +ℤ z → a +ℤ c ≡ (b +ℤ v) +ℤ y
    regroup a b c d x y z v p q r s = omega (arith, ints, p, q, r, s)

-- the total of the products with the empty list is 0
total-none : (h : Key → ℤ) (es : List Keyed) → total_at h (all_products es []) ≡ pos 0
total-none h [] = refl
total-none h (e ∷ es) = total-none h es

-- the total of all products doesn't depend on the order of the factors
total-swapped : (h : Key → ℤ) (es fs : List Keyed) → total_at h (all_products es fs) ≡ total_at h (all_products fs es)
total-swapped h es [] = total-none h es
total-swapped h es (f ∷ fs) =
    total-column h es fs f
    ∙ (ap (λ (z : ℤ). total_at h (map (product_at f) es) +ℤ z) (total-swapped h es fs)
    ∙ sym (total-at-append h (map (product_at f) es) (all_products fs es)))

-- the greatest measure of all products doesn't depend on the order of the factors
reach-none : (d : Key → ℕ) (es : List Keyed) → reach_at d (all_products es []) ≡ 0
reach-none d [] = refl
reach-none d (e ∷ es) = reach-none d es

reach-column : (d : Key → ℕ) (es fs : List Keyed) (f : Keyed)
    → reach_at d (all_products es (f ∷ fs)) ≡ max (reach_at d (map (product_at f) es)) (reach_at d (all_products es fs))
reach-column d [] fs f = omega arith
reach-column d (e ∷ es) fs f =
    omega (
      arith,
      ap d (key-swapped e.key f.key),
      reach-append d (map (product_at e) fs) (all_products es (f ∷ fs)),
      reach-append d (map (product_at e) fs) (all_products es fs),
      reach-column d es fs f,
    )

reach-swapped : (d : Key → ℕ) (es fs : List Keyed) → reach_at d (all_products es fs) ≡ reach_at d (all_products fs es)
reach-swapped d es [] = reach-none d es
reach-swapped d es (f ∷ fs) =
    omega (arith, reach-column d es fs f, reach-swapped d es fs, reach-append d (map (product_at f) es) (all_products fs es))

-- the products in one order of the factors are merged from those in the other
pub same-swapped : (es fs : List Keyed) → IsMergedFrom (all_products es fs) (all_products fs es)
same-swapped es fs = record { totals = λ h. total-swapped h es fs; reach = λ d. omega (arith, reach-swapped d es fs) }

-- the products with 1 are the list itself
pub products-one : (es : List Keyed) → IsMergedFrom (all_products es (record { key = no_factors; coef = pos 1 } ∷ [])) es
products-one [] = record { totals = λ h. refl; reach = λ d. omega arith }
products-one (e ∷ es) = record {
  totals = λ h. (λ i. (once e.coef i *ℤ h (alone e.key i)) +ℤ (products-one es).totals h i);
  reach = λ d. omega (arith, ap d (alone e.key), (products-one es).reach d);
}
  where
    once : (x : ℤ) → x *ℤ pos 1 ≡ x
    once x = omega (arith, ints)

    zero : (n : ℕ) → n + 0 ≡ n
    zero n = omega arith

    alone : (k : Key) → key_sum k no_factors ≡ k
    alone k = λ i. record { high = zero k.high i; low = zero k.low i }

-- a total over packed monomials is the total over the monomials
total-monomials : (g : List ℕ → ℤ) (table : List ℕ) (es : List Keyed)
    → total g (monomials_at table es) ≡ total_at (λ k. g (factors_at table (number_of k))) es
total-monomials g table [] = refl
total-monomials g table (e ∷ es) = ap (λ (z : ℤ). (e.coef *ℤ g (factors_at table (number_of e.key))) +ℤ z) (total-monomials g table es)

-- the greatest number of factors is the degree
degree-reach : (table : List ℕ) (es : List Keyed) → degree_of (monomials_at table es) ≡ reach_at (λ k. length (factors_at table (number_of k))) es
degree-reach table [] = refl
degree-reach table (e ∷ es) = ap (max (length (factors_at table (number_of e.key)))) (degree-reach table es)

-- merging doesn't increase the degree
pub degree-merged : (table : List ℕ) (es fs : List Keyed) → IsMergedFrom es fs
    → degree_of (monomials_at table es) ≤ degree_of (monomials_at table fs)
degree-merged table es fs h =
    omega (arith, degree-reach table es, degree-reach table fs, h.reach (λ k. length (factors_at table (number_of k))))

-- the degree of what is merged from products is at most the sum of the degrees
pub degree-merged-products : (table : List ℕ) (es fs ks : List Keyed) → ascend_from 0 table ≡ true
    → degree_of (monomials_at table es) + degree_of (monomials_at table fs) ≤ 15 → IsMergedFrom ks (all_products es fs)
    → degree_of (monomials_at table ks) ≤ degree_of (monomials_at table es) + degree_of (monomials_at table fs)
degree-merged-products table es fs ks h l s =
    omega (
      arith,
      degree-merged table ks (all_products es fs) s,
      ap degree_of (products-at table es fs h l),
      degree-products (monomials_at table es) (monomials_at table fs),
    )

-- lists with the same totals denote the same polynomial
pub same-at : (table : List ℕ) (es fs : List Keyed) → IsMergedFrom es fs → IsSamePolynomial (monomials_at table es) (monomials_at table fs)
same-at table es fs h = record {
  totals = λ g. total-monomials g table es ∙ (h.totals (λ k. g (factors_at table (number_of k))) ∙ sym (total-monomials g table fs));
}

-- a list with the totals of all products denotes the polynomial of these products
pub same-products-at : (table : List ℕ) (es fs ks : List Keyed) → ascend_from 0 table ≡ true
    → degree_of (monomials_at table es) + degree_of (monomials_at table fs) ≤ 15 → IsMergedFrom ks (all_products es fs)
    → IsSamePolynomial (monomials_at table ks) (products (monomials_at table es) (monomials_at table fs))
same-products-at table es fs ks h l s =
    subst (IsSamePolynomial (monomials_at table ks)) (products-at table es fs h l) (same-at table ks (all_products es fs) s)

-- the sum of such a list is the product
pub product-at : (table : List ℕ) (es fs ks : List Keyed) (p q : plain.Polynomial) → monomials_at table es ≡ p → monomials_at table fs ≡ q
    → ascend_from 0 table ≡ true → degree_of p + degree_of q ≤ 15 → IsMergedFrom ks (all_products es fs)
    → sum_of [] (monomials_at table ks) ≡ product_of p q
product-at table es fs ks p q e f h l s =
    same-sums (monomials_at table ks) (products (monomials_at table es) (monomials_at table fs))
    (same-products-at table es fs ks h (omega (arith, l, ap degree_of e, ap degree_of f)) s)
    ∙ (λ i. sum_of [] (products (e i) (f i)))

-- the next product of a row is the next one to be merged
pub row-next : (xs right whole : List Keyed) (e d f : Keyed) (k : ℕ) → k < length right → f ≡ product_at e (get_or right k d)
    → IsMergedFrom (xs ++ map (product_at e) (drop k right)) whole
    → IsMergedFrom (xs ++ f ∷ map (product_at e) (drop (k + 1) right)) whole
row-next xs right whole e d f k l is p =
    subst (λ (g : Keyed). IsMergedFrom (xs ++ g ∷ map (product_at e) (drop (k + 1) right)) whole) (sym is)
    (subst (λ (es : List Keyed). IsMergedFrom (xs ++ map (product_at e) es) whole) (drop_more right k d l) p)

-- the next row is the next one to be merged
pub rows-next : (xs ys left right zs whole : List Keyed) (d : Keyed) (k : ℕ) → k < length left → ys ≡ xs
    → IsMergedFrom zs (ys ++ map (product_at (get_or left k d)) right)
    → IsMergedFrom (xs ++ all_products (drop k left) right) whole
    → IsMergedFrom (zs ++ all_products (drop (k + 1) left) right) whole
rows-next xs ys left right zs whole d k l is p q =
    rows-step xs (map (product_at (get_or left k d)) right) zs (all_products (drop (k + 1) left) right) whole
    (subst (λ (us : List Keyed). IsMergedFrom zs (us ++ map (product_at (get_or left k d)) right)) is p)
    (subst (λ (es : List Keyed). IsMergedFrom (xs ++ all_products es right) whole) (drop_more left k d l) q)
