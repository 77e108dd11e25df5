-- Lists of monomials with the same totals have the same sum, and so have their products.
use Rattle.std.proofs.Common.{◌≡◌, ℕ, List, [], ◌∷◌, ◌++◌, map, Bool, true, false, refl, ap, sym, ◌∙◌, arith}
use Rattle.std.proofs.Common.{if◌then◌else◌}
use Rattle.std.specs.Prelude.{ℤ, pos, ◌+ℤ◌, ◌*ℤ◌}
use Rattle.std.specs.declared.cmp.Ordering.{Ordering}
use Rattle.std.specs.declared.cmp.Ordering.TheVariants.{Less, Equal, Greater}
use Rattle.std.specs.Ordering.{match_ordering, ordering_reverse}
use Rattle.std.proofs.lemmas.Cmp.{nat_list_cmp_total}
use Rattle.std.proofs.lemmas.Int.{ints}
use Rattle.std.proofs.lemmas.Map.Lookups.{exact_bytes}
use Rattle.linear_forms.specs.int_laws.NormalForm.{is_zero}
use Rattle.linear_forms.specs.int_laws.Polynomial.{variable, ◌⊕◌, ◌⊗◌}
use Rattle.linear_forms.proofs.int_laws.Identities.{identity}
use Rattle.linear_forms.proofs.int_laws.RingLaws.{add-mul_ℤ, zero-mul_ℤ, mul-zero_ℤ, mul-one_ℤ}
use Rattle.model.specs.Polynomials.{Monomial, Polynomial}
use Rattle.poly_terms.specs.Expanding.{order, added, all_added, without_zeros, sum_of, all_inserted, multiplied}
use Rattle.poly_terms.specs.Expanding.{products, product_of}
use Rattle.poly_terms.specs.Ordered.{IsBefore, IsAscending, HasNoZero, IsOrdered}
use Rattle.poly_terms.specs.Totals.{total, IsSamePolynomial}
use Rattle.poly_terms.proofs.OrderLaws.{order-flip, before-all, ascending-all_added, ascending-without_zeros}
use Rattle.poly_terms.proofs.OrderLaws.{nonzero-without_zeros}
use Rattle.poly_terms.proofs.MergeLaws.{added-to-none}
use Rattle.poly_terms.proofs.Values.{zero_is}

-- the total after adding a monomial
pub total-added : (g : List ℕ → ℤ) (m : Monomial) (ts : Polynomial)
    → total g (added m ts) ≡ (m.coef *ℤ g m.vars) +ℤ total g ts
total-added g m [] = refl
total-added g m (t ∷ ts) = go (order m.vars t.vars) refl (total-added g m ts)
  where
    after : (a b c d : ℤ) → a ≡ b +ℤ c → d +ℤ a ≡ b +ℤ (d +ℤ c)
    after a b c d e = omega (arith, ints)

    same : (x y v w r : ℤ) → v ≡ w → ((y +ℤ x) *ℤ w) +ℤ r ≡ (x *ℤ v) +ℤ ((y *ℤ w) +ℤ r)
    same x y v w r e = omega (arith, ints, add-mul_ℤ y x w, ap (λ (z : ℤ). x *ℤ z) e)

    go : (o : Ordering) → order m.vars t.vars ≡ o
        → total g (added m ts) ≡ (m.coef *ℤ g m.vars) +ℤ total g ts
        → total g (match_ordering o (m ∷ t ∷ ts) (record { coef = t.coef +ℤ m.coef; vars = t.vars } ∷ ts)
        (t ∷ added m ts))
        ≡ (m.coef *ℤ g m.vars) +ℤ ((t.coef *ℤ g t.vars) +ℤ total g ts)
    go Less e ih = refl
    go Equal e ih = same m.coef t.coef _ _ _ (ap g (exact_bytes m.vars t.vars e))
    go Greater e ih = after _ _ _ _ ih

-- the total after adding all monomials of a list
pub total-all_added : (g : List ℕ → ℤ) (ts : Polynomial) (ms : List Monomial)
    → total g (all_added ts ms) ≡ total g ts +ℤ total g ms
total-all_added g ts [] = nothing _
  where
    nothing : (z : ℤ) → z ≡ z +ℤ pos 0
    nothing z = omega (arith, ints)
total-all_added g ts (m ∷ ms) = regroup _ _ _ _ _ (total-all_added g (added m ts) ms) (total-added g m ts)
  where
    regroup : (a b c d e : ℤ) → a ≡ b +ℤ c → b ≡ d +ℤ e → a ≡ e +ℤ (d +ℤ c)
    regroup a b c d e f h = omega (arith, ints)

-- removing zeros doesn't change the total
pub total-without_zeros : (g : List ℕ → ℤ) (ms : Polynomial) → total g (without_zeros ms) ≡ total g ms
total-without_zeros g [] = refl
total-without_zeros g (m ∷ ms) = go (is_zero m.coef) refl (total-without_zeros g ms)
  where
    gone : (a b z : ℤ) → a ≡ b → z ≡ pos 0 → a ≡ z +ℤ b
    gone a b z e f = omega (arith, ints)

    go : (b : Bool) → is_zero m.coef ≡ b → total g (without_zeros ms) ≡ total g ms
        → total g (if b then without_zeros ms else m ∷ without_zeros ms) ≡ (m.coef *ℤ g m.vars) +ℤ total g ms
    go true e ih = gone _ _ _ ih (zero-mul_ℤ m.coef (g m.vars) (zero_is m.coef e))
    go false e ih = ap (λ (z : ℤ). (m.coef *ℤ g m.vars) +ℤ z) ih

-- the sum of monomials denotes the same polynomial as their list
pub same-sum_of : (ms : List Monomial) → IsSamePolynomial (sum_of [] ms) ms
same-sum_of ms = record {
  totals = λ g. total-without_zeros g (all_added [] ms) ∙ (total-all_added g [] ms ∙ nothing _);
}
  where
    nothing : (z : ℤ) → pos 0 +ℤ z ≡ z
    nothing z = omega (arith, ints)

-- the total of an appended list is the sum of the totals
pub total-append : (g : List ℕ → ℤ) (p q : List Monomial) → total g (p ++ q) ≡ total g p +ℤ total g q
total-append g [] q = nothing _
  where
    nothing : (z : ℤ) → z ≡ pos 0 +ℤ z
    nothing z = omega (arith, ints)
total-append g (m ∷ p) q = regroup _ _ _ _ (total-append g p q)
  where
    regroup : (a b c d : ℤ) → a ≡ b +ℤ c → d +ℤ a ≡ (d +ℤ b) +ℤ c
    regroup a b c d e = omega (arith, ints)

-- the total of a monomial times a polynomial
pub total-row : (g : List ℕ → ℤ) (m : Monomial) (q : Polynomial)
    → total g (map (multiplied m) q) ≡ m.coef *ℤ total (λ us. g (all_inserted m.vars us)) q
total-row g m [] = nothing m.coef
  where
    nothing : (z : ℤ) → pos 0 ≡ z *ℤ pos 0
    nothing z = omega (arith, ints)
total-row g m (n ∷ q) = both _ m.coef n.coef (g (all_inserted m.vars n.vars)) _ (total-row g m q)
  where
    distribute : (x y z r : ℤ) → ((x *ℤ y) *ℤ z) +ℤ (x *ℤ r) ≡ x *ℤ ((y *ℤ z) +ℤ r)
    distribute x y z r = identity (x ∷ y ∷ z ∷ r ∷ [])
        ((variable 0 ⊗ variable 1) ⊗ variable 2 ⊕ variable 0 ⊗ variable 3)
        (variable 0 ⊗ (variable 1 ⊗ variable 2 ⊕ variable 3)) refl

    both : (a x y z r : ℤ) → a ≡ x *ℤ r → ((x *ℤ y) *ℤ z) +ℤ a ≡ x *ℤ ((y *ℤ z) +ℤ r)
    both a x y z r e = ap (λ (u : ℤ). ((x *ℤ y) *ℤ z) +ℤ u) e ∙ distribute x y z r

-- the total of all products of two polynomials' monomials
pub total-products : (g : List ℕ → ℤ) (p q : Polynomial)
    → total g (products p q) ≡ total (λ vs. total (λ us. g (all_inserted vs us)) q) p
total-products g [] q = refl
total-products g (m ∷ p) q =
    total-append g (map (multiplied m) q) (products p q)
    ∙ (λ i. total-row g m q i +ℤ total-products g p q i)

-- products of the same polynomials are the same
pub same-products : (p p' q q' : List Monomial) → IsSamePolynomial p p' → IsSamePolynomial q q'
    → IsSamePolynomial (products p q) (products p' q')
same-products p p' q q' h k = record { totals = whole }
  where
    whole : (g : List ℕ → ℤ) → total g (products p q) ≡ total g (products p' q')
    whole g =
        total-products g p q
        ∙ (h.totals (λ vs. total (λ us. g (all_inserted vs us)) q)
        ∙ ((λ i. total (λ vs. k.totals (λ us. g (all_inserted vs us)) i) p') ∙ sym (total-products g p' q')))

-- the function that is 1 at these variables, and 0 elsewhere
abbrev pub one_at : List ℕ → List ℕ → ℤ
one_at vs ws = match_ordering (order vs ws) (pos 0) (pos 1) (pos 0)

-- variables that come before those of all monomials have the coefficient 0
total-before : (vs : List ℕ) (p : Polynomial) → IsBefore vs p → total (one_at vs) p ≡ pos 0
total-before vs [] h = refl
total-before vs (m ∷ p) h =
    both _ _
    (mul-zero_ℤ m.coef (one_at vs m.vars) (ap (λ (o : Ordering). match_ordering o (pos 0) (pos 1) (pos 0)) h.0))
    (total-before vs p h.1)
  where
    both : (a b : ℤ) → a ≡ pos 0 → b ≡ pos 0 → a +ℤ b ≡ pos 0
    both a b e f = omega (arith, ints)

-- variables are equal to themselves in the order
tied-self : (vs : List ℕ) → order vs vs ≡ Equal
tied-self vs = fixed (order vs vs) (nat_list_cmp_total.antisymm vs vs)
  where
    fixed : (o : Ordering) → o ≡ ordering_reverse o → o ≡ Equal
    fixed Less e = cc
    fixed Equal e = refl
    fixed Greater e = cc

-- the first monomial's variables have its coefficient
total-first : (m : Monomial) (p : Polynomial) → IsBefore m.vars p → total (one_at m.vars) (m ∷ p) ≡ m.coef
total-first m p h =
    both _ _ _
    (mul-one_ℤ m.coef (one_at m.vars m.vars)
    (ap (λ (o : Ordering). match_ordering o (pos 0) (pos 1) (pos 0)) (tied-self m.vars)))
    (total-before m.vars p h)
  where
    both : (a b c : ℤ) → a ≡ c → b ≡ pos 0 → a +ℤ b ≡ c
    both a b c e f = omega (arith, ints)

-- two ordered polynomials without zeros that denote the same polynomial are equal
pub same-unique : (p q : Polynomial) → IsAscending p → HasNoZero p → IsAscending q → HasNoZero q
    → IsSamePolynomial p q → p ≡ q
same-unique [] [] a y b z h = refl
same-unique [] (n ∷ q) a y b z h = absurd (z.0 (sym (total-first n q b.0) ∙ sym (h.totals (one_at n.vars))))
same-unique (m ∷ p) [] a y b z h = absurd (y.0 (sym (total-first m p a.0) ∙ h.totals (one_at m.vars)))
same-unique (m ∷ p) (n ∷ q) a y b z h = go (order m.vars n.vars) refl (same-unique p q a.1 y.1 b.1 z.1)
  where
    cancel : (v w s t : ℤ) → v +ℤ s ≡ w +ℤ t → v ≡ w → s ≡ t
    cancel v w s t e f = omega (arith, ints)

    coefs : m.vars ≡ n.vars → m.coef ≡ n.coef
    coefs e =
        sym (total-first m p a.0)
        ∙ (h.totals (one_at m.vars) ∙ (ap (λ (vs : List ℕ). total (one_at vs) (n ∷ q)) e ∙ total-first n q b.0))

    rest : m.vars ≡ n.vars → IsSamePolynomial p q
    rest e = record { totals = λ g. cancel _ _ _ _ (h.totals g) (λ i. coefs e i *ℤ g (e i)) }

    go : (o : Ordering) → order m.vars n.vars ≡ o → (IsSamePolynomial p q → p ≡ q) → m ∷ p ≡ n ∷ q
    go Less e ih =
        let none = total-before m.vars (n ∷ q) (e, before-all m.vars n.vars q e b.0) in
        absurd (y.0 (sym (total-first m p a.0) ∙ (h.totals (one_at m.vars) ∙ none)))
    go Equal e ih =
        let same = exact_bytes m.vars n.vars e in
        let coef = coefs same in
        let others = ih (rest same) in
        λ i. record { coef = coef i; vars = same i } ∷ others i
    go Greater e ih =
        let f = order-flip m.vars n.vars e in
        let none = total-before n.vars (m ∷ p) (f, before-all n.vars m.vars p f a.0) in
        absurd (z.0 (sym (total-first n q b.0) ∙ (sym (h.totals (one_at n.vars)) ∙ none)))

-- lists that denote the same polynomial have the same sum
pub same-sums : (ms ns : List Monomial) → IsSamePolynomial ms ns → sum_of [] ms ≡ sum_of [] ns
same-sums ms ns h =
    same-unique (sum_of [] ms) (sum_of [] ns)
    (ascending-without_zeros (all_added [] ms) (ascending-all_added [] ms tt)) (nonzero-without_zeros (all_added [] ms))
    (ascending-without_zeros (all_added [] ns) (ascending-all_added [] ns tt)) (nonzero-without_zeros (all_added [] ns))
    (record { totals = λ g. (same-sum_of ms).totals g ∙ (h.totals g ∙ sym ((same-sum_of ns).totals g)) })

-- a list whose sum is a polynomial denotes that polynomial
pub same-from_sum : (ms : List Monomial) (p : Polynomial) → sum_of [] ms ≡ p → IsSamePolynomial ms p
same-from_sum ms p e = record { totals = λ g. sym ((same-sum_of ms).totals g) ∙ ap (total g) e }

-- the product of two polynomials, by any lists whose sums they are
pub product-by-parts : (ms ns ks : List Monomial) (p q : Polynomial) → sum_of [] ms ≡ p → sum_of [] ns ≡ q
    → IsSamePolynomial ks (products ms ns) → sum_of [] ks ≡ product_of p q
product-by-parts ms ns ks p q e f h =
    let same = same-products ms p ns q (same-from_sum ms p e) (same-from_sum ns q f) in
    same-sums ks (products p q) (record { totals = λ g. h.totals g ∙ same.totals g })

-- removing zeros from a polynomial without any changes nothing
without_zeros-none : (p : Polynomial) → HasNoZero p → without_zeros p ≡ p
without_zeros-none [] h = refl
without_zeros-none (m ∷ p) h = go (is_zero m.coef) refl (without_zeros-none p h.1)
  where
    go : (b : Bool) → is_zero m.coef ≡ b → without_zeros p ≡ p
        → (if b then without_zeros p else m ∷ without_zeros p) ≡ m ∷ p
    go true e ih = absurd (h.0 (zero_is m.coef e))
    go false e ih = ap (λ (q : Polynomial). m ∷ q) ih

-- an ordered polynomial is its own sum
pub sum-of-ordered : (p : Polynomial) → IsOrdered p → sum_of [] p ≡ p
sum-of-ordered p h = ap without_zeros (added-to-none p h.ascending) ∙ without_zeros-none p h.nonzero
