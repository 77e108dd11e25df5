-- Sums of two ordered polynomials, monomial by monomial from the first one on.
use Rattle.std.proofs.Common.{◌≡◌, ◌≢◌, ℕ, ◌+◌, ◌<◌, List, [], ◌∷◌, ◌++◌, length, refl, ap, sym, ◌∙◌, subst, arith}
use Rattle.std.specs.Prelude.{ℤ, ◌+ℤ◌, Option, Some, None, MatchOption, IfSome}
use Rattle.std.specs.Option.{option_to_list}
use Rattle.std.specs.declared.cmp.Ordering.{Ordering}
use Rattle.std.specs.declared.cmp.Ordering.TheVariants.{Less, Equal, Greater}
use Rattle.std.specs.Ordering.{match_ordering}
use Rattle.std.proofs.lemmas.Cmp.{nat_list_cmp_total, tied_back}
use Rattle.std.proofs.lemmas.Int.{ints}
use Rattle.std.proofs.lemmas.Map.Lookups.{exact_bytes}
use Rattle.model.specs.Polynomials.{Monomial, Polynomial}
use Rattle.poly_terms.specs.declared.poly.Monomial as code
use Rattle.poly_terms.specs.Expanding.{order, added, all_added, without_zeros, sum_of}
use Rattle.poly_terms.specs.Ordered.{IsBefore, IsAscending}
use Rattle.poly_terms.specs.Merging.{first_monomial_order, CanMerge}
use Rattle.poly_terms.specs.Views.{monomial_of, monomials_of}
use Rattle.poly_terms.proofs.OrderLaws.{order-flip, order-back, before-all}

-- a monomial that comes before all added ones is still the first
pub first-stays : (m : Monomial) (p q : Polynomial) → IsBefore m.vars q → all_added (m ∷ p) q ≡ m ∷ all_added p q
first-stays m p [] h = refl
first-stays m p (n ∷ q) h =
    ap (λ (o : Ordering). all_added (match_ordering o (n ∷ m ∷ p) (record { coef = m.coef +ℤ n.coef; vars = m.vars } ∷ p) (m ∷ added n p)) q)
    (order-back m.vars n.vars h.0)
    ∙ first-stays m (added n p) q h.1

-- an ordered polynomial added to the empty one is itself
pub added-to-none : (q : Polynomial) → IsAscending q → all_added [] q ≡ q
added-to-none [] h = refl
added-to-none (n ∷ q) h = first-stays n [] q h.0 ∙ ap (λ (ts : Polynomial). n ∷ ts) (added-to-none q h.1)

-- if the left polynomial's first monomial comes first, it is the first of the sum
pub left-first : (m : Monomial) (p q : Polynomial) → IsAscending q → first_monomial_order (m ∷ p) q ≡ Less → all_added (m ∷ p) q ≡ m ∷ all_added p q
left-first m p [] h e = refl
left-first m p (n ∷ q) h e = first-stays m p (n ∷ q) (e, before-all m.vars n.vars q e h.0)

-- if the right polynomial's first monomial comes first, it is the first of the sum
pub right-first : (n : Monomial) (p q : Polynomial) → IsBefore n.vars q → first_monomial_order p (n ∷ q) ≡ Greater → all_added p (n ∷ q) ≡ n ∷ all_added p q
right-first n [] q h e = first-stays n [] q h
right-first n (m ∷ p) q h e =
    ap (λ (o : Ordering). all_added (match_ordering o (n ∷ m ∷ p) (record { coef = m.coef +ℤ n.coef; vars = m.vars } ∷ p) (m ∷ added n p)) q)
    (order-flip m.vars n.vars e)
    ∙ first-stays n (m ∷ p) q h

-- if both first monomials have the same variables, their sum is the first of the sum
pub both-first : (m n : Monomial) (p q : Polynomial) → IsBefore n.vars q → order m.vars n.vars ≡ Equal
    → all_added (m ∷ p) (n ∷ q) ≡ record { coef = m.coef +ℤ n.coef; vars = m.vars } ∷ all_added p q
both-first m n p q h e =
    ap (λ (o : Ordering). all_added (match_ordering o (n ∷ m ∷ p) (record { coef = m.coef +ℤ n.coef; vars = m.vars } ∷ p) (m ∷ added n p)) q)
    (tied_back nat_list_cmp_total m.vars n.vars e)
    ∙ first-stays (record { coef = m.coef +ℤ n.coef; vars = m.vars }) p q (subst (λ (vs : List ℕ). IsBefore vs q) (sym (exact_bytes m.vars n.vars e)) h)

-- adding a single monomial to an ordered polynomial gives the same in either order
one-added : (m : Monomial) (q : Polynomial) → IsAscending q → all_added (m ∷ []) q ≡ added m q
one-added m [] h = refl
one-added m (n ∷ q) h = go (order m.vars n.vars) refl (one-added m q h.1)
  where
    swap : (x y : ℤ) → x +ℤ y ≡ y +ℤ x
    swap x y = omega (arith, ints)

    whole : order m.vars n.vars ≡ Equal → ◌≡◌ {A = Monomial} (record { coef = m.coef +ℤ n.coef; vars = m.vars }) (record { coef = n.coef +ℤ m.coef; vars = n.vars })
    whole e = λ i. record { coef = swap m.coef n.coef i; vars = exact_bytes m.vars n.vars e i }

    go : (o : Ordering) → order m.vars n.vars ≡ o → all_added (m ∷ []) q ≡ added m q
        → all_added (m ∷ []) (n ∷ q) ≡ match_ordering o (m ∷ n ∷ q) (record { coef = n.coef +ℤ m.coef; vars = n.vars } ∷ q) (n ∷ added m q)
    go Less e ih = left-first m [] (n ∷ q) h e ∙ ap (λ (ts : Polynomial). m ∷ ts) (added-to-none (n ∷ q) h)
    go Equal e ih = both-first m n [] q h.0 e ∙ (λ i. whole e i ∷ added-to-none q h.1 i)
    go Greater e ih = right-first n (m ∷ []) q h.0 e ∙ ap (λ (ts : Polynomial). n ∷ ts) ih

-- a sum with at most one monomial on the left is the sum in the other order
pub short-sum : (p q : Polynomial) → length p < 2 → IsAscending q → sum_of q p ≡ sum_of p q
short-sum [] q l h = ap without_zeros (sym (added-to-none q h))
short-sum (m ∷ []) q l h = ap without_zeros (sym (one-added m q h))
short-sum (m ∷ n ∷ p) q l h = absurd (omega (arith, l))

-- the first monomial of a sum is r, if there is one, and ks and qs are what is left of ls and rs after it
pub record Takes (ls rs : List code.Monomial) (r : Option code.Monomial) (ks qs : List code.Monomial) : Type 0 where
  pub first : MatchOption r
      (all_added (monomials_of ls) (monomials_of rs) ≡ [])
      (λ m. all_added (monomials_of ls) (monomials_of rs) ≡ monomial_of m ∷ all_added (monomials_of ks) (monomials_of qs))
  pub ready : CanMerge (monomials_of ks) (monomials_of qs)
  pub fewer : IfSome r (λ m. length ks + length qs < length ls + length rs)

-- the left list's first monomial is removed
pub takes-left : (ls rs : List code.Monomial) (r : Option code.Monomial) (ks : List code.Monomial) → CanMerge (monomials_of ls) (monomials_of rs)
    → first_monomial_order (monomials_of ls) (monomials_of rs) ≡ Less → ls ≡ option_to_list r ++ ks → (r ≡ None → length ls ≡ 0) → Takes ls rs r ks rs
takes-left [] rs r ks h e is some = cc
takes-left (l ∷ ls) rs None ks h e is some = absurd (omega (arith, some refl))
takes-left (l ∷ ls) rs (Some m) ks h e is some = subst (λ (ns : List code.Monomial). Takes ns rs (Some m) ks rs) (sym is) (record {
  first = left-first (monomial_of m) (monomials_of ks) (monomials_of rs) h.right_ascending (subst (λ (ns : List code.Monomial). first_monomial_order (monomials_of ns) (monomials_of rs) ≡ Less) is e);
  ready = (let g : CanMerge (monomials_of (m ∷ ks)) (monomials_of rs) = subst (λ (ns : List code.Monomial). CanMerge (monomials_of ns) (monomials_of rs)) is h in
      record { left_ascending = g.left_ascending.1; right_ascending = g.right_ascending; left_bounded = g.left_bounded.1; right_bounded = g.right_bounded });
  fewer = omega arith;
})

-- the right list's first monomial is removed, or both lists are empty
pub takes-right : (ls rs : List code.Monomial) (r : Option code.Monomial) (qs : List code.Monomial) → CanMerge (monomials_of ls) (monomials_of rs)
    → first_monomial_order (monomials_of ls) (monomials_of rs) ≡ Greater → rs ≡ option_to_list r ++ qs → (r ≡ None → length rs ≡ 0) → Takes ls rs r ls qs
takes-right [] [] None qs h e is some = record { first = refl; ready = subst (λ (ns : List code.Monomial). CanMerge [] (monomials_of ns)) is h; fewer = tt }
takes-right (l ∷ ls) [] None qs h e is some = cc
takes-right ls (n ∷ rs) None qs h e is some = absurd (omega (arith, some refl))
takes-right ls rs (Some n) qs h e is some = subst (λ (ns : List code.Monomial). Takes ls ns (Some n) ls qs) (sym is)
    (let g : CanMerge (monomials_of ls) (monomials_of (n ∷ qs)) = subst (λ (ns : List code.Monomial). CanMerge (monomials_of ls) (monomials_of ns)) is h in record {
      first = right-first (monomial_of n) (monomials_of ls) (monomials_of qs) g.right_ascending.0 (subst (λ (ns : List code.Monomial). first_monomial_order (monomials_of ls) (monomials_of ns) ≡ Greater) is e);
      ready = record { left_ascending = g.left_ascending; right_ascending = g.right_ascending.1; left_bounded = g.left_bounded; right_bounded = g.right_bounded.1 };
      fewer = omega arith;
    })

-- both first monomials are removed, and their sum is the first one
takes-both : (m n : code.Monomial) (ks qs : List code.Monomial) (z : code.Monomial) → CanMerge (monomials_of (m ∷ ks)) (monomials_of (n ∷ qs))
    → order m.vars.items n.vars.items ≡ Equal → z.coef ≡ m.coef +ℤ n.coef → z.vars ≡ m.vars → Takes (m ∷ ks) (n ∷ qs) (Some z) ks qs
takes-both m n ks qs z h e f g = record {
  first = both-first (monomial_of m) (monomial_of n) (monomials_of ks) (monomials_of qs) h.right_ascending.0 e
      ∙ (λ i. record { coef = sym f i; vars = (sym g i).items } ∷ all_added (monomials_of ks) (monomials_of qs));
  ready = record { left_ascending = h.left_ascending.1; right_ascending = h.right_ascending.1; left_bounded = h.left_bounded.1; right_bounded = h.right_bounded.1 };
  fewer = omega arith;
}

-- both first monomials are removed, from lists that begin with these
pub takes-two : (ls rs : List code.Monomial) (m n z : code.Monomial) (ks qs : List code.Monomial) → CanMerge (monomials_of ls) (monomials_of rs)
    → first_monomial_order (monomials_of ls) (monomials_of rs) ≡ Equal → ls ≡ m ∷ ks → rs ≡ n ∷ qs → z.coef ≡ m.coef +ℤ n.coef → z.vars ≡ m.vars
    → Takes ls rs (Some z) ks qs
takes-two ls rs m n z ks qs h e f g coef vars =
    subst (λ (xs : List code.Monomial). Takes xs rs (Some z) ks qs) (sym f)
    (subst (λ (ys : List code.Monomial). Takes (m ∷ ks) ys (Some z) ks qs) (sym g)
    (takes-both m n ks qs z
    (subst (λ (ys : List code.Monomial). CanMerge (monomials_of (m ∷ ks)) (monomials_of ys)) g (subst (λ (xs : List code.Monomial). CanMerge (monomials_of xs) (monomials_of rs)) f h))
    (subst (λ (ys : List code.Monomial). first_monomial_order (monomials_of (m ∷ ks)) (monomials_of ys) ≡ Equal) g
    (subst (λ (xs : List code.Monomial). first_monomial_order (monomials_of xs) (monomials_of rs) ≡ Equal) f e)) coef vars))

-- if the first monomials have the same variables, the left list isn't empty
pub some-left : (p q : Polynomial) → first_monomial_order p q ≡ Equal → length p ≢ 0
some-left [] q e l = cc
some-left (m ∷ p) q e l = omega (arith, l)

-- if the first monomials have the same variables, the right list isn't empty
pub some-right : (p q : Polynomial) → first_monomial_order p q ≡ Equal → length q ≢ 0
some-right [] q e l = cc
some-right (m ∷ p) [] e l = cc
some-right (m ∷ p) (n ∷ q) e l = omega (arith, l)
