-- The monomials of an expanded form ascend, and none is 0.
use Rattle.std.proofs.Common.{◌≡◌, ℕ, zero, suc, ◌≤◌, List, [], ◌∷◌, ◌++◌, map, Bool, true, false, refl, ap, ◌∙◌, arith}
use Rattle.std.proofs.Common.{nat_lt, if◌then◌else◌}
use Rattle.std.specs.Prelude.{ℤ, pos, ◌+ℤ◌, neg_ℤ}
use Rattle.std.specs.declared.cmp.Ordering.{Ordering}
use Rattle.std.specs.declared.cmp.Ordering.TheVariants.{Less, Equal, Greater}
use Rattle.std.specs.Ordering.{match_ordering, ordering_reverse}
use Rattle.std.proofs.lemmas.Cmp.{nat_list_cmp_total}
use Rattle.std.proofs.lemmas.Bool.Decides.{nat_tests}
use Rattle.std.proofs.lemmas.Int.{ints}
use Rattle.linear_forms.specs.int_laws.NormalForm.{is_zero}
use Rattle.model.specs.Terms.{Term, Literal, Variable, Negation, Addition, Subtraction, Multiplication, Exponentiation}
use Rattle.model.specs.Polynomials.{Monomial, Polynomial}
use Rattle.poly_terms.specs.Expanding.{order, added, all_added, without_zeros, sum_of, opposite, inserted, all_inserted}
use Rattle.poly_terms.specs.Expanding.{multiplied, products, product_of, power_of, expanded}
use Rattle.poly_terms.specs.Ordered.{IsBefore, IsAscending, AreFrom, AscendWeakly, HasNoZero, HasFactorsInOrder}
use Rattle.poly_terms.specs.Ordered.{IsOrdered}
use Rattle.linear_forms.proofs.int_laws.ZeroLaws.{is_zero-false as isnt_zero}

-- if one list of variables comes after another, the other comes before it
pub order-flip : (vs ws : List ℕ) → order vs ws ≡ Greater → order ws vs ≡ Less
order-flip vs ws e = nat_list_cmp_total.antisymm ws vs ∙ ap ordering_reverse e

-- if one list of variables comes before another, the other comes after it
pub order-back : (vs ws : List ℕ) → order vs ws ≡ Less → order ws vs ≡ Greater
order-back vs ws e = nat_list_cmp_total.antisymm ws vs ∙ ap ordering_reverse e

-- a list of variables that comes before the first of an ascending polynomial comes before all
pub before-all : (vs ws : List ℕ) (ms : Polynomial) → order vs ws ≡ Less → IsBefore ws ms → IsBefore vs ms
before-all vs ws [] e h = h
before-all vs ws (m ∷ ms) e h = (nat_list_cmp_total.trans vs ws m.vars e h.0, before-all vs ws ms e h.1)

-- adding a monomial that comes later preserves this
before-added : (vs : List ℕ) (m : Monomial) (ts : Polynomial) → order vs m.vars ≡ Less → IsBefore vs ts → IsBefore vs (added m ts)
before-added vs m [] e h = (e, h)
before-added vs m (t ∷ ts) e h = go (order m.vars t.vars) (before-added vs m ts e h.1)
  where
    go : (o : Ordering) → IsBefore vs (added m ts)
        → IsBefore vs (match_ordering o (m ∷ t ∷ ts) (record { coef = t.coef +ℤ m.coef; vars = t.vars } ∷ ts) (t ∷ added m ts))
    go Less ih = (e, (h.0, h.1))
    go Equal ih = (h.0, h.1)
    go Greater ih = (h.0, ih)

-- adding a monomial preserves the order
pub ascending-added : (m : Monomial) (ts : Polynomial) → IsAscending ts → IsAscending (added m ts)
ascending-added m [] h = (tt, tt)
ascending-added m (t ∷ ts) h = go (order m.vars t.vars) refl (ascending-added m ts h.1)
  where
    go : (o : Ordering) → order m.vars t.vars ≡ o → IsAscending (added m ts)
        → IsAscending (match_ordering o (m ∷ t ∷ ts) (record { coef = t.coef +ℤ m.coef; vars = t.vars } ∷ ts) (t ∷ added m ts))
    go Less e ih = ((e, before-all m.vars t.vars ts e h.0), (h.0, h.1))
    go Equal e ih = (h.0, h.1)
    go Greater e ih = (before-added t.vars m ts (order-flip m.vars t.vars e) h.0, ih)

-- adding several monomials preserves the order
pub ascending-all_added : (ts : Polynomial) (ms : List Monomial) → IsAscending ts → IsAscending (all_added ts ms)
ascending-all_added ts [] h = h
ascending-all_added ts (m ∷ ms) h = ascending-all_added (added m ts) ms (ascending-added m ts h)

before-without_zeros : (vs : List ℕ) (ms : Polynomial) → IsBefore vs ms → IsBefore vs (without_zeros ms)
before-without_zeros vs [] h = h
before-without_zeros vs (m ∷ ms) h = go (is_zero m.coef) (before-without_zeros vs ms h.1)
  where
    go : (b : Bool) → IsBefore vs (without_zeros ms) → IsBefore vs (if b then without_zeros ms else m ∷ without_zeros ms)
    go true ih = ih
    go false ih = (h.0, ih)

-- removing zeros preserves the order
pub ascending-without_zeros : (ms : Polynomial) → IsAscending ms → IsAscending (without_zeros ms)
ascending-without_zeros [] h = h
ascending-without_zeros (m ∷ ms) h = go (is_zero m.coef) (ascending-without_zeros ms h.1)
  where
    go : (b : Bool) → IsAscending (without_zeros ms) → IsAscending (if b then without_zeros ms else m ∷ without_zeros ms)
    go true ih = ih
    go false ih = (before-without_zeros m.vars ms h.0, ih)

before-opposite : (vs : List ℕ) (ms : Polynomial) → IsBefore vs ms → IsBefore vs (map opposite ms)
before-opposite vs [] h = h
before-opposite vs (m ∷ ms) h = (h.0, before-opposite vs ms h.1)

-- after zeros are removed, no coefficient is 0
pub nonzero-without_zeros : (ms : Polynomial) → HasNoZero (without_zeros ms)
nonzero-without_zeros [] = tt
nonzero-without_zeros (m ∷ ms) = go (is_zero m.coef) refl (nonzero-without_zeros ms)
  where
    go : (b : Bool) → is_zero m.coef ≡ b → HasNoZero (without_zeros ms) → HasNoZero (if b then without_zeros ms else m ∷ without_zeros ms)
    go true e ih = ih
    go false e ih = (isnt_zero m.coef e, ih)

-- a lesser lower bound of variables is one, too
pub from-less : (n k : ℕ) (vs : List ℕ) → n ≤ k → AreFrom k vs → AreFrom n vs
from-less n k [] l h = h
from-less n k (v ∷ vs) l h = (omega (arith, h.0), from-less n k vs l h.1)

-- inserting a variable of at least n preserves the lower bound n
pub from-inserted : (n v : ℕ) (vs : List ℕ) → n ≤ v → AreFrom n vs → AreFrom n (inserted v vs)
from-inserted n v [] l h = (l, h)
from-inserted n v (w ∷ ws) l h = go (nat_lt w v) (from-inserted n v ws l h.1)
  where
    go : (b : Bool) → AreFrom n (inserted v ws) → AreFrom n (if b then w ∷ inserted v ws else v ∷ w ∷ ws)
    go true ih = (h.0, ih)
    go false ih = (l, (h.0, h.1))

ascend-inserted : (v : ℕ) (vs : List ℕ) → AscendWeakly vs → AscendWeakly (inserted v vs)
ascend-inserted v [] h = (tt, tt)
ascend-inserted v (w ∷ ws) h = go (nat_lt w v) refl (ascend-inserted v ws h.1)
  where
    below : nat_lt w v ≡ true → w ≤ v
    below e = grind (arith, nat_tests)

    above : nat_lt w v ≡ false → v ≤ w
    above e = grind (arith, nat_tests)

    go : (b : Bool) → nat_lt w v ≡ b → AscendWeakly (inserted v ws) → AscendWeakly (if b then w ∷ inserted v ws else v ∷ w ∷ ws)
    go true e ih = (from-inserted w v ws (below e) h.0, ih)
    go false e ih = ((above e, from-less v w ws (above e) h.0), (h.0, h.1))

ascend-all_inserted : (vs ws : List ℕ) → AscendWeakly vs → AscendWeakly (all_inserted vs ws)
ascend-all_inserted vs [] h = h
ascend-all_inserted vs (w ∷ ws) h = ascend-all_inserted (inserted w vs) ws (ascend-inserted w vs h)

factors-added : (m : Monomial) (ts : Polynomial) → AscendWeakly m.vars → HasFactorsInOrder ts → HasFactorsInOrder (added m ts)
factors-added m [] a h = (a, h)
factors-added m (t ∷ ts) a h = go (order m.vars t.vars) (factors-added m ts a h.1)
  where
    go : (o : Ordering) → HasFactorsInOrder (added m ts)
        → HasFactorsInOrder (match_ordering o (m ∷ t ∷ ts) (record { coef = t.coef +ℤ m.coef; vars = t.vars } ∷ ts) (t ∷ added m ts))
    go Less ih = (a, (h.0, h.1))
    go Equal ih = (h.0, h.1)
    go Greater ih = (h.0, ih)

factors-all_added : (ts : Polynomial) (ms : List Monomial) → HasFactorsInOrder ts → HasFactorsInOrder ms → HasFactorsInOrder (all_added ts ms)
factors-all_added ts [] h k = h
factors-all_added ts (m ∷ ms) h k = factors-all_added (added m ts) ms (factors-added m ts k.0 h) k.1

factors-without_zeros : (ms : Polynomial) → HasFactorsInOrder ms → HasFactorsInOrder (without_zeros ms)
factors-without_zeros [] h = h
factors-without_zeros (m ∷ ms) h = go (is_zero m.coef) (factors-without_zeros ms h.1)
  where
    go : (b : Bool) → HasFactorsInOrder (without_zeros ms) → HasFactorsInOrder (if b then without_zeros ms else m ∷ without_zeros ms)
    go true ih = ih
    go false ih = (h.0, ih)

factors-row : (m : Monomial) (q : Polynomial) → AscendWeakly m.vars → HasFactorsInOrder (map (multiplied m) q)
factors-row m [] a = tt
factors-row m (n ∷ q) a = (ascend-all_inserted m.vars n.vars a, factors-row m q a)

factors-append : (p q : List Monomial) → HasFactorsInOrder p → HasFactorsInOrder q → HasFactorsInOrder (p ++ q)
factors-append [] q h k = k
factors-append (m ∷ p) q h k = (h.0, factors-append p q h.1 k)

factors-products : (p q : Polynomial) → HasFactorsInOrder p → HasFactorsInOrder (products p q)
factors-products [] q h = h
factors-products (m ∷ p) q h = factors-append (map (multiplied m) q) (products p q) (factors-row m q h.0) (factors-products p q h.1)

-- a sum of ordered polynomials is ordered
ordered-sum_of : (p : Polynomial) (ms : List Monomial) → IsAscending p → HasFactorsInOrder p → HasFactorsInOrder ms → IsOrdered (sum_of p ms)
ordered-sum_of p ms a f g = record {
  ascending = ascending-without_zeros (all_added p ms) (ascending-all_added p ms a);
  factors = factors-without_zeros (all_added p ms) (factors-all_added p ms f g);
  nonzero = nonzero-without_zeros (all_added p ms);
}

-- the negation of an ordered polynomial ascends, has its factors in order, and has no zero
pub ascending-opposite : (p : Polynomial) → IsAscending p → IsAscending (map opposite p)
ascending-opposite [] h = h
ascending-opposite (m ∷ p) h = (before-opposite m.vars p h.0, ascending-opposite p h.1)

factors-opposite : (p : Polynomial) → HasFactorsInOrder p → HasFactorsInOrder (map opposite p)
factors-opposite [] h = h
factors-opposite (m ∷ p) h = (h.0, factors-opposite p h.1)

nonzero-opposite : (p : Polynomial) → HasNoZero p → HasNoZero (map opposite p)
nonzero-opposite [] h = h
nonzero-opposite (m ∷ p) h = ((λ e. h.0 (back m.coef e)), nonzero-opposite p h.1)
  where
    back : (z : ℤ) → neg_ℤ z ≡ pos 0 → z ≡ pos 0
    back z e = omega (arith, ints)

-- a product is ordered if the factors of its first polynomial are in order
ordered-product_of : (p q : Polynomial) → HasFactorsInOrder p → IsOrdered (product_of p q)
ordered-product_of p q f = ordered-sum_of [] (products p q) tt tt (factors-products p q f)

-- a power of an ordered polynomial is ordered
ordered-power_of : (p : Polynomial) (n : ℕ) → IsOrdered p → IsOrdered (power_of p n)
ordered-power_of p zero h = record { ascending = (tt, tt); factors = (tt, tt); nonzero = ((λ e. omega (arith, ints, e)), tt) }
ordered-power_of p (suc n) h = ordered-product_of (power_of p n) p (ordered-power_of p n h).factors

-- every expanded form is ordered
pub expanded-ordered : (t : Term) → IsOrdered (expanded t)
expanded-ordered (Literal z) =
    let m : Monomial = record { coef = z; vars = [] } in record {
      ascending = ascending-without_zeros (m ∷ []) (tt, tt);
      factors = factors-without_zeros (m ∷ []) (tt, tt);
      nonzero = nonzero-without_zeros (m ∷ []);
    }
expanded-ordered (Variable i) = record { ascending = (tt, tt); factors = ((tt, tt), tt); nonzero = ((λ e. omega (arith, ints, e)), tt) }
expanded-ordered (Negation e) = record {
  ascending = ascending-opposite (expanded e) (expanded-ordered e).ascending;
  factors = factors-opposite (expanded e) (expanded-ordered e).factors;
  nonzero = nonzero-opposite (expanded e) (expanded-ordered e).nonzero;
}
expanded-ordered (Addition d e) =
    ordered-sum_of (expanded d) (expanded e) (expanded-ordered d).ascending (expanded-ordered d).factors (expanded-ordered e).factors
expanded-ordered (Subtraction d e) =
    ordered-sum_of (expanded d) (map opposite (expanded e)) (expanded-ordered d).ascending (expanded-ordered d).factors
    (factors-opposite (expanded e) (expanded-ordered e).factors)
expanded-ordered (Multiplication d e) = ordered-product_of (expanded d) (expanded e) (expanded-ordered d).factors
expanded-ordered (Exponentiation e n) = ordered-power_of (expanded e) n (expanded-ordered e)
