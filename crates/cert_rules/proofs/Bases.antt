-- Composed bounds have bases of at least 1 if the bounds of which they are composed have.
use Rattle.std.proofs.Common.{◌≡◌, ℕ, suc, ◌||◌, Bool, true, false, List, [], ◌∷◌, Option, Some, None, refl}
use Rattle.std.specs.Prelude.{ℤ}
use Rattle.rule_forms.specs.int_laws.NormalForm.{is_zero}
use Rattle.run_counting.specs.model.Bounds.{Bound, IsBased, AreBased}
use Rattle.rule_forms.specs.linear_forms.Forms.{Form}
use Rattle.run_counting.specs.model.Polynomials.{Polynomial}
use Rattle.cert_rules.specs.Nodes.{SideBound, Linear, Poly}
use Rattle.cert_rules.specs.Composed.{parts_for, place_parts, rest_bound, no_place}
use Rattle.cert_rules.specs.ComposedSizes.{monomial_parts, polynomial_bound, offset_of, composed_side_bound}

-- a sum of parts for numbers has bases of at least 1 if each part has
pub parts_for-based : (f : ℕ → Bound) → ((n : ℕ) → IsBased (f n)) → (ns : List ℕ) → AreBased (parts_for f ns)
parts_for-based f h [] = tt
parts_for-based f h (n ∷ ns) = (h n, parts_for-based f h ns)

-- the parts of places have bases of at least 1 if the sizes have
pub place_parts-based : (cs : List ℤ) (den : ℕ) (left_out : ℕ → Bool) (sizes : ℕ → Bound)
    → ((j : ℕ) → IsBased (sizes j)) → AreBased (place_parts cs den left_out sizes)
place_parts-based [] den left_out sizes h = tt
place_parts-based (c ∷ cs) den left_out sizes h =
    go (is_zero c || left_out 0) refl
    (place_parts-based cs den (λ j. left_out (suc j)) (λ j. sizes (suc j)) (λ j. h (suc j)))
  where
    go : (v : Bool) → (is_zero c || left_out 0) ≡ v
        → AreBased (place_parts cs den (λ j. left_out (suc j)) (λ j. sizes (suc j)))
        → AreBased (place_parts (c ∷ cs) den left_out sizes)
    go true e ih = rw e ih
    go false e ih = rw e ((tt, (tt, (h 0, tt))), ih)

-- a form as a bound has bases of at least 1 if the sizes have
pub rest_bound-based : (f : Form) (den : ℕ) (left_out : ℕ → Bool) (sizes : ℕ → Bound) → ((j : ℕ) → IsBased (sizes j))
    → IsBased (rest_bound f den left_out sizes)
rest_bound-based f den left_out sizes h = (tt, (tt, place_parts-based f.coefs den left_out sizes h))

-- the parts of monomials have bases of at least 1 if the sizes have
monomial_parts-based : (q : Polynomial) (sizes : ℕ → Bound) → ((j : ℕ) → IsBased (sizes j))
    → AreBased (monomial_parts q sizes)
monomial_parts-based [] sizes h = tt
monomial_parts-based (m ∷ ms) sizes h = ((tt, (tt, parts_for-based sizes h m.vars)), monomial_parts-based ms sizes h)

-- a polynomial as a bound has bases of at least 1 if the sizes have
polynomial_bound-based : (o : Option Polynomial) (sizes : ℕ → Bound) → ((j : ℕ) → IsBased (sizes j))
    → IsBased (polynomial_bound o sizes)
polynomial_bound-based None sizes h = tt
polynomial_bound-based (Some q) sizes h = (tt, monomial_parts-based q sizes h)

-- the offset of a side bound has bases of at least 1 if the sizes have
pub offset_of-based : (o : Option Polynomial) (side_bound : SideBound) (inside : ℕ → Bool) (sizes : ℕ → Bound)
    → ((j : ℕ) → IsBased (sizes j)) → IsBased (offset_of o side_bound inside sizes)
offset_of-based o (Linear den form multipliers) inside sizes h = rest_bound-based form den inside sizes h
offset_of-based o Poly inside sizes h = polynomial_bound-based o sizes h

-- a side bound as a bound has bases of at least 1 if the sizes have
pub composed_side_bound-based : (o : Option Polynomial) (side_bound : SideBound) (sizes : ℕ → Bound) → ((j : ℕ) → IsBased (sizes j))
    → IsBased (composed_side_bound o side_bound sizes)
composed_side_bound-based o (Linear den form multipliers) sizes h = rest_bound-based form den no_place sizes h
composed_side_bound-based o Poly sizes h = polynomial_bound-based o sizes h
