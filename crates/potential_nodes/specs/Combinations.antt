-- Facts that are composed of the facts of earlier lemmas.
use Rattle.std.specs.Prelude.{ℕ, Bool, true, false, if◌then◌else◌, List, [], ◌∷◌, ◌++◌, Option, Some, None, option_map}
use Rattle.std.specs.Prelude.{◌&&◌, ◌==◌, ◌+◌, nat_le, length}
use Rattle.potentials.specs.model.Polynomials.{Polynomial}
use Rattle.potentials.specs.Sums.{Charge}
use Rattle.signed_bounds.specs.Bounds.{Signed, SumOf, ProductOf, MinimumOf, SignedParts, NoParts, Part}
use Rattle.signed_bounds.specs.Within.{within}
use Rattle.potential_nodes.specs.Lookup.{is_there, numbered}
use Rattle.potential_nodes.specs.Ground.{Ground}
use Rattle.potential_nodes.specs.Facts.{SignedFact, SumFact, PeakFact, SizeFact, same_charge, same_charges}
use Rattle.potential_nodes.specs.Facts.{same_polynomial}
use Rattle.potential_nodes.specs.Facts.{sum_bound, peak_bound, once_charge}
use Rattle.potential_nodes.specs.Checks.{Check, check, BadShape, LowBound}

-- a composition of facts, each cited by its number: how often a rule occurs times a peak; the lesser of two bounds on
-- one sum or one peak; two sums together; and charges that are among those of a sum
pub data Combination : Type 0 where
  Times : ℕ → Polynomial → ℕ → ℕ → Combination
  Least : ℕ → ℕ → Combination
  Add : ℕ → ℕ → Combination
  Among : List Charge → ℕ → Combination

-- the list of two parts of a bound
abbrev pub both_parts : Signed → Signed → SignedParts
both_parts a b = Part a (Part b NoParts)

-- the fact on the sum of a form of a rule, composed of the rule's time and the form's peak
abbrev pub product_fact : ℕ → Polynomial → Option Signed → Option Signed → Option SignedFact
product_fact rule form (Some often) (Some high) =
    Some (SumFact (record { rule = rule; form = form } ∷ []) (ProductOf (both_parts often high)))
product_fact rule form _ _ = None

-- the lesser of two bounds, and the fact with it if both facts are on the same sum or peak
abbrev pub lesser : Signed → Signed → Signed
lesser a b = MinimumOf a (Part b NoParts)

abbrev pub least_fact : Option SignedFact → Option SignedFact → Option SignedFact
least_fact (Some (SumFact goal a)) (Some (SumFact goal' b)) =
    if same_charges goal goal' then Some (SumFact goal (lesser a b)) else None
least_fact (Some (PeakFact rule form a)) (Some (PeakFact rule' form' b)) =
    if (rule == rule') && same_polynomial form form' then Some (PeakFact rule form (lesser a b)) else None
least_fact _ _ = None

-- the maximum number of charges of two sums together
abbrev pub charge_limit : ℕ
charge_limit = 4096

-- the fact on two sums together, if they have at most 4,096 charges together
abbrev pub added_fact : Option SignedFact → Option SignedFact → Option SignedFact
added_fact (Some (SumFact goal a)) (Some (SumFact goal' b)) =
    if nat_le (length goal + length goal') charge_limit
    then Some (SumFact (goal ++ goal') (SumOf (both_parts a b)))
    else None
added_fact _ _ = None

-- the charges without one that is the same as c, if there is one
abbrev pub without_charge : Charge → List Charge → Option (List Charge)
without_charge c [] = None
without_charge c (d ∷ ds) = if same_charge c d then Some ds else option_map (λ rest. d ∷ rest) (without_charge c ds)

-- whether each charge is found in the second list, where none is used twice
abbrev pub are_among : List Charge → List Charge → Bool
are_among [] ds = true
are_among (c ∷ cs) ds = elim (without_charge c ds) [ None ↦ false | Some rest ↦ are_among cs rest ]

-- the fact on charges that are among those of a sum
abbrev pub among_fact : List Charge → Option SignedFact → Option SignedFact
among_fact goal (Some (SumFact goal' a)) = if are_among goal goal' then Some (SumFact goal a) else None
among_fact goal _ = None

-- the composed fact, if there is one
abbrev pub composed : List SignedFact → Combination → Option SignedFact
composed facts (Times rule form time peak) =
    product_fact rule form (sum_bound facts (once_charge rule ∷ []) time) (peak_bound facts rule form peak)
composed facts (Least a b) = least_fact (numbered facts a) (numbered facts b)
composed facts (Add a b) = added_fact (numbered facts a) (numbered facts b)
composed facts (Among goal a) = among_fact goal (numbered facts a)

-- a fact with another bound, and the bound of a fact
abbrev pub with_other_bound : SignedFact → Signed → SignedFact
with_other_bound (SumFact goal a) b = SumFact goal b
with_other_bound (PeakFact rule form a) b = PeakFact rule form b
with_other_bound (SizeFact rule place a) b = SizeFact rule place b

abbrev pub bound_of : SignedFact → Signed
bound_of (SumFact goal a) = a
bound_of (PeakFact rule form a) = a
bound_of (SizeFact rule place a) = a

-- the stated bound is at least that of the fact, if there is a fact
abbrev pub is_within_fact : Ground → Option SignedFact → Signed → Bool
is_within_fact g None b = false
is_within_fact g (Some fact) b = within g.is_safe 1 (bound_of fact) b

-- the checks of composed facts: the cited facts can be composed, and the stated bound is high enough
abbrev pub combination_checks : Ground → List SignedFact → Combination → Signed → List Check
combination_checks g facts n b =
    check BadShape (is_there (composed facts n)) ∷ check LowBound (is_within_fact g (composed facts n) b) ∷ []

-- the fact with the stated bound; if nothing is composed, a fact that always holds: that the sum of no charges is at
-- most the bound
abbrev pub stated_in : Option SignedFact → Signed → SignedFact
stated_in None b = SumFact [] b
stated_in (Some fact) b = with_other_bound fact b

abbrev pub combination_fact : List SignedFact → Combination → Signed → SignedFact
combination_fact facts n b = stated_in (composed facts n) b
