use Rattle.std.proofs.Common.{ℕ, ◌≡◌, Bool, ◌||◌, ◌+◌, ◌*◌, ◌≤◌, ◌&&◌, false, drop}
use Rattle.std.specs.Prelude.{replicate}
use Rattle.std.specs.List.{list_any, list_all}
use Rattle.bound_expr.specs.model.Bounds.{Bound}
use Rattle.bound_expr.specs.Views.{bound_of, bounds_of}
use Rattle.bound_table.specs.declared.kinds.Pairing.{Pairing}
use Rattle.bound_table.specs.declared.kinds.Pairing.TheVariants.{AsTerms, AsFactors}
use Rattle.bound_table.specs.Kinds.{is_power_or_input, is_same_input}
use Rattle.bound_table.specs.Below.{below, match_in_order, matched, leftovers, term_below, factor_below}
use Rattle.bound_table.specs.Taking.{marked, input_among}
use Rattle.bound_table.proofs.BelowLevels.{bound_weight, factor_weight, factors_weight, bounds_weight}
use Rattle.bound_table.proofs.lower.+below.Given as goal

abbrev pub decreases-is_below : goal.decreases-is_below
decreases-is_below l = 16 * (bound_weight (bound_of l.a.now) + bound_weight (bound_of l.b.now)) + 9

abbrev pub decreases-all_below : goal.decreases-all_below
decreases-all_below l = 16 * (bounds_weight (bounds_of l.parts.now) + bound_weight (bound_of l.b.now)) + 10

abbrev pub decreases-any_above : goal.decreases-any_above
decreases-any_above l = 16 * (bound_weight (bound_of l.a.now) + bounds_weight (bounds_of l.parts.now)) + 10

abbrev pub decreases-one_below : goal.decreases-one_below
decreases-one_below l = 16 * (bound_weight (bound_of l.a.now) + bound_weight (bound_of l.b.now)) + 8

abbrev pub decreases-terms_below : goal.decreases-terms_below
decreases-terms_below l = 16 * (factors_weight (bounds_of l.parts.now) + factors_weight (bounds_of l.others.now)) + 10

-- the recursion measure of each way of pairing: parts of a sum are compared before their factors
abbrev pub turn : Pairing → ℕ
turn AsTerms = 8
turn AsFactors = 1

abbrev pub decreases-still_left : goal.decreases-still_left
decreases-still_left l =
    16 * (factors_weight (bounds_of l.left.now) + factor_weight (bound_of l.other.now)) + (turn l.pairing + 1)

abbrev pub decreases-is_paired : goal.decreases-is_paired
decreases-is_paired l =
    16 * (factor_weight (bound_of l.part.now) + factor_weight (bound_of l.other.now)) + turn l.pairing

abbrev pub decreases-is_term_below : goal.decreases-is_term_below
decreases-is_term_below l = 16 * (factor_weight (bound_of l.part.now) + factor_weight (bound_of l.other.now)) + 7

abbrev pub decreases-factors_below : goal.decreases-factors_below
decreases-factors_below l =
    16 * (factors_weight (bounds_of l.factors.now) + factors_weight (bounds_of l.others.now)) + 6

abbrev pub decreases-inputs_taken : goal.decreases-inputs_taken
decreases-inputs_taken l = 16 * (factors_weight (bounds_of l.factors.now) + factors_weight (bounds_of l.others.now)) + 5

abbrev pub decreases-input_taken : goal.decreases-input_taken
decreases-input_taken l = 16 * (factors_weight (bounds_of l.factors.now) + factors_weight (bounds_of l.others.now)) + 4

abbrev pub decreases-is_among_taken : goal.decreases-is_among_taken
decreases-is_among_taken l =
    16 * (factors_weight (bounds_of l.factors.now) + factors_weight (bounds_of l.others.now)) + 3

abbrev pub decreases-is_factor_below : goal.decreases-is_factor_below
decreases-is_factor_below l = 16 * (factor_weight (bound_of l.factor.now) + factor_weight (bound_of l.other.now))

-- one factor is below another, as the test `below` says
abbrev pub beneath : Bound → Bound → Bool
beneath = factor_below (λ p q. below p q)

abbrev pub invariant-all_below-loop-part : goal.invariant-all_below-loop-part
invariant-all_below-loop-part l =
    list_all (λ p. below p (bound_of l.b)) (bounds_of (drop l.part-index l.parts)) ≡ list_all
    (λ p. below p (bound_of l.b)) (bounds_of l.parts)

abbrev pub invariant-any_above-loop-part : goal.invariant-any_above-loop-part
invariant-any_above-loop-part l =
    list_any (λ q. below (bound_of l.a) q) (bounds_of (drop l.part-index l.parts)) ≡ list_any
    (λ q. below (bound_of l.a) q) (bounds_of l.parts)

abbrev pub invariant-terms_below-loop-other : goal.invariant-terms_below-loop-other
invariant-terms_below-loop-other l =
    (match_in_order (term_below (λ p q. below p q)) (bounds_of l.left) (bounds_of (drop l.other-index l.others))
    ≡ match_in_order (term_below (λ p q. below p q)) (bounds_of l.parts) (bounds_of l.others))
    × (factors_weight (bounds_of l.left) ≤ factors_weight (bounds_of l.parts))

abbrev pub invariant-factors_below-loop-other : goal.invariant-factors_below-loop-other
invariant-factors_below-loop-other l = record {
  found : match_in_order beneath (bounds_of l.left) (bounds_of (drop l.other-index l.others))
      ≡ match_in_order beneath (bounds_of l.factors) (bounds_of l.others);
  marks : marked l.marks (matched beneath (bounds_of l.left) (bounds_of (drop l.other-index l.others)))
      ≡ marked (replicate 128 false) (matched beneath (bounds_of l.factors) (bounds_of l.others));
  fit : (l.fit && list_all is_power_or_input (leftovers beneath (bounds_of l.left) (bounds_of (drop l.other-index l.others))))
      ≡ list_all is_power_or_input (leftovers beneath (bounds_of l.factors) (bounds_of l.others));
  light : factors_weight (bounds_of l.left) ≤ factors_weight (bounds_of l.factors);
}

abbrev pub invariant-inputs_taken-loop-other : goal.invariant-inputs_taken-loop-other
invariant-inputs_taken-loop-other l =
    let ts = matched beneath (bounds_of l.factors) (bounds_of l.others) in
    list_all (input_among ts) (bounds_of (drop l.other-index l.others)) ≡ list_all (input_among ts) (bounds_of l.others)

abbrev pub invariant-is_among_taken-loop-other : goal.invariant-is_among_taken-loop-other
invariant-is_among_taken-loop-other l = record {
  found : (l.found || list_any (is_same_input (bound_of l.input)) (matched beneath (bounds_of l.left) (bounds_of (drop l.other-index l.others))))
      ≡ list_any (is_same_input (bound_of l.input)) (matched beneath (bounds_of l.factors) (bounds_of l.others));
  light : factors_weight (bounds_of l.left) ≤ factors_weight (bounds_of l.factors);
}
