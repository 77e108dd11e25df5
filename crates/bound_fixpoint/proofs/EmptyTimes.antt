-- An infeasible rule has the time 0 in every list of derivations that rounds make.
use Rattle.std.proofs.Common.{◌≡◌, ℕ, List, filter, Some, ◌∙◌, ap}
use Rattle.rule_questions.specs.model.Bounds.{Constant}
use Rattle.rule_questions.proofs.model.Membership.{is_in-filter}
use Rattle.rule_questions.specs.cert_rules.AcceptsPlain.{IsRule}
use Rattle.rule_questions.specs.cert_rules.Setting.{Setting}
use Rattle.bound_fixpoint.specs.Keys.{rule_numbers}
use Rattle.bound_fixpoint.specs.Derivations.{Derivation, bound_found, bounds_of}
use Rattle.bound_fixpoint.specs.Searches.{Searches}
use Rattle.bound_fixpoint.specs.Components.{IsEmpty}
use Rattle.bound_fixpoint.specs.Rounds.{IsMade, Begun, Made}
use Rattle.bound_fixpoint.proofs.DerivationLists.{first_of-some, found-append, bounds_of-kept}
use Rattle.bound_fixpoint.proofs.MissingBounds.{rule_bounds}
use Rattle.bound_fixpoint.proofs.RuleNumbers.{rule_in}
use Rattle.bound_fixpoint.proofs.ZeroTimes.{empties_zero, zero_found}

-- the time of an infeasible rule is 0 in the initial list, and in every later one
pub empty_timed : (q : Searches) (s : Setting) (fs : List Derivation) → IsMade q s fs → (t : ℕ) → IsRule s.program t
    → IsEmpty q t → bounds_of s.program fs t 0 ≡ Some (Constant 0)
empty_timed q s fs (Begun h) t rule empty =
    let empties = filter h.is_empty (rule_numbers s.program) in
    let there = is_in-filter h.is_empty (rule_numbers s.program) t (rule_in s.program t rule.rule rule.numbered)
    ((h.empty t rule).1 empty) in
    let zero_at = zero_found empties h.empties (empties_zero q empties h.empties h.are_empties) t there in
    rule_bounds s.program fs t 0 rule
    ∙ (ap (λ (xs : List Derivation). bound_found xs t 0) h.in_order
    ∙ (found-append h.empties _ t 0 ∙ first_of-some (bound_found h.empties t 0) _ (Constant 0) zero_at))
empty_timed q s fs (Made {fs = old} {more = more} m n) t rule empty =
    bounds_of-kept s.program old more t 0 (Constant 0) (empty_timed q s old m t rule empty)
