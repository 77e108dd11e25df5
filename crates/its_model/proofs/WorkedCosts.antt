-- The worked values of costs and of their programs.
use Rattle.std.proofs.Common.{◌≡◌, ℕ, List, [], ◌∷◌, refl, ap, sym, ◌∙◌, arith}
use Rattle.std.specs.Prelude.{ℤ, pos, ◌<ℤ◌, Option, Some, None}
use Rattle.std.proofs.lemmas.Int.{ints}
use Rattle.std.proofs.lemmas.List.Elements.{All-nil, All-cons, All-head}
use Rattle.poly_terms.specs.model.Terms.{Term, Addition}
use Rattle.poly_terms.specs.model.Programs.{Rule, Program, AtomHolds, GuardHolds, rule_at}
use Rattle.poly_terms.specs.model.Costs.{HasCost}
use Rattle.its_model.specs.CostPrograms.{IsCostProgram}
use Rattle.its_model.specs.WorkedPrograms.{small_program}
use Rattle.its_model.specs.WorkedSteps.{maximum, A, B, one_more, standing_at, by_rule}
use Rattle.its_model.specs.WorkedCosts.{more_than_B, paying, CostFaultsAreWorkedOut, cost_of_B, from_dollar}
use Rattle.its_model.specs.WorkedCosts.{CostProgramsAreWorkedOut, CostStepsAreWorkedOut, CostsAreWorkedOut}
use Rattle.its_model.proofs.CostFaults.{costs-have-no-fault}

faults : CostFaultsAreWorkedOut
faults = record {
  taken = refl;
  guard_fails = refl;
  no_step = refl;
  no_such_rule = refl;
  rule_0 = refl;
  other_symbol = refl;
  free_value = refl;
  rule_first = refl;
  past = refl;
  on_the_way = refl;
  largest = refl;
  none_written = refl;
  past_in_update = refl;
  fitting = (costs-have-no-fault.no_fault (paying A) (standing_at 0 (pos 2) (pos 3)) (by_rule 1 [])).0 refl;
  not_fitting = λ h. let e = (costs-have-no-fault.no_fault (paying one_more) (standing_at 0 maximum (pos 0)) (by_rule 1 [])).1 h in cc;
  not_of_rule_2 = λ h. let e = (costs-have-no-fault.no_fault (paying A) (standing_at 0 (pos 2) (pos 3)) (by_rule 2 [])).1 h in cc;
}

-- The cost of a rule, if there is one.
abbrev cost_in : Option Rule → Option Term
cost_in None = None
cost_in (Some r) = r.cost

-- The cost of a rule that has one is that of the rule with its number.
cost-found : (p : Program) (t : ℕ) (h : HasCost p t) → cost_in (rule_at p t) ≡ Some h.cost
cost-found p t h = ap cost_in h.numbered ∙ h.written

-- The first update of the first rule.
abbrev update_of : List Rule → Option Term
update_of [] = None
update_of (r ∷ rs) = first r.updates
  where
    first : List Term → Option Term
    first [] = None
    first (u ∷ us) = Some u

-- In the program of a cost, the first update is the cost.
update-is-cost : (p q : Program) (t : ℕ) → IsCostProgram p t q → update_of q.rules ≡ cost_in (rule_at p t)
update-is-cost p q t k = ap (λ (w : Program). update_of w.rules) k.program ∙ sym (cost-found p t k.costs)

programs : CostProgramsAreWorkedOut
programs = record {
  written = record { rule = _; numbered = refl; cost = B; written = refl };
  none_written = λ h. let e = cost-found small_program 1 h in cc;
  no_rule = λ h. let e = cost-found (paying B) 2 h in cc;
  rule_0 = λ h. let e = cost-found (paying B) 0 h in cc;
  behind_name = refl;
  behind_one = refl;
  behind_two = refl;
  first = record {
    costs = record { rule = _; numbered = refl; cost = B; written = refl };
    symbol = _;
    source = refl;
    program = refl;
  };
  second = record {
    costs = record { rule = _; numbered = refl; cost = Addition A B; written = refl };
    symbol = _;
    source = refl;
    program = refl;
  };
  other_cost = λ k. let e = update-is-cost (paying A) cost_of_B 1 k in cc;
  plain_rule = λ k. let e = cost-found from_dollar 1 k.costs in cc;
  itself = λ k. let e = update-is-cost (paying B) (paying B) 1 k in cc;
}

-- The guard A > B holds if A > B does.
guard-at : (x y : ℤ) → y <ℤ x → GuardHolds (x ∷ y ∷ []) (more_than_B ∷ [])
guard-at x y l = All-cons (AtomHolds (x ∷ y ∷ [])) more_than_B [] l (All-nil (AtomHolds (x ∷ y ∷ [])))

-- The first value of a list.
abbrev first_value : List ℤ → ℤ
first_value [] = pos 0
first_value (x ∷ xs) = x

steps : CostStepsAreWorkedOut
steps = record {
  cost = record {
    source = refl;
    left = refl;
    free_ones = refl;
    guard = guard-at (pos 3) (pos 2) (omega (arith, ints));
    at_least_0 = omega (arith, ints);
    target = refl;
    cost = refl;
  };
  nothing = record {
    source = refl;
    left = refl;
    free_ones = refl;
    guard = guard-at (pos 3) (pos 0) (omega (arith, ints));
    at_least_0 = omega (arith, ints);
    target = refl;
    cost = refl;
  };
  other_value = λ h. omega (arith, ints, ap first_value h.cost);
  other_symbol = λ h. omega (arith, h.target);
  negative = λ d h. omega (arith, ints, h.at_least_0);
  guard_fails = λ d h. omega (arith, ints, All-head (AtomHolds (pos 2 ∷ pos 2 ∷ [])) more_than_B [] h.guard);
}

pub costs-are-worked-out : CostsAreWorkedOut
costs-are-worked-out = record { faults = faults; programs = programs; steps = steps }
