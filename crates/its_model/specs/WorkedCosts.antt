-- Worked values of steps without a cost in 128 bits, and of the programs of costs.
use Rattle.std.specs.Prelude.{◌≡◌, ℕ, [], ◌∷◌, ℤ, pos, negsuc, Some, None}
use Rattle.poly_terms.specs.model.Terms.{Term, Literal, Addition, Subtraction}
use Rattle.poly_terms.specs.model.Programs.{AtLeast, MoreThan, Atom, Compare, Program}
use Rattle.poly_terms.specs.model.Runs.{Config}
use Rattle.poly_terms.specs.model.Costs.{HasCost}
use Rattle.its_model.specs.Steps.{OtherRule, AtomFails, PastRange, step_fault}
use Rattle.its_model.specs.Costs.{cost_fault, HasFittingCost}
use Rattle.its_model.specs.CostPrograms.{cost_name, IsCostProgram, LeadsToCost}
use Rattle.its_model.specs.WorkedPrograms.{rule_costing, starting_at, small_program}
use Rattle.its_model.specs.WorkedSteps.{maximum, A, B, one_more, standing_at, by_rule}

-- The atom A > B.
abbrev pub more_than_B : Atom
more_than_B = Compare A MoreThan B

-- The program l0(A, B) -{k}> l1(A) with the guard A > B.
abbrev pub paying : Term → Program
paying k = starting_at 0 (rule_costing k (more_than_B ∷ []) ∷ [])

-- Worked values of the uses of a rule without a cost in 128 bits.
pub record CostFaultsAreWorkedOut : Type 0 where
  -- A + B is a cost at (3, 2), and at (2, 3) too, where the guard fails and there is no step.
  pub taken : cost_fault (paying (Addition A B)) (standing_at 0 (pos 3) (pos 2)) (by_rule 1 []) ≡ None
  pub guard_fails : cost_fault (paying (Addition A B)) (standing_at 0 (pos 2) (pos 3)) (by_rule 1 []) ≡ None
  pub no_step : step_fault (paying (Addition A B)) (standing_at 0 (pos 2) (pos 3)) (by_rule 1 []) ≡ Some (AtomFails 1)
  -- There is no rule 2 and no rule 0; rule 1 leaves l0 and not l1, and has no free variable.
  pub no_such_rule : cost_fault (paying A) (standing_at 0 (pos 3) (pos 2)) (by_rule 2 []) ≡ Some OtherRule
  pub rule_0 : cost_fault (paying A) (standing_at 0 (pos 3) (pos 2)) (by_rule 0 []) ≡ Some OtherRule
  pub other_symbol : cost_fault (paying A) (standing_at 1 (pos 3) (pos 2)) (by_rule 1 []) ≡ Some OtherRule
  pub free_value : cost_fault (paying A) (standing_at 0 (pos 3) (pos 2)) (by_rule 1 (pos 0 ∷ [])) ≡ Some OtherRule
  pub rule_first : cost_fault (paying one_more) (standing_at 1 maximum (pos 2)) (by_rule 1 []) ≡ Some OtherRule
  -- At the maximum, A + 1 and (A + 1) - 1 have no value in 128 bits, and A has one.
  pub past : cost_fault (paying one_more) (standing_at 0 maximum (pos 0)) (by_rule 1 []) ≡ Some PastRange
  pub on_the_way : cost_fault (paying (Subtraction one_more (Literal (pos 1)))) (standing_at 0 maximum (pos 0))
      (by_rule 1 []) ≡ Some PastRange
  pub largest : cost_fault (paying A) (standing_at 0 maximum (pos 0)) (by_rule 1 []) ≡ None
  -- A rule without a cost annotation has no fault of its cost, though the value of an update exceeds 128 bits.
  pub none_written : cost_fault small_program (standing_at 0 maximum (pos 1)) (by_rule 1 []) ≡ None
  pub past_in_update : step_fault small_program (standing_at 0 maximum (pos 1)) (by_rule 1 []) ≡ Some PastRange
  -- The same facts, stated by the conditions on a step whose cost fits.
  pub fitting : HasFittingCost (paying A) (standing_at 0 (pos 2) (pos 3)) (by_rule 1 [])
  pub not_fitting : ¬ (HasFittingCost (paying one_more) (standing_at 0 maximum (pos 0)) (by_rule 1 []))
  pub not_of_rule_2 : ¬ (HasFittingCost (paying A) (standing_at 0 (pos 2) (pos 3)) (by_rule 2 []))

-- The program of the cost B: l0(A, B) -> $(B) with the guard A > B and B >= 0.
abbrev pub cost_of_B : Program
cost_of_B = record {
  symbols = record { name = 108 ∷ 48 ∷ []; arity = 2 } ∷ record { name = 36 ∷ []; arity = 1 } ∷ [];
  start = 0;
  start_names = (65 ∷ []) ∷ (66 ∷ []) ∷ [];
  rules = record {
    source = 0;
    target = 1;
    left = 2;
    free = 0;
    names = (65 ∷ []) ∷ (66 ∷ []) ∷ [];
    updates = B ∷ [];
    guard = more_than_B ∷ Compare B AtLeast (Literal (pos 0)) ∷ [];
    cost = None;
  } ∷ [];
}

-- The program l(A) -> $(A), $(A) -{A + B}> l(B), with B free, and that of the cost of its second rule: $(A) -> $$(A +
-- B) with the guard A + B >= 0.
abbrev pub from_dollar : Program
from_dollar = record {
  symbols = record { name = 108 ∷ []; arity = 1 } ∷ record { name = 36 ∷ []; arity = 1 } ∷ [];
  start = 0;
  start_names = (65 ∷ []) ∷ [];
  rules = record {
    source = 0;
    target = 1;
    left = 1;
    free = 0;
    names = (65 ∷ []) ∷ [];
    updates = A ∷ [];
    guard = [];
    cost = None;
  } ∷ record {
    source = 1;
    target = 0;
    left = 1;
    free = 1;
    names = (65 ∷ []) ∷ (66 ∷ []) ∷ [];
    updates = B ∷ [];
    guard = [];
    cost = Some (Addition A B);
  } ∷ [];
}

abbrev pub cost_from_dollar : Program
cost_from_dollar = record {
  symbols = record { name = 36 ∷ []; arity = 1 } ∷ record { name = 36 ∷ 36 ∷ []; arity = 1 } ∷ [];
  start = 0;
  start_names = (65 ∷ []) ∷ [];
  rules = record {
    source = 0;
    target = 1;
    left = 1;
    free = 1;
    names = (65 ∷ []) ∷ (66 ∷ []) ∷ [];
    updates = Addition A B ∷ [];
    guard = Compare (Addition A B) AtLeast (Literal (pos 0)) ∷ [];
    cost = None;
  } ∷ [];
}

-- Worked values of the rules with a cost, and of the programs of their costs.
pub record CostProgramsAreWorkedOut : Type 0 where
  pub written : HasCost (paying B) 1
  pub none_written : ¬ (HasCost small_program 1)
  pub no_rule : ¬ (HasCost (paying B) 2)
  pub rule_0 : ¬ (HasCost (paying B) 0)
  -- The name is `$` for the sources `l0` and `$$`, and `$$` for the source `$`.
  pub behind_name : cost_name (108 ∷ 48 ∷ []) ≡ 36 ∷ []
  pub behind_one : cost_name (36 ∷ []) ≡ 36 ∷ 36 ∷ []
  pub behind_two : cost_name (36 ∷ 36 ∷ []) ≡ 36 ∷ []
  -- The programs of the two costs, and no other ones.
  pub first : IsCostProgram (paying B) 1 cost_of_B
  pub second : IsCostProgram from_dollar 2 cost_from_dollar
  pub other_cost : ¬ (IsCostProgram (paying A) 1 cost_of_B)
  pub plain_rule : ¬ (IsCostProgram from_dollar 1 cost_from_dollar)
  pub itself : ¬ (IsCostProgram (paying B) 1 (paying B))

-- A step of the cost rule of a rule with cost B and guard A > B.
abbrev pub LeadsToB : ℤ → ℤ → Config → Type 0
LeadsToB x y d = LeadsToCost (rule_costing B (more_than_B ∷ [])) B (standing_at 0 x y) [] d

-- A single value at a symbol.
abbrev pub alone_at : ℕ → ℤ → Config
alone_at s z = record { at = s; values = z ∷ [] }

-- The steps lead from (3, 2) to the cost 2, and from (3, 0) to 0; not to another value or symbol, not if the cost is
-- -1, and not if the guard fails.
pub record CostStepsAreWorkedOut : Type 0 where
  pub cost : LeadsToB (pos 3) (pos 2) (alone_at 1 (pos 2))
  pub nothing : LeadsToB (pos 3) (pos 0) (alone_at 1 (pos 0))
  pub other_value : ¬ (LeadsToB (pos 3) (pos 2) (alone_at 1 (pos 3)))
  pub other_symbol : ¬ (LeadsToB (pos 3) (pos 2) (alone_at 0 (pos 2)))
  pub negative : (d : Config) → ¬ (LeadsToB (pos 3) (negsuc 0) d)
  pub guard_fails : (d : Config) → ¬ (LeadsToB (pos 2) (pos 2) d)

-- All worked values of costs.
pub record CostsAreWorkedOut : Type 0 where
  pub faults : CostFaultsAreWorkedOut
  pub programs : CostProgramsAreWorkedOut
  pub steps : CostStepsAreWorkedOut
