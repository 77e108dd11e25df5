-- The derivations before the first round, rule by rule.
use Rattle.std.specs.Prelude.{ℕ, zero, suc, ◌+◌, List, [], ◌∷◌, ◌++◌, map}
use Rattle.std.specs.List.{range_with_len}
use Rattle.model.specs.Bounds.{Constant}
use Rattle.model.specs.Programs.{Program, Rule, arity_of}
use Rattle.cert_types.specs.cert_rules.Nodes.{ResultVariable}
use Rattle.cert_types.specs.declared.answer.GuardFeasibility.{GuardFeasibility}
use Rattle.cert_types.specs.declared.answer.GuardFeasibility.TheVariants as answers
use Rattle.bound_fixpoint.specs.Keys.{key, time_key}
use Rattle.bound_fixpoint.specs.Derivations.{Derivation, NeverBy}
use Rattle.bound_fixpoint.specs.Beginning.{empty_derivation, unreached_derivation}
use Rattle.time_bounds.specs.declared.rule_statuses.RuleStatus.{RuleStatus}
use Rattle.time_bounds.specs.declared.rule_statuses.RuleStatus.TheVariants.{Empty, Unreached, Live}

-- the derivation that rule t never occurs, if its answer is that its guard is infeasible; and of the rules from t on
abbrev pub empty_here : ℕ → GuardFeasibility → List Derivation
empty_here t (answers.Empty n) = empty_derivation t n.multipliers.items ∷ []
empty_here t (answers.Point z) = []
empty_here t (answers.OutOfLimits x) = []

abbrev pub empty_derivations : ℕ → List GuardFeasibility → List Derivation
empty_derivations t [] = []
empty_derivations t (a ∷ empties) = empty_here t a ++ empty_derivations (t + 1) empties

-- the key of the time of rule t, if its status is that its guard is infeasible; and those of the rules from t on
abbrev pub empty_key : ℕ → RuleStatus → List ResultVariable
empty_key t Empty = time_key t ∷ []
empty_key t Unreached = []
empty_key t Live = []

abbrev pub empty_keys : ℕ → List RuleStatus → List ResultVariable
empty_keys t [] = []
empty_keys t (f ∷ rule_statuses) = empty_key t f ++ empty_keys (t + 1) rule_statuses

-- the derivation that rule t never occurs, if it is unreached, with these premises; and of the rules from t on
abbrev pub unreached_here : List ResultVariable → ℕ → RuleStatus → List Derivation
unreached_here dead t Empty = []
unreached_here dead t Unreached = unreached_derivation dead t ∷ []
unreached_here dead t Live = []

abbrev pub unreached_derivations : List ResultVariable → ℕ → List RuleStatus → List Derivation
unreached_derivations dead t [] = []
unreached_derivations dead t (f ∷ rule_statuses) = unreached_here dead t f ++ unreached_derivations dead (t + 1) rule_statuses

-- the derivation of the sizes at the first a places after rule t, which never occurs
abbrev pub sized_derivation : ℕ → ℕ → Derivation
sized_derivation t a = record {
  keys = map (λ i. key t i) (range_with_len 1 a);
  node = NeverBy t;
  premises = time_key t ∷ [];
  bound = Constant 0;
}

-- this derivation, if rule t never occurs and its target has a place; and of the rules from t on
abbrev pub never_here : ℕ → RuleStatus → ℕ → List Derivation
never_here t Empty zero = []
never_here t Empty (suc a) = sized_derivation t (suc a) ∷ []
never_here t Unreached zero = []
never_here t Unreached (suc a) = sized_derivation t (suc a) ∷ []
never_here t Live a = []

abbrev pub never_derivations : Program → ℕ → List RuleStatus → List Rule → List Derivation
never_derivations p t [] rules = []
never_derivations p t (f ∷ rule_statuses) [] = []
never_derivations p t (f ∷ rule_statuses) (r ∷ rules) = never_here t f (arity_of p r.target) ++ never_derivations p (t + 1) rule_statuses rules
