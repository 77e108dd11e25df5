-- The answer on a size: a node that states it, or the first reason why there is none.
use Rattle.std.specs.Prelude.{◌≡◌, ℕ, List, [], ◌∷◌}
use Rattle.model.specs.Facts.{Size}
use Rattle.cert_types.specs.cert_rules.Nodes.{Member, Spread, Cycle}
use Rattle.cert_types.specs.cert_rules.Setting.{Setting}
use Rattle.cert_types.specs.cert_rules.Known.{Table}
use Rattle.cert_types.specs.cert_rules.AcceptsSizes.{AcceptsSpread, AcceptsCycle, spread_size, cycle_size, cycle_facts}
use Rattle.cert_types.specs.cert_rules.Reasons.{MissingTime, MissingSize, Nonlinear, Large, IsFirstAmong}
use Rattle.cert_types.specs.cert_rules.Checks.{spread_checks, cycle_checks}
use Rattle.cert_types.specs.Views.{facts_of, proof_of}
use Rattle.bound_fixpoint.specs.Needs.{uses_for, spread_premises, cycle_premises}
use Rattle.size_bounds.specs.declared.answer.SizeAnswer.{SizeAnswer}
use Rattle.size_bounds.specs.declared.answer.SizeAnswer.TheVariants as answers

-- the answer for a place that doesn't loop, over a table whose bounds by key are those of lemmas with these numbers:
-- the node that is accepted, with its premises, and its size; or the first check of the node that fails
abbrev pub IsSpreadAnswer : Setting → Table → (ℕ → ℕ → ℕ) → Member → SizeAnswer → Type 0
IsSpreadAnswer s tab number m (answers.Found node facts) = AcceptsSpread s tab m
    × (proof_of node ≡ Spread m (uses_for number (spread_premises s m)))
    × (facts_of facts.items ≡ Size m.result_variable.rule m.result_variable.place (s.rewrite (spread_size s tab m)) ∷ [])
IsSpreadAnswer s tab number m (answers.Missing result_variable) =
    IsFirstAmong (spread_checks s tab m) (MissingSize result_variable.rule result_variable.place)
IsSpreadAnswer s tab number m (answers.Nonlinear result_variable) = ⊥
IsSpreadAnswer s tab number m (answers.Untimed rule) = ⊥
IsSpreadAnswer s tab number m (answers.Large nodes) = IsFirstAmong (spread_checks s tab m) (Large nodes)

-- the answer for the members of a loop, with one size for all
abbrev pub IsCycleAnswer : Setting → Table → (ℕ → ℕ → ℕ) → List Member → SizeAnswer → Type 0
IsCycleAnswer s tab number members (answers.Found node facts) = AcceptsCycle s tab members
    × (proof_of node ≡ Cycle members (uses_for number (cycle_premises s tab members)))
    × (facts_of facts.items ≡ cycle_facts (s.rewrite (cycle_size s tab members)) members)
IsCycleAnswer s tab number members (answers.Missing result_variable) =
    IsFirstAmong (cycle_checks s tab members) (MissingSize result_variable.rule result_variable.place)
IsCycleAnswer s tab number members (answers.Nonlinear result_variable) =
    IsFirstAmong (cycle_checks s tab members) (Nonlinear result_variable.rule result_variable.place)
IsCycleAnswer s tab number members (answers.Untimed rule) = IsFirstAmong (cycle_checks s tab members) (MissingTime rule)
IsCycleAnswer s tab number members (answers.Large nodes) = IsFirstAmong (cycle_checks s tab members) (Large nodes)
