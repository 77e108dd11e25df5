use Rattle.std.proofs.Common.{◌≡◌, ℕ, ◌+◌, ◌*◌, ◌≤◌, List, ◌++◌, map, drop, Some}
use Rattle.std.specs.Prelude.{ℤ, slice_get}
use Rattle.simplex_core.specs.linear_forms.Questions.{number, signed}
use Rattle.lp_builder.specs.declared.description.Goal.{Goal}
use Rattle.lp_builder.specs.Descriptions.{goal_forms}
use Rattle.lp_builder.specs.Entries.{Writes}
use Rattle.lp_builder.proofs.line.put_goals.Given as goal

-- what is written, and the pairs of the remaining goals, are the pairs of all
abbrev pub invariant-loop-goal : goal.invariant-loop-goal
invariant-loop-goal l =
    ((done : List ℤ) × Writes l.initial.writer l.writer done
    × (signed (map (number l.line.unknowns l.line.number) (goal_forms 0 l.parameters l.goals)) ≡ done ++ signed (map (number l.line.unknowns l.line.number) (goal_forms l.next l.parameters (drop l.goal-index l.goals)))))
    × (l.writer.col ≡ l.initial.writer.col + 2 * l.next)
    × (l.next ≤ l.parameters)
    × ((k : ℕ) (g : Goal) → l.goal-index ≤ k → slice_get l.goals k ≡ Some g → l.next ≤ g.parameter)
