use Rattle.std.proofs.Common.{take}
use Rattle.std.specs.List.{All}
use Rattle.lp_builder.specs.declared.description.Goal.{Goal}
use Rattle.lp_builder.specs.poly_terms.Views.{form_of}
use Rattle.lp_builder.specs.Descriptions.{IsWritable}
use Rattle.sample_questions.proofs.writable.are_goals_writable.Given as goal

-- the goals before this one can be written
abbrev pub invariant-loop-goal : goal.invariant-loop-goal
invariant-loop-goal l = All (λ (r : Goal). IsWritable l.unknowns (form_of r.form)) (take l.goal-index l.goals)
