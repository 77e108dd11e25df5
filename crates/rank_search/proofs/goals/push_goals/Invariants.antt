use Rattle.guard_prep.specs.Views.{prepared_of}
use Rattle.rank_search.specs.Goals.{AreGoalsUpTo}
use Rattle.rule_questions.specs.ProgramQuestions.{forms_of}
use Rattle.rank_search.proofs.goals.push_goals.Given as goal

-- the goals are those of the coefficients so far
abbrev pub invariant-loop-parameter : goal.invariant-loop-parameter
invariant-loop-parameter l =
    AreGoalsUpTo l.part (forms_of l.source l.target (prepared_of l.prepared_rule)) l.coefficients l.parameter
    l.goals.items
