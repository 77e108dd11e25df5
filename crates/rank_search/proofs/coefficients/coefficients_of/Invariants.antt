use Rattle.std.proofs.Common.{◌≡◌, ◌++◌, map, drop}
use Rattle.simplex_core.specs.linear_forms.RuleQuestions.{coefficients}
use Rattle.its_model.specs.Views.{program_of}
use Rattle.rank_search.specs.Coefficients.{coefficient_of, open_set}
use Rattle.rule_questions.specs.ProgramQuestions.{places_of}
use Rattle.rank_search.proofs.coefficients.coefficients_of.Given as goal

-- the coefficients so far and those of the remaining symbols are all
abbrev pub invariant-loop-symbol : goal.invariant-loop-symbol
invariant-loop-symbol l =
    map coefficient_of l.found.items ++ coefficients (open_set (program_of l.p) (places_of l.shut))
    (drop l.symbol-index l.symbols)
    ≡ coefficients (open_set (program_of l.p) (places_of l.shut)) l.symbols
