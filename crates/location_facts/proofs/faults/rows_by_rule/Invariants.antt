use Rattle.std.proofs.Common.{◌≡◌, map, take, Some}
use Rattle.its_model.specs.Views.{program_of}
use Rattle.rule_questions.specs.ProgramQuestions.{forms_in}
use Rattle.location_facts.specs.CombinedRows.{forms_of_rows}
use Rattle.location_facts.specs.Rows.{combined}
use Rattle.location_facts.proofs.faults.rows_by_rule.Given as goal

-- the rows are the combined ones of the rules so far
abbrev pub invariant-loop-i : goal.invariant-loop-i
invariant-loop-i l =
    map forms_of_rows l.all.items ≡ map (λ q. combined (forms_in (Some q)) l.kept) (take l.i (program_of l.p).rules)
