use Rattle.std.proofs.Common.{sym, ◌∙◌}
use Rattle.its_model.specs.Views.{rule_of, program_of}
use Rattle.guard_prep.proofs.StepLaws.{preparable}
use Rattle.programs_tests.proofs.Laws.{first_rule, some}
use Rattle.programs_tests.proofs.rules.rows_text.Goals as goal

pub rows-requires : goal.rows-requires
rows-requires c =
    preparable (program_of c.args.p.now) 1 (rule_of c.index.result.now) c.requires
    (first_rule c.args.p.now c.index.result.now
    (some c.args.p.now (sym c.is_empty.ensures ∙ c.if-is_empty.false)) c.index.ensures)
