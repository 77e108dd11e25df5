use Rattle.std.proofs.Common.{List, All, sym, subst}
use Rattle.its_model.specs.Views.{program_of}
use Rattle.guard_prep.specs.declared.rule_rows.RuleRows.{RuleRows}
use Rattle.rank_search.specs.rule_questions.EmptyAnswers.{IsPrepared}
use Rattle.time_bounds.proofs.RowLaws.{are_prepared}
use Rattle.analysis_tests.proofs.locals.answer_in.Goals as goal

pub answer_by-requires : goal.answer_by-requires
answer_by-requires c =
    subst (λ (ms : List RuleRows). All IsPrepared ms) (sym c.deref.ensures.value)
    (are_prepared (program_of c.args.p.now) c.requires c.in_ok-prepared_rules.prepared_rules.items
    c.in_ok-prepared_rules.ensures)
