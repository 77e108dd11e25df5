use Rattle.std.proofs.Common.{List, All, sym, subst}
use Rattle.its_model.specs.Views.{program_of}
use Rattle.guard_prep.specs.declared.rule_rows.RuleRows.{RuleRows}
use Rattle.rank_search.specs.rule_questions.EmptyAnswers.{IsPrepared}
use Rattle.time_bounds.specs.Questions.{AreAnswersFrom}
use Rattle.time_bounds.proofs.RowLaws.{are_prepared, answers_of}
use Rattle.time_bounds.proofs.context.context_of.Goals as goal

pub all_empties-requires-clause-prepared : goal.all_empties-requires-clause-prepared
all_empties-requires-clause-prepared c =
    subst (λ (ms : List RuleRows). All IsPrepared ms) (sym c.deref.ensures.value)
    (are_prepared (program_of c.args.program.now) c.requires c.in_ok-prepared_rules.prepared_rules.items c.in_ok-prepared_rules.ensures)

pub returns-clause-ready : goal.returns-clause-ready
returns-clause-ready c = record {
  valid = c.requires;
  graph = c.in_ok-graph.ensures;
  rows = c.in_ok-prepared_rules.ensures;
  empties =
      answers_of (program_of c.args.program.now) c.args.pivots c.in_ok-prepared_rules.prepared_rules.items c.in_ok-empties.empties.items c.in_ok-prepared_rules.ensures
      (subst (λ (ms : List RuleRows). AreAnswersFrom c.args.pivots 1 ms c.in_ok-empties.empties.items) c.deref.ensures.value c.in_ok-empties.ensures);
}
