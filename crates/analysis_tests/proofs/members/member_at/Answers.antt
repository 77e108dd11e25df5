use Rattle.std.proofs.Common.{◌-◌, sym, subst, arith}
use Rattle.guard_prep.specs.Views.{prepared_of}
use Rattle.guard_prep.specs.declared.rule_rows.RuleRows.{RuleRows}
use Rattle.local_size.specs.LocalAnswers.{IsLocal, local_answer_of}
use Rattle.local_size.specs.declared.answer.LocalAnswer.{LocalAnswer}
use Rattle.cert_types.specs.Views.{local_of, result_variable_of}
use Rattle.rank_search.specs.rule_questions.EmptyAnswers.{IsPrepared}
use Rattle.time_bounds.proofs.RowLaws.{are_prepared}
use Rattle.analysis_tests.proofs.Accepted.{accepted}
use Rattle.analysis_tests.proofs.members.member_at.Goals as goal

pub local-requires-clause-prepared : goal.local-requires-clause-prepared
local-requires-clause-prepared c =
    subst (λ (m : RuleRows). IsPrepared m) (sym c.index-prepared_rules-wanted.is)
    (are_prepared c.requires.0 c.requires.1.0 c.args.prepared_rules.now c.requires.1.1 (c.args.result_variable.rule - 1)
    c.index-prepared_rules-wanted.result
    (omega (arith, c.if-wanted-prepared_rules.false)))

pub returns-in-Bound : goal.returns-in-Bound
returns-in-Bound c = λ p valid rows.
    accepted p c.args.prepared_rules.now (c.args.result_variable.rule - 1) 10000 c.index-prepared_rules-wanted.result
    (result_variable_of c.args.result_variable) c.unknown.result
    (local_of c.in-Bound.local) valid rows (omega (arith, c.if-wanted-prepared_rules.false))
    c.index-prepared_rules-wanted.is (omega (arith, c.if-result_variable-eq0.false))
    (omega (arith, c.if-result_variable-eq0-2.false)) (omega (arith, c.if-result_variable-len.false, c.len.ensures))
    (subst (λ (a : LocalAnswer). IsLocal (prepared_of c.index-prepared_rules-wanted.result)
    (result_variable_of c.args.result_variable) 10000 c.unknown.result (local_answer_of a))
    c.in-Bound.is c.in_ok-local.ensures)
