use Rattle.std.proofs.Common.{refl, sym, subst}
use Rattle.std.proofs.lemmas.Result.{IfOk-weaker}
use Rattle.local_size.specs.LocalAnswers.{local_answer_of}
use Rattle.local_size.specs.declared.answer.LocalAnswer.{LocalAnswer}
use Rattle.size_bounds.specs.Tables.{table_of, number_at}
use Rattle.cert_types.specs.declared.answer.Question.TheVariants as questions
use Rattle.cost_bounds.specs.declared.answer.CostAnswer.TheVariants as answers
use Rattle.cost_bounds.specs.CostAnswers.{AnswersWith, HasReadableUp}
use Rattle.cost_bounds.specs.CostOutcomes.{StepTo, question}
use Rattle.cost_bounds.proofs.bounding.cost_by_step.Goals as goal

pub cost_by_sizes-requires-clause-readable : goal.cost_by_sizes-requires-clause-readable
cost_by_sizes-requires-clause-readable c = subst HasReadableUp c.in-Bound.is c.requires.readable

pub returns-in-Bound : goal.returns-in-Bound
returns-in-Bound c =
    IfOk-weaker c.cost_by_sizes.result _ _
    (λ a h p given. subst (λ (s : LocalAnswer). AnswersWith (question p (table_of c.args.t.now) c.args.cost.now.rule)
    (number_at c.args.t.now) (StepTo (question p (table_of c.args.t.now) c.args.cost.now.rule) (local_answer_of s)) a)
    (sym c.in-Bound.is) (h p given))
    c.cost_by_sizes.ensures

pub returns-in-UnboundedSide : goal.returns-in-UnboundedSide
returns-in-UnboundedSide c p given =
    subst (λ (s : LocalAnswer). AnswersWith (question p (table_of c.args.t.now) c.args.cost.now.rule)
    (number_at c.args.t.now)
    (StepTo (question p (table_of c.args.t.now) c.args.cost.now.rule) (local_answer_of s))
    (answers.UnboundedSide c.in-UnboundedSide.side)) (sym c.in-UnboundedSide.is) refl

pub returns-in-OutOfLimits : goal.returns-in-OutOfLimits
returns-in-OutOfLimits c p given =
    subst (λ (s : LocalAnswer). AnswersWith (question p (table_of c.args.t.now) c.args.cost.now.rule)
    (number_at c.args.t.now)
    (StepTo (question p (table_of c.args.t.now) c.args.cost.now.rule) (local_answer_of s))
    (answers.OutOfLimits (record {
      question = questions.Cost c.args.cost.now.rule;
      cause =
          c.in-OutOfLimits.limit_hit.cause;
    })))
    (sym c.in-OutOfLimits.is) refl
