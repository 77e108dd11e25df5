-- The statuses of a request's plan are those of the request.
use Rattle.std.proofs.Common.{refl}
use Rattle.command_line.specs.Requests.{Request, OfProgram, OfPair, OfNumber, OfFile, While}
use Rattle.command_line.specs.declared.task.ProgramTask.TheVariants.{Analyse, Prove, Facts, Best, Certify}
use Rattle.command_line.specs.declared.task.PairTask.TheVariants.{Check, Replay, Lasso}
use Rattle.command_line.specs.declared.task.NumberTask.TheVariants.{Generate, Selfrun}
use Rattle.command_line.specs.declared.task.FileTask.TheVariants.{Lp, Translate}
use Rattle.call_plans.proofs.Statuses.{OfPlan, of_plan}
use Rattle.koat_cli.specs.RequestPlans.{plan_of}
use Rattle.koat_cli.specs.Statuses.{statuses_of, IsAmong, AnswersHaveStatuses}
use Rattle.koat_cli.proofs.OneRequest.{answer_of}

-- each status of the plan is one of these, by computation
plan_statuses : (r : Request) → OfPlan (IsAmong (statuses_of r)) (plan_of r)
plan_statuses (OfProgram Analyse n file) = (refl, (refl, λ p. (refl, (refl, tt))))
plan_statuses (OfProgram Prove n file) = (refl, (refl, λ p. (refl, (refl, tt))))
plan_statuses (OfProgram Facts n file) = (refl, (refl, λ p. (refl, (refl, tt))))
plan_statuses (OfProgram Best n file) = (refl, (refl, λ p. (refl, (refl, tt))))
plan_statuses (OfProgram Certify n file) = (refl, (refl, λ p. (refl, tt)))
plan_statuses (OfPair Check file second) = (refl, (refl, λ p. (refl, (refl, λ f. (refl, (refl, tt))))))
plan_statuses (OfPair Replay file second) = (refl, (refl, λ p. (refl, (refl, λ r. (refl, (refl, tt))))))
plan_statuses (OfPair Lasso file second) = (refl, (refl, λ p. (refl, (refl, λ f. (refl, (refl, tt))))))
plan_statuses (OfNumber Generate n) = (refl, tt)
plan_statuses (OfNumber Selfrun n) = (refl, (refl, tt))
plan_statuses (OfFile Lp file) = (refl, (refl, λ p. (refl, (refl, tt))))
plan_statuses (OfFile Translate file) = (refl, (refl, λ s. (refl, tt)))
plan_statuses (While n file) = (refl, (refl, λ s. (refl, (refl, tt))))

pub answers_have_statuses : AnswersHaveStatuses
answers_have_statuses = record {
  each = λ call r s x asked reply.
      of_plan (IsAmong (statuses_of r)) call.shelf call.fetches_before (plan_of r) s x (plan_statuses r)
      (answer_of call r s x asked reply);
}
