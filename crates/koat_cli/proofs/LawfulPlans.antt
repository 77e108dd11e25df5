-- The plan of each request is lawful, and its statuses are of their sorts.
use Rattle.std.proofs.Common.{ℕ, List, refl, sym, ◌∙◌, subst}
use Rattle.model.specs.Programs.{Program}
use Rattle.its_reader.specs.its_text.Spelling.{SpellsWithin}
use Rattle.its_writer.specs.Generated.{generated}
use Rattle.command_line.specs.declared.task.ProgramTask.{ProgramTask}
use Rattle.command_line.specs.declared.task.PairTask.{PairTask}
use Rattle.command_line.specs.declared.task.NumberTask.{NumberTask}
use Rattle.command_line.specs.declared.task.FileTask.{FileTask}
use Rattle.command_line.specs.Lines.{Word}
use Rattle.command_line.specs.Requests.{Request, OfProgram, OfPair, OfNumber, OfFile, While, default_pivots}
use Rattle.command_line.specs.declared.task.ProgramTask.TheVariants.{Analyse, Prove, Facts, Best, Certify}
use Rattle.command_line.specs.declared.task.PairTask.TheVariants.{Check, Replay, Lasso}
use Rattle.command_line.specs.declared.task.NumberTask.TheVariants.{Generate, Selfrun}
use Rattle.command_line.specs.declared.task.FileTask.TheVariants.{Lp, Translate}
use Rattle.proof_forms.specs.Texts.{ProofText}
use Rattle.run_replay.specs.ReplayAnswers.{last_first}
use Rattle.run_replay.specs.Replays.{IsFirstBadStep}
use Rattle.run_replay.specs.Runs.{Run}
use Rattle.time_bounds.specs.Analysis.{IsAnalysis}
use Rattle.call_plans.specs.Plans.{IsLast}
use Rattle.call_plans.specs.Lawful.{AreRows, IsLawful, HasSorts}
use Rattle.call_plans.proofs.Rows.{row_of}
use Rattle.koat_cli.specs.Commands.Analyse.{StatesReport}
use Rattle.koat_cli.specs.Commands.Prove.{StatesProof}
use Rattle.koat_cli.specs.Commands.Facts.{IsAnalysisWithFacts, StatesFacts}
use Rattle.koat_cli.specs.Commands.Check.{check_answers}
use Rattle.koat_cli.specs.Commands.Replay.{replay_answers}
use Rattle.koat_cli.specs.Commands.Selfrun.{StatesFigures}
use Rattle.koat_cli.specs.OneAnswer.{IsDeterminedTask, IsDetermined}
use Rattle.koat_cli.specs.RunTexts.{bad_step_text}
use Rattle.koat_cli.specs.RequestPlans.{program_answers, second_plan, number_answers, plan_of}
use Rattle.koat_cli.proofs.Determined.{Determined}
use Rattle.koat_cli.proofs.OneText.{report_text_unique, facts_report_unique, facts_text_unique, figures_unique}
use Rattle.koat_cli.proofs.OneText.{proof_text_unique, tally_text_unique}
use Rattle.koat_cli.proofs.ProgramAnswers.{program_texts_decided}
use Rattle.koat_cli.proofs.ProofAnswers.{proof_texts_decided}
use Rattle.koat_cli.proofs.RunAnswers.{run_texts_decided}
use Rattle.koat_cli.proofs.LassoAnswers.{lasso_texts_decided, lasso_rows}
use Rattle.koat_cli.proofs.LpAnswers.{lp_texts_decided, lp_rows}
use Rattle.koat_cli.proofs.WhileAnswers.{while_programs_decided, executions_rows, translation_rows}
use Rattle.koat_cli.proofs.ReportTables.{report_rows}
use Rattle.koat_cli.proofs.Statements.{stated-unique}

module _ (laws : Determined) where
  -- the rows of a check
  check_rows : (p : Program) (t : ProofText) → AreRows (check_answers p t)
  check_rows p t = (
    row_of (laws.checks.one_acceptance p t) (laws.checks.accepted p t) (λ accepts refused. refused accepts, tt),
    (row_of (laws.checks.one_refusal p t) (laws.checks.refused p t) tt, tt),
  )

  -- the rows of a replay
  replay_rows : (p : Program) (r : Run) → AreRows (replay_answers p r)
  replay_rows p r =
      let start = r.start in
      let steps = last_first r in (
        row_of (tally_text_unique laws p r) (λ x a. a.in_range)
            (λ good bad. laws.replays.none_bad p start steps bad.0 good bad.1, tt),
        (
          row_of (stated-unique (IsFirstBadStep p start steps) bad_step_text (laws.replays.one_bad p start steps))
              (λ x a. (a.subject, a.is)) tt,
          tt,
        ),
      )

  -- the rows of the answers on a program
  program_rows : (task : ProgramTask) (n : ℕ) (p : Program) → IsDeterminedTask task → AreRows (program_answers task n p)
  program_rows Analyse n p one =
      report_rows (IsAnalysis p n) (StatesReport p n) (laws.reports.each p n) (λ r x h. h.found.found)
      (report_text_unique p n)
  program_rows Prove n p one =
      report_rows (IsAnalysis p n) (StatesProof p n) (laws.reports.each p n)
      (λ r x h. subst (IsAnalysis p n) h.reported h.proved.found.found) (proof_text_unique laws p n)
  program_rows Facts n p one =
      report_rows (IsAnalysisWithFacts p n) (StatesFacts p n) (facts_report_unique laws p n)
      (λ r x h. record { facts = h.facts; kept = h.found.kept; found = h.found.found }) (facts_text_unique laws p n)
  program_rows Best n p one = absurd one
  program_rows Certify n p one = absurd one

  -- the rows of the answers on a number
  number_rows : (task : NumberTask) (n : ℕ) → AreRows (number_answers task n)
  number_rows Generate n = (row_of (λ x y a b. a.result_is ∙ sym b.result_is) (λ x a. tt) tt, tt)
  number_rows Selfrun n =
      report_rows (IsAnalysis (generated n) default_pivots) (StatesFigures (generated n))
      (laws.reports.each (generated n) default_pivots)
      (λ r x h. subst (IsAnalysis (generated n) default_pivots) h.reported h.found.found)
      (figures_unique laws (generated n))

  second_lawful : (task : PairTask) (p : Program) (second : Word) (spelling : List ℕ) → SpellsWithin spelling p
      → IsLawful (second_plan task p second)
  second_lawful Check p second spelling spelled =
      (proof_texts_decided laws.proofs spelling p spelled, λ bytes t stands. check_rows p t)
  second_lawful Replay p second spelling spelled = (run_texts_decided p, λ bytes r stands. replay_rows p r)
  second_lawful Lasso p second spelling spelled = (lasso_texts_decided p, λ bytes f stands. lasso_rows laws.replays p f)

  -- the plan of each request whose answer is determined is lawful
  pub plans_lawful : (request : Request) → IsDetermined request → IsLawful (plan_of request)
  plans_lawful (OfProgram task n file) one =
      (program_texts_decided laws, λ bytes p stands. program_rows task n p one)
  plans_lawful (OfPair task file second) one =
      (program_texts_decided laws, λ bytes p stands. second_lawful task p second bytes stands)
  plans_lawful (OfNumber task n) one = number_rows task n
  plans_lawful (OfFile Lp file) one = (lp_texts_decided, λ bytes p stands. lp_rows p)
  plans_lawful (OfFile Translate file) one = (while_programs_decided, λ bytes s stands. translation_rows s)
  plans_lawful (While n file) one = (while_programs_decided, λ bytes s stands. executions_rows s n laws)

-- the statuses of the plan are of their sorts
second_sorted : (task : PairTask) (p : Program) (second : Word) → HasSorts (second_plan task p second)
second_sorted Check p second = (refl, λ f. (refl, (refl, tt)))
second_sorted Replay p second = (refl, λ r. (refl, (refl, tt)))
second_sorted Lasso p second = (refl, λ f. (refl, (refl, tt)))

program_sorted : (task : ProgramTask) (n : ℕ) (file : Word) → HasSorts (plan_of (OfProgram task n file))
program_sorted Analyse n file = (refl, λ p. (refl, (refl, tt)))
program_sorted Prove n file = (refl, λ p. (refl, (refl, tt)))
program_sorted Facts n file = (refl, λ p. (refl, (refl, tt)))
program_sorted Best n file = (refl, λ p. (refl, (refl, tt)))
program_sorted Certify n file = (refl, λ p. (refl, tt))

pub plans_sorted : (request : Request) → HasSorts (plan_of request)
plans_sorted (OfProgram task n file) = program_sorted task n file
plans_sorted (OfPair task file second) = (refl, λ p. second_sorted task p second)
plans_sorted (OfNumber Generate n) = (refl, tt)
plans_sorted (OfNumber Selfrun n) = (refl, (refl, tt))
plans_sorted (OfFile Lp file) = (refl, λ p. (refl, (refl, tt)))
plans_sorted (OfFile Translate file) = (refl, λ s. (refl, tt))
plans_sorted (While n file) = (refl, λ s. (refl, (refl, tt)))

-- if no file is read, the answer is determined
pub last_determined : (r : Request) → IsLast (plan_of r) → IsDetermined r
last_determined (OfProgram task n file) last = absurd last
last_determined (OfPair task file second) last = tt
last_determined (OfNumber task n) last = tt
last_determined (OfFile task file) last = tt
last_determined (While n file) last = tt

-- the plan after the program in the first of two files reads a second file
pub second_not_last : (task : PairTask) (p : Program) (second : Word) → ¬ (IsLast (second_plan task p second))
second_not_last Check p second last = last
second_not_last Replay p second last = last
second_not_last Lasso p second last = last

-- the plan of a file of another kind reads a file
pub file_not_last : (task : FileTask) (file : Word) → ¬ (IsLast (plan_of (OfFile task file)))
file_not_last Lp file last = last
file_not_last Translate file last = last
