-- The meaning of the status with which a call ends.
use Rattle.std.specs.Prelude.{◌≡◌, ℕ, IsSome, IsTrue, IsFalse}
use Rattle.model.specs.Bounds.{Bound}
use Rattle.command_line.specs.Lines.{Word}
use Rattle.command_line.specs.Requests.{Request, OfProgram, While, HasRequest}
use Rattle.command_line.specs.declared.task.ProgramTask.TheVariants.{Analyse}
use Rattle.outcome.specs.Reports.{Report, is_bounded}
use Rattle.while_answer.specs.while_text.Reading.{Source}
use Rattle.call_plans.specs.declared.status.Status.{Status}
use Rattle.call_plans.specs.declared.status.Status.TheVariants.{Done, Unknown, Usage, ReadFault}
use Rattle.call_plans.specs.Sorts.{Answer, Refusal, sort_of}
use Rattle.call_plans.specs.Calls.{SinkUse}
use Rattle.call_plans.specs.Meanings.{Appended, Wrote, WroteRefusal, MayMiss}
use Rattle.koat_cli.specs.Calls.{Call}
use Rattle.koat_cli.specs.Report.{usage_text}
use Rattle.koat_cli.specs.RequestPlans.{plan_of}
use Rattle.koat_cli.specs.Answers.{HaveNoRequest}
use Rattle.koat_cli.specs.WroteReport.{WroteReport}
use Rattle.koat_cli.specs.WroteTotal.{WroteTotal}

-- The meanings of statuses. If `analyse` ends with `Done`, such a report was written, in which every rule has a time
-- and every rule with a cost a bound on it, and which has a total; and if it ends with `Unknown`, one in which a time
-- or a bound on a cost is missing. If `while` ends with `Done`, a while program was read, and the report of its
-- translation was written with a total, which bounds the steps of each execution. For every command: with the status of
-- an answer, the words have a request, its files gave all that its plan reads, and a text of the row with this status
-- was written, whole; with the status of a refusal, a text was written, whole, that refuses a file of the request, and
-- the files before it gave what the plan reads; with `ReadFault`, a file of the request that is reached in this way may
-- fail; and with `Usage`, the words have no request, and the usage text was written.
pub record Means (status : Status) (call : Call) (put : SinkUse) : Type 0 where
  pub done : (pivots : ℕ) (file : Word) → HasRequest call.words (OfProgram Analyse pivots file) → status ≡ Done
      → (report : Report) × WroteReport call put pivots file report × IsTrue (is_bounded report) × IsSome report.total
  pub unknown : (pivots : ℕ) (file : Word) → HasRequest call.words (OfProgram Analyse pivots file) → status ≡ Unknown
      → (report : Report) × WroteReport call put pivots file report × IsFalse (is_bounded report)
  pub executed : (pivots : ℕ) (file : Word) → HasRequest call.words (While pivots file) → status ≡ Done
      → (source : Source) × (total : Bound) × WroteTotal call put pivots file source total
  pub answered : (request : Request) → HasRequest call.words request → sort_of status ≡ Answer
      → Wrote call.shelf put (plan_of request) status
  pub asked : sort_of status ≡ Answer → (request : Request) × HasRequest call.words request
  pub refused : sort_of status ≡ Refusal
      → (request : Request) × (HasRequest call.words request × WroteRefusal call.shelf put (plan_of request) status)
  pub read_fault : status ≡ ReadFault
      → (request : Request) × (HasRequest call.words request × MayMiss call.shelf (plan_of request))
  pub usage : status ≡ Usage → HaveNoRequest call.words × Appended put usage_text
