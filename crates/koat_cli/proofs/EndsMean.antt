-- The meaning of the status with which a call ends.
use Rattle.std.proofs.Common.{◌≡◌, ◌≢◌, ℕ, List, Option, Some, None, IsSome, IsTrue, IsFalse, inl, inr, refl, sym, ◌∙◌, ap}
use Rattle.std.proofs.Common.{subst}
use Rattle.std.specs.Prelude.{⊤}
use Rattle.model.specs.Bounds.{Bound}
use Rattle.model.specs.Programs.{Program}
use Rattle.command_line.specs.Lines.{Word}
use Rattle.command_line.specs.Requests.{Request, OfProgram, While, HasRequest}
use Rattle.command_line.specs.declared.task.ProgramTask.TheVariants.{Analyse}
use Rattle.outcome.specs.Reports.{Report, is_bounded}
use Rattle.while_answer.specs.Executed.{translation_of}
use Rattle.while_answer.specs.while_text.Reading.{Source}
use Rattle.call_plans.specs.declared.status.Status.{Status}
use Rattle.call_plans.specs.declared.status.Status.TheVariants.{Done, Unknown, Usage, ReadFault, WriteFault, Memory}
use Rattle.call_plans.specs.Sorts.{Answer, Refusal, sort_of}
use Rattle.call_plans.specs.Calls.{SinkUse}
use Rattle.call_plans.specs.Gives.{Gives}
use Rattle.call_plans.specs.Meanings.{Appended, Wrote, WroteRefusal, MayMiss}
use Rattle.call_plans.proofs.Meanings.{wrote_of, refused_of, missed_of}
use Rattle.koat_cli.specs.Calls.{Call}
use Rattle.koat_cli.specs.Commands.Analyse.{StatesReport}
use Rattle.koat_cli.specs.ProgramTexts.{programs}
use Rattle.koat_cli.specs.RequestPlans.{plan_of}
use Rattle.koat_cli.specs.Answers.{HaveNoRequest, IsAnswer}
use Rattle.koat_cli.specs.Ends.{Ends, WroteWhole}
use Rattle.koat_cli.specs.Means.{Means}
use Rattle.koat_cli.specs.Report.{usage_text}
use Rattle.koat_cli.specs.WroteReport.{WroteReport}
use Rattle.koat_cli.specs.WroteTotal.{WroteTotal}
use Rattle.koat_cli.proofs.BoundedReports.{total_where_bounded}
use Rattle.koat_cli.proofs.LawfulPlans.{plans_sorted}
use Rattle.koat_cli.proofs.OneRequest.{answer_of, request_unless_usage, answer_is_written_whole, refusal_is_written_whole, usage_for_nothing, usage_status_has_usage_text}

-- a bound that exists
bound_there : (o : Option Bound) → IsSome o → (b : Bound) × (o ≡ Some b)
bound_there None some = absurd (let never : ⊥ = cc in never)
bound_there (Some b) some = (b, refl)

module _ (call : Call) (put : SinkUse) (n : ℕ) (file : Word) where
  -- a report that was written
  report_wrote : (p : Program) (r : Report) (x : List ℕ) → Gives programs call.shelf file ⊤ p → StatesReport p n r x
      → Appended put x → WroteReport call put n file r
  report_wrote p r x gives stated appended = record {
    program = p;
    given = gives;
    found = stated.found;
    fits = stated.fits;
    text = x;
    stated = stated.stated;
    appended = appended;
  }

  -- a report that lacks no bound was written with `Done`, and one that lacks a bound with `Unknown`
  done_wrote : Wrote call.shelf put (plan_of (OfProgram Analyse n file)) Done
      → (report : Report) × WroteReport call put n file report × IsTrue (is_bounded report) × IsSome report.total
  done_wrote (p, (gives, (x, (inl told, appended)))) = (
    told.1.report,
    report_wrote p told.1.report x gives told.1.holds appended,
    told.1.bounded,
    total_where_bounded p told.1.report told.1.holds.stated.report told.1.bounded,
  )
  done_wrote (p, (gives, (x, (inr (inl told), appended)))) =
      absurd (let e : Done ≡ Unknown = told.0 in let never : ⊥ = cc in never)
  done_wrote (p, (gives, (x, (inr (inr never), appended)))) = absurd never

  unknown_wrote : Wrote call.shelf put (plan_of (OfProgram Analyse n file)) Unknown
      → (report : Report) × WroteReport call put n file report × IsFalse (is_bounded report)
  unknown_wrote (p, (gives, (x, (inl told, appended)))) =
      absurd (let e : Unknown ≡ Done = told.0 in let never : ⊥ = cc in never)
  unknown_wrote (p, (gives, (x, (inr (inl told), appended)))) =
      (told.1.report, report_wrote p told.1.report x gives told.1.holds appended, told.1.bounded)
  unknown_wrote (p, (gives, (x, (inr (inr never), appended)))) = absurd never

  -- with `Done` a total of the executions was written
  total_wrote : Wrote call.shelf put (plan_of (While n file)) Done
      → (source : Source) × (total : Bound) × WroteTotal call put n file source total
  total_wrote (source, (gives, (x, (inl told, appended)))) =
      let held = told.1.holds.stated in
      let total = bound_there told.1.report.total
      (total_where_bounded (translation_of source) told.1.report held.stated.report told.1.bounded) in (
        source,
        total.0,
        record {
          given = gives;
          report = told.1.report;
          is_total = total.1;
          text = x;
          stated = told.1.holds;
          appended = appended;
        },
      )
  total_wrote (source, (gives, (x, (inr (inl told), appended)))) =
      absurd (let e : Done ≡ Unknown = told.0 in let never : ⊥ = cc in never)
  total_wrote (source, (gives, (x, (inr (inr never), appended)))) = absurd never

module _ (s : Status) (call : Call) (put : SinkUse) (ends : Ends s call put) where
  -- with the status of an answer a text of the request's plan was written
  answered : (r : Request) → HasRequest call.words r → sort_of s ≡ Answer → Wrote call.shelf put (plan_of r) s
  answered r asked is =
      let whole = answer_is_written_whole s is in
      let wrote : WroteWhole s call put = ends.wrote whole.0 whole.1.0 in
      wrote_of call.shelf put call.fetches_before (plan_of r) s wrote.text (plans_sorted r) is
      (answer_of call r s wrote.text asked wrote.says) wrote.appended

  asked : sort_of s ≡ Answer → (r : Request) × HasRequest call.words r
  asked is =
      let whole = answer_is_written_whole s is in
      let wrote : WroteWhole s call put = ends.wrote whole.0 whole.1.0 in
      let found = request_unless_usage call s wrote.text whole.1.1 wrote.says in
      (found.0, found.1.0)

  -- with the status of a refusal a text that refuses a file of the request was written
  refused : sort_of s ≡ Refusal
      → (r : Request) × (HasRequest call.words r × WroteRefusal call.shelf put (plan_of r) s)
  refused is =
      let whole = refusal_is_written_whole s is in
      let wrote : WroteWhole s call put = ends.wrote whole.0 whole.1.0 in
      let found = request_unless_usage call s wrote.text whole.1.1 wrote.says in
      (found.0, (found.1.0, refused_of call.shelf put call.fetches_before (plan_of found.0) s wrote.text (plans_sorted found.0) is found.1.1 wrote.appended))

  -- with a fault of reading some file of the request may fail
  fault_whole : s ≡ ReadFault → (s ≢ WriteFault) × ((s ≢ Memory) × (s ≢ Usage))
  fault_whole is = (
    λ e. let same : ReadFault ≡ WriteFault = sym is ∙ e in let never : ⊥ = cc in never,
    (
      λ e. let same : ReadFault ≡ Memory = sym is ∙ e in let never : ⊥ = cc in never,
      λ e. let same : ReadFault ≡ Usage = sym is ∙ e in let never : ⊥ = cc in never,
    ),
  )

  read_fault : s ≡ ReadFault → (r : Request) × (HasRequest call.words r × MayMiss call.shelf (plan_of r))
  read_fault is =
      let whole = fault_whole is in
      let wrote : WroteWhole s call put = ends.wrote whole.0 whole.1.0 in
      let found = request_unless_usage call s wrote.text whole.1.1 wrote.says in
      (found.0, (found.1.0, missed_of call.shelf call.fetches_before (plan_of found.0) s wrote.text (plans_sorted found.0) is found.1.1))

  -- the status `Usage` is neither `WriteFault` nor `Memory`, so the usage text was written whole
  usage_whole : s ≡ Usage → (s ≢ WriteFault) × (s ≢ Memory)
  usage_whole is = (
    λ e. let same : Usage ≡ WriteFault = sym is ∙ e in let never : ⊥ = cc in never,
    λ e. let same : Usage ≡ Memory = sym is ∙ e in let never : ⊥ = cc in never,
  )

  usage : s ≡ Usage → HaveNoRequest call.words × Appended put usage_text
  usage is =
      let whole = usage_whole is in
      let wrote : WroteWhole s call put = ends.wrote whole.0 whole.1 in
      let reply = subst (λ (t : Status). IsAnswer call t wrote.text) is wrote.says in (
        usage_for_nothing call wrote.text reply,
        subst (λ (x : List ℕ). Appended put x) (usage_status_has_usage_text call wrote.text reply) wrote.appended,
      )

-- the status with which a call ends has its meaning
pub ends_mean : (s : Status) (call : Call) (put : SinkUse) → Ends s call put → Means s call put
ends_mean s call put ends = record {
  done = λ n file made is.
      done_wrote call put n file
      (subst (λ (t : Status). Wrote call.shelf put (plan_of (OfProgram Analyse n file)) t) is
      (answered s call put ends (OfProgram Analyse n file) made (ap sort_of is)));
  unknown = λ n file made is.
      unknown_wrote call put n file
      (subst (λ (t : Status). Wrote call.shelf put (plan_of (OfProgram Analyse n file)) t) is
      (answered s call put ends (OfProgram Analyse n file) made (ap sort_of is)));
  executed = λ n file made is.
      total_wrote call put n file
      (subst (λ (t : Status). Wrote call.shelf put (plan_of (While n file)) t) is
      (answered s call put ends (While n file) made (ap sort_of is)));
  answered = answered s call put ends;
  asked = asked s call put ends;
  refused = refused s call put ends;
  read_fault = read_fault s call put ends;
  usage = usage s call put ends;
}
