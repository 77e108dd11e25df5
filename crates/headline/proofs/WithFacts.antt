-- The facts and the bounds that a process wrote that was to analyse a program with facts hold on all runs of the program
-- that the text spells.
use Rattle.std.proofs.Common.{◌≡◌, ℕ, true, false, List, ◌++◌, map, refl, sym, ◌∙◌, ap, subst, inl, inr, arith}
use Rattle.std.specs.Prelude.{IsTrue, IsFalse, IsSome}
use Rattle.std.specs.List.{AllByRecursion}
use Rattle.std.specs.declared.process.ExitCode.{ExitCode}
use Rattle.model.specs.Programs.{Symbol, Program}
use Rattle.text_core.specs.Names.{IsName}
use Rattle.its_text.specs.Spelling.{Spells}
use Rattle.its_writer.specs.Texts.{canonical_text}
use Rattle.its_writer.proofs.SpellingLaws.{spelled_programs}
use Rattle.location_facts.specs.declared.fact.LocFact.{LocFact}
use Rattle.outcome.specs.Reports.{Report, is_bounded}
use Rattle.report_text.specs.Reports.{text_of_report}
use Rattle.facts_report.specs.FactTexts.{location_lines, text_with_facts}
use Rattle.command_line.specs.Lines.{Word, Words}
use Rattle.command_line.specs.Requests.{OfProgram, HasRequest}
use Rattle.command_line.specs.declared.task.ProgramTask.TheVariants.{Facts}
use Rattle.call_plans.specs.declared.status.Status.{Status}
use Rattle.call_plans.specs.declared.status.Status.TheVariants.{Done, Unknown}
use Rattle.call_plans.specs.Numbers.{number_of}
use Rattle.call_plans.specs.Sorts.{Answer, sort_of}
use Rattle.call_plans.specs.Calls.{SinkUse}
use Rattle.call_plans.specs.Meanings.{Appended, Wrote}
use Rattle.call_plans.specs.Plans.{HasRow}
use Rattle.koat_cli.specs.Calls.{Call}
use Rattle.koat_cli.specs.Found.{HasReport}
use Rattle.koat_cli.specs.RequestPlans.{plan_of}
use Rattle.koat_cli.specs.Commands.Facts.{StatesFacts, facts_answers}
use Rattle.koat_cli.proofs.BoundedReports.{total_where_bounded}
use Rattle.headline.specs.Reasons.{EndsInReasons}
use Rattle.headline.specs.Words.{facts_command}
use Rattle.headline.specs.Premises.{WasCalled}
use Rattle.headline.specs.WithFacts.{WroteFactsAndBounds, EndedWithFactsAndBounds, BoundsWithFactsHold}
use Rattle.headline.specs.WithFacts.{BoundsWithFactsOfAnyTextHold}
use Rattle.headline.proofs.AtSymbols.{all_hold_at}
use Rattle.headline.proofs.Words.{words_have_requests}
use Rattle.headline.proofs.Reasons.{end_in_reasons}
use Rattle.headline.proofs.Statuses.{done_of, unknown_of}
use Rattle.headline.proofs.GivenPrograms.{program_given}

-- the text has the lines of the facts, and then the report
facts_then_report : (p : Program) (facts : List LocFact) (r : Report)
    → text_with_facts p facts r ≡ location_lines p facts ++ text_of_report p r
unfolding text_with_facts
facts_then_report p facts r = refl

-- what was written of facts and a report
facts_written : (p : Program) (put : SinkUse) (r : Report) (x : List ℕ)
    → AllByRecursion IsName (map (λ (s : Symbol). s.name) p.symbols) → StatesFacts p 10000 r x → Appended put x
    → (facts : List LocFact) × WroteFactsAndBounds p put facts r
facts_written p put r x names states appended =
    let ends : EndsInReasons p r = end_in_reasons.each p r names in
    let text = states.result_is ∙ (facts_then_report p states.facts r
    ∙ ap (λ (w : List ℕ). location_lines p states.facts ++ w) ends.whole) in (
      states.facts,
      record {
        on_program = states.found.on_program;
        reasons = ends.reasons;
        are_reasons = ends.are_reasons;
        appended = subst (λ (written : List ℕ). Appended put written) text appended;
        held = all_hold_at p states.facts states.found.held.hold;
        true_on_all_runs = states.found.true_on_all_runs;
      },
    )

-- the rows of the table with status 0 and with status 1
bounded_row : (p : Program) (x : List ℕ) → HasRow (facts_answers 10000 p) Done x
    → HasReport (λ (r : Report). StatesFacts p 10000 r x) true
bounded_row p x (inl (e, report)) = report
bounded_row p x (inr (inl (e, report))) = let none : 0 ≡ 1 = ap number_of e in absurd (omega (arith, none))
bounded_row p x (inr (inr never)) = absurd never

missing_row : (p : Program) (x : List ℕ) → HasRow (facts_answers 10000 p) Unknown x
    → HasReport (λ (r : Report). StatesFacts p 10000 r x) false
missing_row p x (inl (e, report)) = let none : 1 ≡ 0 = ap number_of e in absurd (omega (arith, none))
missing_row p x (inr (inl (e, report))) = report
missing_row p x (inr (inr never)) = absurd never

-- facts and a report on the program were written, in which no bound is missing, or one is
abbrev WroteAll : Program → SinkUse → Type 0
WroteAll p put = (facts : List LocFact) × (r : Report)
    × WroteFactsAndBounds p put facts r × IsTrue (is_bounded r) × IsSome r.total

abbrev WroteSome : Program → SinkUse → Type 0
WroteSome p put =
    (facts : List LocFact) × (r : Report) × WroteFactsAndBounds p put facts r × IsFalse (is_bounded r)

module _ (code : ExitCode) (call : Call) (put : SinkUse) (file : Word) (text : List ℕ) (p : Program)
    (was : WasCalled code call put (facts_command file) file text) (spells : Spells text p) where
  asked : HasRequest call.words (OfProgram Facts 10000 file)
  asked =
      subst (λ (words : Words). HasRequest words (OfProgram Facts 10000 file)) (sym was.called)
      (words_have_requests.of_facts file was.name).requested

  names : AllByRecursion IsName (map (λ (s : Symbol). s.name) p.symbols)
  names = (spelled_programs.spelled text p spells).names

  -- what was written, by the status
  wrote : (s : Status) → was.exits.status ≡ s → sort_of s ≡ Answer
      → Wrote call.shelf put (plan_of (OfProgram Facts 10000 file)) s
  wrote s e answer =
      subst (λ (t : Status). Wrote call.shelf put (plan_of (OfProgram Facts 10000 file)) t) e
      (was.exits.means.answered (OfProgram Facts 10000 file) asked (ap sort_of e ∙ answer))

  bounded : Wrote call.shelf put (plan_of (OfProgram Facts 10000 file)) Done → WroteAll p put
  bounded (q, (gives, (x, (row, appended)))) =
      let its_program : q ≡ p = program_given call.shelf was.files file text p q was.disclosed was.holds spells gives in
      let report = bounded_row q x row in
      let states = subst (λ (o : Program). StatesFacts o 10000 report.report x) its_program report.holds in
      let written = facts_written p put report.report x names states appended in (
        written.0,
        report.report,
        written.1,
        report.bounded,
        total_where_bounded p report.report written.1.on_program report.bounded,
      )

  missing : Wrote call.shelf put (plan_of (OfProgram Facts 10000 file)) Unknown → WroteSome p put
  missing (q, (gives, (x, (row, appended)))) =
      let its_program : q ≡ p = program_given call.shelf was.files file text p q was.disclosed was.holds spells gives in
      let report = missing_row q x row in
      let states = subst (λ (o : Program). StatesFacts o 10000 report.report x) its_program report.holds in
      let written = facts_written p put report.report x names states appended in
      (written.0, report.report, written.1, report.bounded)

  ended_with_facts_and_bounds : EndedWithFactsAndBounds code p put
  ended_with_facts_and_bounds = record {
    all = λ e. bounded (wrote Done (done_of was.exits.status (sym was.exits.numbered ∙ e)) refl);
    some = λ e. missing (wrote Unknown (unknown_of was.exits.status (sym was.exits.numbered ∙ e)) refl);
  }

pub any_text_with_facts : BoundsWithFactsOfAnyTextHold
any_text_with_facts = record { each = ended_with_facts_and_bounds }

pub bounds_with_facts : BoundsWithFactsHold
bounds_with_facts = record {
  each = λ code call put file p was spellable.
      ended_with_facts_and_bounds code call put file (canonical_text p) p was (spelled_programs.spells p spellable);
}
