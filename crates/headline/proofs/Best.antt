-- The facts and the bounds that a process wrote that was to find the best bounds on a program hold on all runs of the
-- program that the text spells.
use Rattle.std.proofs.Common.{◌≡◌, ℕ, Bool, true, false, List, [], ◌∷◌, ◌++◌, Option, Some, None, map, refl, sym, ◌∙◌, ap}
use Rattle.std.proofs.Common.{subst, inl, inr, arith}
use Rattle.std.specs.Prelude.{IsTrue, IsFalse}
use Rattle.std.specs.List.{AllByRecursion}
use Rattle.std.specs.declared.process.ExitCode.{ExitCode}
use Rattle.model.specs.Programs.{Symbol, Program}
use Rattle.text_core.specs.Names.{IsName}
use Rattle.its_text.specs.Spelling.{Spells}
use Rattle.its_writer.specs.Texts.{canonical_text}
use Rattle.its_writer.proofs.SpellingLaws.{spelled_programs}
use Rattle.signed_bounds.specs.Bounds.{Signed}
use Rattle.outcome.specs.Reports.{Time, RuleCost, Report}
use Rattle.outcome.specs.Holding.{numbered_entry}
use Rattle.location_facts.specs.declared.fact.LocFact.{LocFact}
use Rattle.facts_report.specs.FactTexts.{location_lines}
use Rattle.best_report.specs.declared.subject.Subject.{Subject}
use Rattle.best_report.specs.declared.subject.Subject.TheVariants as subjects
use Rattle.best_report.specs.Lines.{Line, is_bounded}
use Rattle.best_report.specs.Texts.{headline, lines_text, time_reason, cost_reason, subject_reason, reason_by}
use Rattle.best_report.specs.Texts.{reasons_text, best_text}
use Rattle.command_line.specs.Lines.{Word, Words}
use Rattle.command_line.specs.Requests.{OfProgram, HasRequest}
use Rattle.command_line.specs.declared.task.ProgramTask.TheVariants.{Best}
use Rattle.call_plans.specs.declared.status.Status.{Status}
use Rattle.call_plans.specs.declared.status.Status.TheVariants.{Done, Unknown}
use Rattle.call_plans.specs.Numbers.{number_of}
use Rattle.call_plans.specs.Sorts.{Answer, sort_of}
use Rattle.call_plans.specs.Calls.{SinkUse}
use Rattle.call_plans.specs.Meanings.{Appended, Wrote}
use Rattle.call_plans.specs.Plans.{HasRow}
use Rattle.koat_cli.specs.Calls.{Call}
use Rattle.koat_cli.specs.RequestPlans.{plan_of}
use Rattle.koat_cli.specs.Commands.Best.{StatesBest, best_answers}
use Rattle.headline.specs.Reasons.{GivesReasons}
use Rattle.headline.specs.Words.{best_command}
use Rattle.headline.specs.Premises.{WasCalled}
use Rattle.headline.specs.Best.{WroteBest, EndedWithBest, BestBoundsHold, BestBoundsOfAnyTextHold}
use Rattle.headline.proofs.AtSymbols.{all_hold_at}
use Rattle.headline.proofs.Words.{words_have_requests}
use Rattle.headline.proofs.Reasons.{no_reasons, both_reasons, time_reasons, cost_reasons}
use Rattle.headline.proofs.Statuses.{done_of, unknown_of}
use Rattle.headline.proofs.GivenPrograms.{program_given}

module _ (symbols : List Symbol) (are : AllByRecursion IsName (map (λ (s : Symbol). s.name) symbols)) where
  -- the reasons of entries
  entry_time : (rule : ℕ) (o : Option Time) → GivesReasons (time_reason symbols rule o)
  entry_time rule None = no_reasons
  entry_time rule (Some t) = time_reasons symbols are rule t

  entry_cost : (rule : ℕ) (o : Option (Option RuleCost)) → GivesReasons (cost_reason rule o)
  entry_cost rule None = no_reasons
  entry_cost rule (Some c) = cost_reasons rule c

  -- those of subjects and of lines
  of_subject : (r : Report) (s : Subject) → GivesReasons (subject_reason symbols r s)
  of_subject r (subjects.Time rule) = entry_time rule (numbered_entry r.times rule)
  of_subject r (subjects.Cost rule) = entry_cost rule (numbered_entry r.costs rule)
  of_subject r subjects.Total = no_reasons
  of_subject r (subjects.Above rule place) = no_reasons
  of_subject r (subjects.Below rule place) = no_reasons

  of_line : (r : Report) (s : Subject) (o : Option Signed) → GivesReasons (reason_by symbols r s o)
  of_line r s None = of_subject r s
  of_line r s (Some b) = no_reasons

  of_lines : (r : Report) (lines : List Line) → GivesReasons (reasons_text symbols r lines)
  of_lines r [] = no_reasons
  of_lines r (l ∷ lines) =
      both_reasons (reason_by symbols r l.subject l.bound) (reasons_text symbols r lines) (of_line r l.subject l.bound)
      (of_lines r lines)

-- the text has the headline, the lines and then the reasons
lines_then_reasons : (p : Program) (r : Report) (lines : List Line) → best_text p r lines
    ≡ headline lines ++ (lines_text p.start_names lines ++ reasons_text p.symbols r lines)
unfolding best_text
lines_then_reasons p r lines = refl

-- what was written of facts and lines
best_written : (p : Program) (put : SinkUse) (all : Bool) (x : List ℕ)
    → AllByRecursion IsName (map (λ (s : Symbol). s.name) p.symbols) → (states : StatesBest p 10000 all x)
    → Appended put x → WroteBest p put states.facts states.lines
best_written p put all x names states appended =
    let text = states.result_is
    ∙ ap (λ (w : List ℕ). location_lines p states.facts ++ w) (lines_then_reasons p states.report states.lines) in record {
      subjects = states.best.subjects;
      reasons = reasons_text p.symbols states.report states.lines;
      are_reasons = of_lines p.symbols names states.report states.lines;
      appended = subst (λ (written : List ℕ). Appended put written) text appended;
      held = all_hold_at p states.facts states.found.held.hold;
      true_on_all_runs = states.best.hold;
    }

-- the rows of the table with status 0 and with status 1
bounded_row : (p : Program) (x : List ℕ) → HasRow (best_answers 10000 p) Done x → StatesBest p 10000 true x
bounded_row p x (inl (e, states)) = states
bounded_row p x (inr (inl (e, states))) = let none : 0 ≡ 1 = ap number_of e in absurd (omega (arith, none))
bounded_row p x (inr (inr never)) = absurd never

missing_row : (p : Program) (x : List ℕ) → HasRow (best_answers 10000 p) Unknown x → StatesBest p 10000 false x
missing_row p x (inl (e, states)) = let none : 1 ≡ 0 = ap number_of e in absurd (omega (arith, none))
missing_row p x (inr (inl (e, states))) = states
missing_row p x (inr (inr never)) = absurd never

-- facts and lines on the program were written, of which none lacks its bound, or one does
abbrev WroteAll : Program → SinkUse → Type 0
WroteAll p put = (facts : List LocFact) × (lines : List Line) × WroteBest p put facts lines × IsTrue (is_bounded lines)

abbrev WroteSome : Program → SinkUse → Type 0
WroteSome p put = (facts : List LocFact) × (lines : List Line) × WroteBest p put facts lines × IsFalse (is_bounded lines)

module _ (code : ExitCode) (call : Call) (put : SinkUse) (file : Word) (text : List ℕ) (p : Program)
    (was : WasCalled code call put (best_command file) file text) (spells : Spells text p) where
  asked : HasRequest call.words (OfProgram Best 10000 file)
  asked =
      subst (λ (words : Words). HasRequest words (OfProgram Best 10000 file)) (sym was.called)
      (words_have_requests.of_best file was.name).requested

  names : AllByRecursion IsName (map (λ (s : Symbol). s.name) p.symbols)
  names = (spelled_programs.spelled text p spells).names

  -- what was written, by the status
  wrote : (s : Status) → was.exits.status ≡ s → sort_of s ≡ Answer
      → Wrote call.shelf put (plan_of (OfProgram Best 10000 file)) s
  wrote s e answer =
      subst (λ (t : Status). Wrote call.shelf put (plan_of (OfProgram Best 10000 file)) t) e
      (was.exits.means.answered (OfProgram Best 10000 file) asked (ap sort_of e ∙ answer))

  bounded : Wrote call.shelf put (plan_of (OfProgram Best 10000 file)) Done → WroteAll p put
  bounded (q, (gives, (x, (row, appended)))) =
      let its_program : q ≡ p = program_given call.shelf was.files file text p q was.disclosed was.holds spells gives in
      let states : StatesBest p 10000 true x = subst (λ (o : Program). StatesBest o 10000 true x) its_program (bounded_row q x row) in
      (states.facts, states.lines, best_written p put true x names states appended, states.bounded)

  missing : Wrote call.shelf put (plan_of (OfProgram Best 10000 file)) Unknown → WroteSome p put
  missing (q, (gives, (x, (row, appended)))) =
      let its_program : q ≡ p = program_given call.shelf was.files file text p q was.disclosed was.holds spells gives in
      let states : StatesBest p 10000 false x = subst (λ (o : Program). StatesBest o 10000 false x) its_program (missing_row q x row) in
      (states.facts, states.lines, best_written p put false x names states appended, states.bounded)

  ended_with_best : EndedWithBest code p put
  ended_with_best = record {
    all = λ e. bounded (wrote Done (done_of was.exits.status (sym was.exits.numbered ∙ e)) refl);
    some = λ e. missing (wrote Unknown (unknown_of was.exits.status (sym was.exits.numbered ∙ e)) refl);
  }

pub any_text_best : BestBoundsOfAnyTextHold
any_text_best = record { each = ended_with_best }

pub best_bounds : BestBoundsHold
best_bounds = record {
  each = λ code call put file p was spellable.
      ended_with_best code call put file (canonical_text p) p was (spelled_programs.spells p spellable);
}
