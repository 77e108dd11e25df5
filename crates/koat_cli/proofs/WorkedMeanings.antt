-- The worked values of what statuses mean, and of which reports `analyse` may have written, hold.
use Rattle.std.proofs.Common.{◌≡◌, ℕ, ◌<◌, Bool, true, false, cond, List, [], ◌∷◌, ◌++◌, length, get_or, Option, Some, None}
use Rattle.std.proofs.Common.{refl, sym, ◌∙◌, ap, subst, arith, codes, inl, inr}
use Rattle.std.proofs.lemmas.List.{append_cancel_left}
use Rattle.model.specs.Programs.{Program}
use Rattle.model.specs.Bounds.{Constant}
use Rattle.model.specs.Facts.{HoldsTime, HoldsTotal}
use Rattle.model.specs.WorkedRuns.{countdown}
use Rattle.model.proofs.WorkedFacts.{times_hold}
use Rattle.model.proofs.WorkedTotals.{totals_hold}
use Rattle.its_writer.specs.Generated.{generated}
use Rattle.its_writer.specs.Texts.{canonical_text}
use Rattle.command_line.specs.Lines.{Word, Words}
use Rattle.command_line.specs.Requests.{Request, OfProgram, OfNumber, HasRequest}
use Rattle.command_line.specs.declared.task.ProgramTask.TheVariants.{Analyse}
use Rattle.command_line.specs.declared.task.NumberTask.TheVariants.{Generate}
use Rattle.command_line.proofs.OneWay.{read_in_one_way}
use Rattle.command_line.proofs.WorkedLines.{command_lines}
use Rattle.outcome.specs.Reports.{Timed, Report, is_bounded}
use Rattle.outcome.specs.Holding.{numbered_entry}
use Rattle.report_text.specs.Reports.{text_of_report}
use Rattle.call_plans.specs.declared.status.Status.{Status}
use Rattle.call_plans.specs.declared.status.Status.TheVariants.{Done, Unknown, Usage, ReadFault, ProgramRefused}
use Rattle.call_plans.specs.Calls.{ShelfUse, SinkUse}
use Rattle.call_plans.specs.Meanings.{Wrote, WroteRefusal, MayMiss}
use Rattle.call_plans.specs.OnFiles.{read_fault_text, WithoutText}
use Rattle.koat_cli.specs.Calls.{Call}
use Rattle.koat_cli.specs.Report.{usage_text}
use Rattle.koat_cli.specs.RequestPlans.{plan_of}
use Rattle.koat_cli.specs.Answers.{IsAnswer, ToNothing, ToRequest}
use Rattle.koat_cli.specs.WroteReport.{WroteReport}
use Rattle.koat_cli.specs.WorkedEnds.{undisclosed}
use Rattle.koat_cli.specs.WorkedMissingFiles.{holding}
use Rattle.koat_cli.specs.WorkedMeanings.{appended, Meaning, WithoutWords, Generating, Analysing, GivesOnly}
use Rattle.koat_cli.specs.WorkedMeanings.{StatusesMean, ReportsAreOfPrograms}
use Rattle.koat_cli.proofs.Endings.{ended_whole}
use Rattle.koat_cli.proofs.EndsMean.{ends_mean}
use Rattle.koat_cli.proofs.WorkedAnswers.{generate_asked, answers_worked}
use Rattle.koat_cli.proofs.WorkedMissingFiles.{steady, has_program, lacks, no_program}

-- the empty list of words has no request
none_asks : (request : Request) → HasRequest [] request → ⊥
none_asks request h = omega (arith, ap length h.command)

-- no count of faults rises from 0 to 0
no_rise : (s t : Status) → 0 < 0 → s ≡ t
no_rise s t less = absurd (none less)
  where
    none : 0 < 0 → ⊥
    none more = omega (arith, more)

-- a call with this answer, which wrote its text, has what its status means
meant : (words : Words) (before : ℕ) (seen : ShelfUse) (s : Status) (x : List ℕ)
    → IsAnswer (record { words = words; fetches_before = Some before; shelf = seen }) s x
    → (seen.faults_before < seen.faults_after → s ≡ ReadFault) → Meaning words before seen s x
meant words before seen s x reply fault =
    let call : Call = record { words = words; fetches_before = Some before; shelf = seen } in
    ends_mean s call (appended x) (ended_whole call (appended x) s x reply fault refl refl)

-- the first byte of what was written
pub first_is : (bytes x : List ℕ) → codes "old " ++ bytes ≡ codes "old " ++ x → get_or bytes 0 0 ≡ get_or x 0 0
first_is bytes x e = ap (λ (w : List ℕ). get_or w 0 0) (append_cancel_left (codes "old ") bytes x e)

-- endings that a call without words doesn't have
usage_unwritten : ¬ (WithoutWords Usage [])
usage_unwritten h = let letter : 0 ≡ 117 = first_is [] usage_text (h.usage refl).1 in omega (arith, letter)

done_without_request : (bytes : List ℕ) → ¬ (WithoutWords Done bytes)
done_without_request bytes h = let asked = h.asked refl in none_asks asked.0 asked.1

-- the request of `generate 0`
module _ (bytes : List ℕ) where
  generating : (r : Request) → HasRequest (codes "generate" ∷ codes "0" ∷ []) r → r ≡ OfNumber Generate 0
  generating r asked =
      read_in_one_way.one_request (codes "generate" ∷ codes "0" ∷ []) r (OfNumber Generate 0) asked generate_asked

  text_of_generated : Generating Done bytes → get_or bytes 0 0 ≡ 40
  text_of_generated h = go (h.answered (OfNumber Generate 0) generate_asked refl)
    where
      go : Wrote (undisclosed 0) (appended bytes) (plan_of (OfNumber Generate 0)) Done → get_or bytes 0 0 ≡ 40
      go (x, (inl told, e)) = first_is bytes x e ∙ ap (λ (w : List ℕ). get_or w 0 0) told.1.result_is
      go (x, (inr never, e)) = absurd never

  usage_with_request : ¬ (Generating Usage bytes)
  usage_with_request h = (h.usage refl).0 (OfNumber Generate 0) generate_asked

  generated_unknown : ¬ (Generating Unknown bytes)
  generated_unknown h = go (h.answered (OfNumber Generate 0) generate_asked refl)
    where
      go : Wrote (undisclosed 0) (appended bytes) (plan_of (OfNumber Generate 0)) Unknown → ⊥
      go (x, (inl told, e)) = let never : Unknown ≡ Done = told.0 in cc
      go (x, (inr never, e)) = never

  generated_refused : ¬ (Generating ProgramRefused bytes)
  generated_refused h =
      let found = h.refused refl in
      subst (λ (r : Request). WroteRefusal (undisclosed 0) (appended bytes) (plan_of r) ProgramRefused)
      (generating found.0 found.1.0) found.1.1

  generated_unread : ¬ (Generating ReadFault bytes)
  generated_unread h =
      let found = h.read_fault refl in
      subst (λ (r : Request). MayMiss (undisclosed 0) (plan_of r)) (generating found.0 found.1.0) found.1.1

generated_unwritten : ¬ (Generating Done [])
generated_unwritten h = let bracket : 0 ≡ 40 = text_of_generated [] h in omega (arith, bracket)

generated_otherwise : ¬ (Generating Done usage_text)
generated_otherwise h = let bracket : 117 ≡ 40 = text_of_generated usage_text h in omega (arith, bracket)

-- the request of `analyse p`
analysing : (r : Request) → HasRequest (codes "analyse" ∷ codes "p" ∷ []) r → r ≡ OfProgram Analyse 10000 (codes "p")
analysing r asked =
    read_in_one_way.one_request (codes "analyse" ∷ codes "p" ∷ []) r (OfProgram Analyse 10000 (codes "p")) asked
    command_lines.file_alone

-- a file that is held isn't lacking
not_both : (there : Option (List ℕ)) → there ≡ Some [] → there ≡ None → ⊥
not_both there holds lacks = cc

held : (bytes : List ℕ) → ¬ (Analysing (holding (codes "p")) ReadFault bytes)
held bytes h =
    let found = h.read_fault refl in
    go (subst (λ (r : Request). MayMiss (holding (codes "p")) (plan_of r)) (analysing found.0 found.1.0) found.1.1)
  where
    go : MayMiss (holding (codes "p")) (plan_of (OfProgram Analyse 10000 (codes "p"))) → ⊥
    go (inl (inl rose)) = steady rose
    go (inl (inr lacks)) = not_both _ has_program lacks
    go (inr (p, (gives, never))) = never

refused_unwritten : ¬ (Analysing (holding (codes "p")) ProgramRefused [])
refused_unwritten h =
    let found = h.refused refl in
    go (subst (λ (r : Request). WroteRefusal (holding (codes "p")) (appended []) (plan_of r) ProgramRefused)
    (analysing found.0 found.1.0) found.1.1)
  where
    go : WroteRefusal (holding (codes "p")) (appended []) (plan_of (OfProgram Analyse 10000 (codes "p"))) ProgramRefused → ⊥
    go (inl (x, (inl over, e))) =
        let letter : 0 ≡ 112 = first_is [] x e ∙ ap (λ (w : List ℕ). get_or w 0 0) over.result_is in omega (arith, letter)
    go (inl (x, (inr bad, e))) =
        let letter : 0 ≡ 112 = first_is [] x e ∙ ap (λ (w : List ℕ). get_or w 0 0) bad.refused.result_is in
        omega (arith, letter)
    go (inr (p, (gives, never))) = never

-- the first letter of a report's headline, by whether no bound is missing
abbrev pub first_letter : Bool → ℕ
first_letter true = 98
first_letter false = 117

headline_first : (b : Bool) (lines reasons : List ℕ)
    → get_or ((cond b (codes "bounded\n") (codes "unknown\n") ++ lines) ++ reasons) 0 0 ≡ first_letter b
headline_first true lines reasons = refl
headline_first false lines reasons = refl

pub report_first : (p : Program) (r : Report) → get_or (text_of_report p r) 0 0 ≡ first_letter (is_bounded r)
unfolding text_of_report
report_first p r = headline_first (is_bounded r) _ _

-- the first letter of the written text is that of the headline
module _ (call : Call) (bytes : List ℕ) (pivots : ℕ) (file : Word) (r : Report)
    (wrote : WroteReport call (appended bytes) pivots file r) where
  written_first : get_or bytes 0 0 ≡ first_letter (is_bounded r)
  written_first =
      first_is bytes wrote.text wrote.appended
      ∙ (ap (λ (w : List ℕ). get_or w 0 0) wrote.stated.text_of ∙ report_first wrote.program r)

  something_written : get_or bytes 0 0 ≡ 0 → ⊥
  something_written e = go (is_bounded r) (sym e ∙ written_first)
    where
      go : (b : Bool) → 0 ≡ first_letter b → ⊥
      go true letter = omega (arith, letter)
      go false letter = omega (arith, letter)

done_first : (seen : ShelfUse) (bytes : List ℕ) → Analysing seen Done bytes → get_or bytes 0 0 ≡ 98
done_first seen bytes h =
    let call : Call = record { words = codes "analyse" ∷ codes "p" ∷ []; fetches_before = Some 0; shelf = seen } in
    let found = h.done 10000 (codes "p") command_lines.file_alone refl in
    written_first call bytes 10000 (codes "p") found.0 found.1 ∙ ap first_letter found.2

unknown_first : (seen : ShelfUse) (bytes : List ℕ) → Analysing seen Unknown bytes → get_or bytes 0 0 ≡ 117
unknown_first seen bytes h =
    let call : Call = record { words = codes "analyse" ∷ codes "p" ∷ []; fetches_before = Some 0; shelf = seen } in
    let found = h.unknown 10000 (codes "p") command_lines.file_alone refl in
    written_first call bytes 10000 (codes "p") found.0 found.1 ∙ ap first_letter found.2

pub statuses_mean : StatusesMean
statuses_mean = record {
  usage =
      meant [] 7 (undisclosed 0) Usage usage_text (ToNothing none_asks (record { fetches = refl; result_is = refl; ends = refl }))
      (no_rise Usage ReadFault);
  usage_unwritten = usage_unwritten;
  done_without_request = done_without_request;
  generated =
      meant (codes "generate" ∷ codes "0" ∷ []) 7 (undisclosed 0) Done (canonical_text (generated 0))
      (answers_worked.generate (undisclosed 0)) (no_rise Done ReadFault);
  generated_unwritten = generated_unwritten;
  generated_otherwise = generated_otherwise;
  usage_with_request = usage_with_request;
  generated_unknown = generated_unknown;
  generated_refused = generated_refused;
  generated_unread = generated_unread;
  lacking =
      meant (codes "analyse" ∷ codes "p" ∷ []) 0 (holding (codes "q")) ReadFault read_fault_text
      (ToRequest (OfProgram Analyse 10000 (codes "p")) command_lines.file_alone (WithoutText refl lacks)) (λ less. refl);
  held = held;
  refused =
      meant (codes "analyse" ∷ codes "p" ∷ []) 0 (holding (codes "p")) ProgramRefused
      (codes "program refused at 0: MissingSection\n")
      (ToRequest (OfProgram Analyse 10000 (codes "p")) command_lines.file_alone (WithoutText refl no_program))
      (no_rise ProgramRefused ReadFault);
  refused_unwritten = refused_unwritten;
  done_unwritten = λ seen h. let letter : 0 ≡ 98 = done_first seen [] h in omega (arith, letter);
  done_as_unknown = λ seen bytes h.
      let letter : 117 ≡ 98 = done_first seen (codes "unknown\n" ++ bytes) h in omega (arith, letter);
  unknown_unwritten = λ seen h. let letter : 0 ≡ 117 = unknown_first seen [] h in omega (arith, letter);
  unknown_as_done = λ seen bytes h.
      let letter : 98 ≡ 117 = unknown_first seen (codes "bounded\n" ++ bytes) h in omega (arith, letter);
}

-- the program of a report is the one that the file gives
module _ (call : Call) (put : SinkUse) (pivots : ℕ) (file : Word) (r : Report) (alone : GivesOnly call file countdown)
    (wrote : WroteReport call put pivots file r) where
  its_program : wrote.program ≡ countdown
  its_program = alone wrote.program wrote.given

  no_time_less : numbered_entry r.times 2 ≡ Some (Timed (Constant 8)) → ⊥
  no_time_less e =
      times_hold.loop_less
      (subst (λ (p : Program). HoldsTime p 2 (Constant 8)) its_program (wrote.found.true_on_all_runs.times 2 (Constant 8) e))

  no_total_less : r.total ≡ Some (Constant 9) → ⊥
  no_total_less e =
      totals_hold.plain_less
      (subst (λ (p : Program). HoldsTotal p (Constant 9)) its_program (wrote.found.true_on_all_runs.total (Constant 9) e))

  no_other_program : length r.times ≡ 1 → ⊥
  no_other_program e =
      let rules : length r.times ≡ 2 = wrote.stated.report.times ∙ ap (λ (p : Program). length p.rules) its_program in
      omega (arith, e, rules)

pub reports_of_programs : ReportsAreOfPrograms
reports_of_programs = record {
  time_less = λ call put pivots file r alone e wrote. no_time_less call put pivots file r alone wrote e;
  total_less = λ call put pivots file r alone e wrote. no_total_less call put pivots file r alone wrote e;
  other_program = λ call put pivots file r alone e wrote. no_other_program call put pivots file r alone wrote e;
  unwritten = λ call pivots file r wrote. something_written call [] pivots file r wrote refl;
}
