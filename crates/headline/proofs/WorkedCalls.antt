-- The worked calls were made with some words and a file or weren't, and the worked texts may have been written by the
-- status or not.
use Rattle.std.proofs.Common.{◌≡◌, ℕ, List, [], ◌∷◌, ◌++◌, Option, Some, None, get_or, refl, sym, ◌∙◌, ap, inl, inr, codes, arith}
use Rattle.std.proofs.lemmas.List.{append_cancel_left}
use Rattle.std.specs.Cmp.Lexicographic.{slice_cmp, nat_list_cmp_total}
use Rattle.std.specs.FinMap.{get, empty, insert, get-insert, get-empty}
use Rattle.std.specs.Ordering.{nat_cmp}
use Rattle.std.specs.Process.{exit_status}
use Rattle.std.specs.declared.process.ExitCode.{ExitCode}
use Rattle.model.specs.Facts.{Fact}
use Rattle.model.specs.WorkedRuns.{countdown}
use Rattle.its_writer.specs.Texts.{canonical_text}
use Rattle.location_facts.specs.declared.fact.LocFact.{LocFact}
use Rattle.facts_report.specs.FactTexts.{location_lines}
use Rattle.outcome.specs.Reports.{Report}
use Rattle.report_text.specs.Reports.{bounds_text}
use Rattle.outside_io.specs.Files.{Files}
use Rattle.command_line.specs.Lines.{Words}
use Rattle.call_plans.specs.Calls.{SinkUse}
use Rattle.program_claims.specs.Claims as claims
use Rattle.symbol_facts.specs.Facts.{SymbolFact}
use Rattle.headline.specs.Checked.{WroteFacts, WroteStatements, WroteWhatHolds}
use Rattle.headline.specs.Premises.{WasCalled}
use Rattle.headline.specs.WithFacts.{WroteFactsAndBounds}
use Rattle.headline.specs.Words.{check_command, replay_command}
use Rattle.headline.specs.Worked.{sink_use_appending, countdown_report}
use Rattle.headline.specs.WorkedBest.{best_lines}
use Rattle.headline.specs.WorkedCalls.{check_call, CallsAreOfWords, EndsAreOfCountdown}
use Rattle.headline.proofs.Worked.{countdown_reported}
use Rattle.headline.proofs.WorkedBest.{rest_empty, best_worked}
use Rattle.headline.proofs.WorkedTexts.{facts_worked, statements_worked, bounds_with_facts_worked}

-- the files of the shelf, and what a look-up finds in them
abbrev files : Files
files = insert empty (codes "a") (canonical_text countdown)

found : get files (codes "a") ≡ Some (canonical_text countdown)
found = get-insert nat_list_cmp_total empty (codes "a") (canonical_text countdown) (codes "a")

not_found : get files (codes "b") ≡ None
not_found =
    get-insert nat_list_cmp_total empty (codes "a") (canonical_text countdown) (codes "b")
    ∙ get-empty (slice_cmp nat_cmp) (codes "b")

-- the files that are disclosed are these
same_files : (others : Files) → check_call.shelf.files_if_disclosed ≡ Some others → others ≡ files
same_files others e = cc

-- nothing isn't something, and one thing isn't another one
none_some : {A : Type 0} (o : Option A) (x : A) → o ≡ None → o ≡ Some x → ⊥
none_some o x e k = cc

some_same : {A : Type 0} (o : Option A) (x y : A) → o ≡ Some x → o ≡ Some y → x ≡ y
some_same o x y e k = cc

-- the first letter of the first word
abbrev letter_of : Words → ℕ
letter_of [] = 0
letter_of (word ∷ words) = get_or word 0 0

other_words : check_command (codes "a") (codes "b") ≡ replay_command (codes "a") (codes "b") → ⊥
other_words e = let letter : 99 ≡ 114 = ap letter_of e in omega (arith, letter)

other_text : canonical_text countdown ≡ [] → ⊥
other_text e = let letter : 40 ≡ 0 = ap (λ (w : List ℕ). get_or w 0 0) e in omega (arith, letter)

pub calls_worked : CallsAreOfWords
calls_worked = record {
  was = λ code put exits. record {
    exits = exits;
    called = refl;
    name = refl;
    files = files;
    disclosed = refl;
    holds = found;
  };
  other_words = λ code put w. other_words w.called;
  other_file = λ code put text w.
      none_some (get w.files (codes "b")) text
      (ap (λ (fs : Files). get fs (codes "b")) (same_files w.files w.disclosed) ∙ not_found) w.holds;
  other_text = λ code put w.
      other_text
      (some_same (get w.files (codes "a")) (canonical_text countdown) []
      (ap (λ (fs : Files). get fs (codes "a")) (same_files w.files w.disclosed) ∙ found) w.holds);
}

-- a status isn't another one
zero_one : {G : Type 0} (code : ExitCode) → exit_status code ≡ 0 → exit_status code ≡ 1 → G
zero_one code e k = absurd (omega (arith, e, k))

three_zero : {G : Type 0} (code : ExitCode) → exit_status code ≡ 3 → exit_status code ≡ 0 → G
three_zero code e k = absurd (omega (arith, e, k))

three_one : {G : Type 0} (code : ExitCode) → exit_status code ≡ 3 → exit_status code ≡ 1 → G
three_one code e k = absurd (omega (arith, e, k))

-- where nothing was appended no bounds with facts were
no_facts_and_bounds : (facts : List LocFact) (r : Report) → WroteFactsAndBounds countdown (sink_use_appending []) facts r → ⊥
no_facts_and_bounds facts r w =
    let text : List ℕ = bounds_text countdown.start_names r ++ w.reasons in
    countdown_reported.unwritten r
    (record {
      on_program = w.on_program;
      reasons = w.reasons;
      are_reasons = w.are_reasons;
      appended =
          ap (λ (t : List ℕ). codes "old " ++ t)
          (rest_empty (location_lines countdown facts) text
          (append_cancel_left (codes "old ") [] (location_lines countdown facts ++ text) w.appended));
      true_on_all_runs = w.true_on_all_runs;
    })

-- nor an acceptance
not_checked : WroteWhatHolds countdown (sink_use_appending []) → ⊥
not_checked (inl (facts, w)) = facts_worked.unwritten facts w
not_checked (inr (facts, stated, w)) = statements_worked.unwritten facts stated w

pub ends_worked : EndsAreOfCountdown
ends_worked = record {
  bounds = λ code is. record {
    all = λ e. (countdown_report, countdown_reported.all, countdown_reported.all_bounded, refl);
    some = λ e. zero_one code is e;
  };
  no_bounds = λ code is h. let w = h.all is in countdown_reported.unwritten w.0 w.1;
  other_status = λ code is. record {
    all = λ e. three_zero code is e;
    some = λ e. three_one code is e;
  };
  with_facts = λ code is. record {
    all = λ e. ([], countdown_report, bounds_with_facts_worked.without, countdown_reported.all_bounded, refl);
    some = λ e. zero_one code is e;
  };
  no_bounds_with_facts = λ code is h. let w = h.all is in no_facts_and_bounds w.0 w.1 w.2;
  best = λ code is. record {
    all = λ e. ([], best_lines, best_worked.all, refl);
    some = λ e. zero_one code is e;
  };
  no_best = λ code is h. let w = h.all is in best_worked.unwritten w.0 w.1 w.2;
  checked = inl (_, facts_worked.two);
  not_checked = not_checked;
}
