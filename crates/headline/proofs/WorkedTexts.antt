-- The worked texts spell the program that counts down or don't, and the worked facts may have been written or not.
use Rattle.std.proofs.Common.{◌≡◌, ℕ, pos, negsuc, ◌≤ℤ◌, ◌-ℤ◌, List, [], ◌∷◌, ◌++◌, length, get_or, refl, ap, codes, arith}
use Rattle.std.proofs.lemmas.Int.{ints}
use Rattle.std.proofs.lemmas.List.{append_cancel_left}
use Rattle.std.proofs.lemmas.List.Elements.{All-nil, All-cons, All-head, All-tail}
use Rattle.std.specs.Fmt.{digits}
use Rattle.std.specs.List.{flat_map}
use Rattle.model.specs.Terms.{Literal, Variable}
use Rattle.model.specs.Programs.{AtLeast, Compare, Rule, Program}
use Rattle.model.specs.Bounds.{Constant}
use Rattle.model.specs.Facts.{Fact, Time, Size, Holds, HoldsTime}
use Rattle.model.specs.Runs.{IsRun, sizes_of_start}
use Rattle.run_replay.specs.Runs.{Run}
use Rattle.run_replay.specs.Replays.{tally_along}
use Rattle.run_replay.specs.ReplayAnswers.{last_first}
use Rattle.koat_cli.specs.ReplayTexts.{text_of_replay}
use Rattle.model.specs.Worked.{by_rule, two_values}
use Rattle.model.specs.WorkedRuns.{both, entering, looping, over_two_places, countdown, entry_alone}
use Rattle.model.proofs.WorkedRuns.{step_in}
use Rattle.model.proofs.WorkedFacts.{times_hold, sizes_hold}
use Rattle.text_core.specs.Reading.{Parsed}
use Rattle.its_text.specs.Spelling.{Spells}
use Rattle.its_text.specs.Answers.{verdict}
use Rattle.its_text.proofs.ReaderLaws.{one_program}
use Rattle.its_text.proofs.SpelledVerdicts.{verdicts_are_spelled}
use Rattle.its_writer.proofs.SpellingLaws.{spelled_programs}
use Rattle.symbol_facts.specs.Facts.{SymbolFact, IsAtLeastAt, IsSymbolFact}
use Rattle.location_facts.specs.declared.fact.LocFact.{LocFact}
use Rattle.check_text.specs.Texts.{fact_line, gap_line}
use Rattle.signed_bounds.specs.Bounds as signed
use Rattle.program_claims.specs.Claims as claims
use Rattle.program_claims.specs.Claims.{OccursAtMost}
use Rattle.claims_text.specs.Symbols.{symbol_fact_line}
use Rattle.claims_text.specs.Statements.{stated_line}
use Rattle.call_plans.specs.Calls.{SinkUse}
use Rattle.headline.specs.AtSymbols.{difference_at, AllHoldAt}
use Rattle.headline.specs.Checked.{WroteFacts, WroteStatements}
use Rattle.headline.specs.Worked.{sink_use_appending, countdown_report}
use Rattle.headline.specs.WorkedTexts.{TextsAreOfCountdown, FactsAreOfCountdown, first_not_negative, BoundsWithFactsAreOfCountdown}
use Rattle.headline.specs.WorkedTexts.{first_not_negative_form, zero_at_least_minus_one, StatementsAreOfCountdown, TalliesAreOfCountdown}
use Rattle.headline.specs.Replayed.{WroteTally}
use Rattle.headline.proofs.Worked.{countdown_reported}

-- a text that is read as a program spells it
spelled : (text : List ℕ) (p : Program) → verdict text ≡ Parsed p → Spells text p
spelled text p e = ((verdicts_are_spelled.stands text p).0 e).spells

-- the loop without its second atom
abbrev endless : Program
endless = over_two_places (entering ∷ record looping { guard = Compare (Variable 0) AtLeast (Literal (pos 1)) ∷ [] } ∷ [])

-- how many atoms the guard of the second rule has
abbrev atoms_of_second : List Rule → ℕ
atoms_of_second [] = 0
atoms_of_second (r ∷ []) = 0
atoms_of_second (r ∷ s ∷ rules) = length s.guard

no_loop : Spells (codes "(STARTTERM (FUNCTIONSYMBOLS l0))(RULES l0(A,B) -> l1(A,B))") countdown → ⊥
no_loop s =
    let text = codes "(STARTTERM (FUNCTIONSYMBOLS l0))(RULES l0(A,B) -> l1(A,B))" in
    let same : countdown ≡ entry_alone = one_program.each text countdown entry_alone s (spelled text entry_alone refl) in
    let few : 2 ≡ 1 = ap (λ (p : Program). length p.rules) same in omega (arith, few)

no_end : Spells (codes "(STARTTERM (FUNCTIONSYMBOLS l0))(RULES l0(A,B) -> l1(A,B) "
    ++ codes "l1(A,B) -> l1(A-1,-A) :|: A >= 1)") countdown → ⊥
no_end s =
    let text = codes "(STARTTERM (FUNCTIONSYMBOLS l0))(RULES l0(A,B) -> l1(A,B) l1(A,B) -> l1(A-1,-A) :|: A >= 1)" in
    let same : countdown ≡ endless = one_program.each text countdown endless s (spelled text endless refl) in
    let few : 2 ≡ 1 = ap (λ (p : Program). atoms_of_second p.rules) same in omega (arith, few)

pub texts_worked : TextsAreOfCountdown
texts_worked = record {
  canonical = spelled_programs.spells countdown countdown_reported.spellable;
  other = spelled _ countdown refl;
  no_loop = no_loop;
  no_end = no_end;
}

-- what was appended is the text of the facts
written : (bytes : List ℕ) (facts : List Fact) (w : WroteFacts countdown (sink_use_appending bytes) facts)
    → bytes ≡ codes "accepted\n" ++ (flat_map (fact_line countdown.start_names) facts ++ flat_map gap_line w.gaps)
written bytes facts w =
    append_cancel_left (codes "old ") bytes
    (codes "accepted\n" ++ (flat_map (fact_line countdown.start_names) facts ++ flat_map gap_line w.gaps)) w.appended

-- byte 9 begins the line after `accepted`
no_line : WroteFacts countdown (sink_use_appending (codes "accepted\ntime 2: 9\n")) [] → ⊥
no_line w = go w.gaps (written (codes "accepted\ntime 2: 9\n") [] w)
  where
    go : (gaps : List ℕ) → codes "accepted\ntime 2: 9\n" ≡ codes "accepted\n" ++ flat_map gap_line gaps → ⊥
    go [] e = let none : 116 ≡ 0 = ap (λ (w : List ℕ). get_or w 9 0) e in omega (arith, none)
    go (rule ∷ gaps) e = let other : 116 ≡ 103 = ap (λ (w : List ℕ). get_or w 9 0) e in omega (arith, other)

other_line : WroteFacts countdown (sink_use_appending (codes "accepted\ntime 2: 9\n")) (Size 2 1 (Constant 8) ∷ []) → ⊥
other_line w =
    let other : 116 ≡ 115 =
    ap (λ (w : List ℕ). get_or w 9 0) (written (codes "accepted\ntime 2: 9\n") (Size 2 1 (Constant 8) ∷ []) w) in
    omega (arith, other)

unwritten : (facts : List Fact) → WroteFacts countdown (sink_use_appending []) facts → ⊥
unwritten facts w =
    let none : 0 ≡ 97 = ap (λ (w : List ℕ). get_or w 0 0) (written [] facts w) in omega (arith, none)

pub facts_worked : FactsAreOfCountdown
unfolding digits
facts_worked = record {
  two = record {
    gaps = 2 ∷ [];
    appended = refl;
    hold =
        All-cons (Holds countdown) (Time 2 (Constant 9)) (Size 2 1 (Constant 8) ∷ []) times_hold.loop
        (All-cons (Holds countdown) (Size 2 1 (Constant 8)) [] sizes_hold.loop_first (All-nil (Holds countdown)));
  };
  none = record { gaps = []; appended = refl; hold = All-nil (Holds countdown) };
  time_less = λ put facts w. times_hold.loop_less (All-head (Holds countdown) (Time 2 (Constant 8)) facts w.hold);
  size_less = λ put first facts w.
      sizes_hold.loop_first_less
      (All-head (Holds countdown) (Size 2 1 (Constant 7)) facts
      (All-tail (Holds countdown) first (Size 2 1 (Constant 7) ∷ facts) w.hold));
  no_line = no_line;
  other_line = other_line;
  unwritten = unwritten;
}

-- what was appended is the text of the facts and of the statements
written_statements : (bytes : List ℕ) (facts : List SymbolFact) (stated : List claims.Stated)
    → WroteStatements countdown (sink_use_appending bytes) facts stated
    → bytes ≡ codes "accepted\n" ++ (flat_map (symbol_fact_line countdown) facts ++ flat_map (stated_line countdown) stated)
written_statements bytes facts stated w =
    append_cancel_left (codes "old ") bytes
    (codes "accepted\n" ++ (flat_map (symbol_fact_line countdown) facts ++ flat_map (stated_line countdown) stated)) w.appended

-- a constant bound on a time says the same over start values as over their absolute values
pub over_absolute : (n : ℕ) → OccursAtMost countdown 2 (signed.signed_val (signed.Constant n))
    → HoldsTime countdown 2 (Constant n)
over_absolute n h = record { each = λ start steps c run. h.each start steps c run }

pub over_values : (n : ℕ) → HoldsTime countdown 2 (Constant n)
    → OccursAtMost countdown 2 (signed.signed_val (signed.Constant n))
over_values n h = record { each = λ start steps c run. h.each start steps c run }

-- the step by rule 1 from l0(-1, 0)
enters_below : IsRun countdown (both (negsuc 0) (pos 0)) (by_rule 1 ∷ []) (two_values 1 (negsuc 0) (pos 0))
enters_below = (
  two_values 0 (negsuc 0) (pos 0),
  record { places = refl; at = refl; values = refl },
  step_in (negsuc 0) (pos 0),
)

-- byte 9 begins the line after `accepted`
no_stated : WroteStatements countdown (sink_use_appending (codes "accepted\ntime 2: 9\n")) [] [] → ⊥
no_stated w =
    let none : 116 ≡ 0 =
    ap (λ (w : List ℕ). get_or w 9 0) (written_statements (codes "accepted\ntime 2: 9\n") [] [] w) in
    omega (arith, none)

none_stated : (facts : List SymbolFact) (stated : List claims.Stated)
    → WroteStatements countdown (sink_use_appending []) facts stated → ⊥
none_stated facts stated w =
    let none : 0 ≡ 97 = ap (λ (w : List ℕ). get_or w 0 0) (written_statements [] facts stated w) in omega (arith, none)

false_symbol_fact : (put : SinkUse) (facts : List SymbolFact) (stated : List claims.Stated)
    → WroteStatements countdown put (first_not_negative_form ∷ facts) stated → ⊥
false_symbol_fact put facts stated w =
    let always = All-head (IsSymbolFact countdown) first_not_negative_form facts w.facts_hold in
    let met : pos 0 ≤ℤ negsuc 0 =
    always.each (both (negsuc 0) (pos 0)) (by_rule 1 ∷ []) (two_values 1 (negsuc 0) (pos 0)) enters_below refl in
    omega (arith, ints, met)

-- nothing is at least -1
nothing_is : IsSymbolFact countdown zero_at_least_minus_one
nothing_is = record { each = λ start steps c run at. omega (arith, ints) }

pub statements_worked : StatementsAreOfCountdown
unfolding digits
statements_worked = record {
  one = record {
    appended = refl;
    facts_hold = All-nil (IsSymbolFact countdown);
    hold = (over_values 9 times_hold.loop, tt);
  };
  with_fact = record {
    appended = refl;
    facts_hold =
        All-cons (IsSymbolFact countdown) zero_at_least_minus_one [] nothing_is (All-nil (IsSymbolFact countdown));
    hold = (over_values 9 times_hold.loop, tt);
  };
  none = record { appended = refl; facts_hold = All-nil (IsSymbolFact countdown); hold = tt };
  time_less = λ put facts stated w. times_hold.loop_less (over_absolute 8 w.hold.0);
  false_fact = false_symbol_fact;
  no_line = no_stated;
  unwritten = none_stated;
}

-- a run disproves the fact
pub disproved : (facts : List LocFact) → AllHoldAt countdown (first_not_negative ∷ facts) → ⊥
disproved facts held =
    let always =
    All-head (λ (f : LocFact). IsAtLeastAt countdown f.symbol (difference_at f) f.least) first_not_negative facts held in
    let met : pos 0 ≤ℤ (negsuc 0 -ℤ pos 0) =
    always.each (both (negsuc 0) (pos 0)) (by_rule 1 ∷ []) (two_values 1 (negsuc 0) (pos 0)) enters_below refl in
    omega (arith, ints, met)

pub bounds_with_facts_worked : BoundsWithFactsAreOfCountdown
unfolding digits
bounds_with_facts_worked = record {
  without = record {
    on_program = countdown_reported.all.on_program;
    reasons = [];
    are_reasons = record { lines = []; is_text = refl; each = tt };
    appended = refl;
    held = All-nil (λ (f : LocFact). IsAtLeastAt countdown f.symbol (difference_at f) f.least);
    true_on_all_runs = countdown_reported.all.true_on_all_runs;
  };
  false_fact = λ put facts r w. disproved facts w.held;
  time_less = λ put facts r e w. times_hold.loop_less (w.true_on_all_runs.times 2 (Constant 8) e);
  second_minus = refl;
  zero_minus = refl;
}

-- byte 9 is the number of the form
no_run : (put : SinkUse) → WroteTally countdown put (codes "koat-run 2\nstart 3 7\nend\n") → ⊥
no_run put w = let other : 50 ≡ 49 = ap (λ (w : List ℕ). get_or w 9 0) w.is_text in omega (arith, other)

-- the text of a tally begins with `steps`
nothing_tallied : (text : List ℕ) → WroteTally countdown (sink_use_appending []) text → ⊥
nothing_tallied text w =
    let tally = tally_along countdown w.run.start (last_first w.run) in
    let written : [] ≡ text_of_replay (sizes_of_start w.run.start) tally w.report =
    append_cancel_left (codes "old ") [] (text_of_replay (sizes_of_start w.run.start) tally w.report) w.appended in
    let none : 0 ≡ 115 = ap (λ (w : List ℕ). get_or w 0 0) written in omega (arith, none)

-- the run from l0(3, 7) that enters the loop
abbrev entering_once : Run
entering_once = record { start = both (pos 3) (pos 7); steps = by_rule 1 ∷ [] }

pub tallies_worked : TalliesAreOfCountdown
unfolding digits
tallies_worked = record {
  enters = record {
    run = entering_once;
    is_text = refl;
    end = two_values 1 (pos 3) (pos 7);
    is_run = (
      two_values 0 (pos 3) (pos 7),
      record { places = refl; at = refl; values = refl },
      step_in (pos 3) (pos 7),
    );
    report = countdown_report;
    on_program = countdown_reported.all.on_program;
    within_bounds = record {
      counts = (omega arith, (omega arith, tt));
      costs = (tt, (tt, tt));
      total = omega arith;
      greatest = ((omega arith, (omega arith, tt)), ((omega arith, (omega arith, tt)), tt));
    };
    appended = refl;
  };
  no_run = no_run;
  unwritten = nothing_tallied;
}
