-- The worked lines may have been written or not.
use Rattle.std.proofs.Common.{◌≡◌, ℕ, Bool, true, false, cond, pos, negsuc, ◌≤ℤ◌, ◌-ℤ◌, List, [], ◌∷◌, ◌++◌, length, get_or, refl, ap}
use Rattle.std.proofs.Common.{codes, arith}
use Rattle.std.proofs.lemmas.List.{append_cancel_left}
use Rattle.std.proofs.lemmas.List.Elements.{All-nil}
use Rattle.std.specs.Fmt.{digits}
use Rattle.model.specs.WorkedRuns.{countdown}
use Rattle.model.proofs.WorkedFacts.{times_hold}
use Rattle.model.proofs.WorkedTotals.{totals_hold}
use Rattle.location_facts.specs.declared.fact.LocFact.{LocFact}
use Rattle.facts_report.specs.FactTexts.{location_lines}
use Rattle.program_claims.specs.Claims.{OccursAtMost, SpendsInAllAtMost}
use Rattle.signed_bounds.specs.Bounds.{Constant, signed_val}
use Rattle.symbol_facts.specs.Facts.{IsAtLeastAt}
use Rattle.best_report.specs.declared.subject.Subject.{Subject}
use Rattle.best_report.specs.Lines.{Line, LinesHold, is_bounded}
use Rattle.best_report.specs.Texts.{headline, lines_text}
use Rattle.call_plans.specs.Calls.{SinkUse}
use Rattle.headline.specs.AtSymbols.{difference_at}
use Rattle.headline.specs.Best.{WroteBest}
use Rattle.headline.specs.Worked.{sink_use_appending}
use Rattle.headline.specs.WorkedBest.{best_lines, BestIsOfCountdown}
use Rattle.headline.specs.WorkedTexts.{first_not_negative}
use Rattle.headline.proofs.WorkedTexts.{over_absolute, over_values, disproved}

-- the bounds hold
first_time : OccursAtMost countdown 1 (signed_val (Constant 1))
first_time = record { each = λ start steps c run. times_hold.first.each start steps c run }

total : SpendsInAllAtMost countdown (signed_val (Constant 10))
total = record { each = λ start steps c run. totals_hold.plain.each start steps c run }

lines_hold : LinesHold countdown best_lines
lines_hold = (first_time, (over_values 9 times_hold.loop, (total, (tt, (tt, (tt, (tt, (tt, (tt, (tt, (tt, tt)))))))))))

-- if a text followed by another one is empty, so is the other one
pub rest_empty : (front back : List ℕ) → [] ≡ front ++ back → [] ≡ back
rest_empty [] back e = e
rest_empty (b ∷ front) back e = absurd (let never : ⊥ = cc in never)

-- a headline has a first byte
begun : (all : Bool) (rest : List ℕ) → [] ≡ cond all (codes "bounded\n") (codes "unknown\n") ++ rest → ⊥
begun true rest e = let none : 0 ≡ 98 = ap (λ (w : List ℕ). get_or w 0 0) e in omega (arith, none)
begun false rest e = let none : 0 ≡ 117 = ap (λ (w : List ℕ). get_or w 0 0) e in omega (arith, none)

unwritten : (facts : List LocFact) (lines : List Line) → WroteBest countdown (sink_use_appending []) facts lines → ⊥
unwritten facts lines w =
    let behind : List ℕ = lines_text countdown.start_names lines ++ w.reasons in
    begun (is_bounded lines) behind
    (rest_empty (location_lines countdown facts) (headline lines ++ behind)
    (append_cancel_left (codes "old ") [] (location_lines countdown facts ++ (headline lines ++ behind)) w.appended))

pub best_worked : BestIsOfCountdown
unfolding digits
best_worked = record {
  all = record {
    subjects = refl;
    reasons = [];
    are_reasons = record { lines = []; is_text = refl; each = tt };
    appended = refl;
    held = All-nil (λ (f : LocFact). IsAtLeastAt countdown f.symbol (difference_at f) f.least);
    true_on_all_runs = lines_hold;
  };
  time_less = λ put facts first lines w. times_hold.loop_less (over_absolute 8 w.true_on_all_runs.1.0);
  false_fact = λ put facts lines w. disproved facts w.held;
  no_lines = λ put facts w. let few : 0 ≡ 11 = ap (λ (ss : List Subject). length ss) w.subjects in omega (arith, few);
  unwritten = unwritten;
}
