use Rattle.std.proofs.Common.{◌≡◌, ◌≤◌, map, length, All}
use Rattle.outcome.specs.Views.{time_of}
use Rattle.outcome.specs.Printing.{HasItsGap}
use Rattle.cert_types.specs.cert_rules.GapChecks.{GapHolds}
use Rattle.cert_types.specs.AnswerViews.{gap_of}
use Rattle.rank_search.specs.rule_questions.ProgramQuestions.{forms_at}
use Rattle.size_bounds.specs.Tables.{number_at}
use Rattle.size_bounds.specs.Tables.{bounds_in}
use Rattle.time_bounds.specs.AnalysisLemmas.{CarriesTime, AreGapsInOrder}
use Rattle.time_bounds.specs.Numbered.{EachNumbered}
use Rattle.time_bounds.specs.ProgramSearches.{searches_of_program}
use Rattle.time_bounds.specs.Questions.{program_in}
use Rattle.time_bounds.specs.TimesSaid.{AreTimesOver}
use Rattle.time_bounds.proofs.reasons.time_entries.Given as goal

abbrev pub invariant-loop-question : goal.invariant-loop-question
invariant-loop-question l = record {
  one_each : length l.times.items ≡ length l.yielded;
  few : length l.gaps.items ≤ length l.yielded;
  said : AreTimesOver (searches_of_program (program_in l.cx) l.cx.pivots) (program_in l.cx) (bounds_in l.table) 1
      (map (time_of l.gaps.items) l.times.items);
  gaps : All (HasItsGap (length l.gaps.items)) l.times.items;
  hold : All (λ g. GapHolds (program_in l.cx) (forms_at (program_in l.cx)) (gap_of g)) l.gaps.items;
  carried : EachNumbered (CarriesTime (number_at l.table)) 1 l.times.items;
  in_order : AreGapsInOrder 0 l.times.items (length l.gaps.items);
}
