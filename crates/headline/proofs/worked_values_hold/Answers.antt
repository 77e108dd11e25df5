-- They are worked out.
use Rattle.headline.proofs.Worked.{lines_worked, countdown_reported}
use Rattle.headline.proofs.WorkedTexts.{texts_worked, facts_worked, statements_worked, bounds_with_facts_worked}
use Rattle.headline.proofs.WorkedTexts.{tallies_worked}
use Rattle.headline.proofs.WorkedBest.{best_worked}
use Rattle.headline.proofs.WorkedCalls.{calls_worked, ends_worked}
use Rattle.headline.proofs.worked_values_hold.Goals as goal

pub returns : goal.returns
returns c = record {
  lines = lines_worked;
  reports = countdown_reported;
  texts = texts_worked;
  facts = facts_worked;
  statements = statements_worked;
  with_facts = bounds_with_facts_worked;
  tallies = tallies_worked;
  best = best_worked;
  calls = calls_worked;
  ends = ends_worked;
}
