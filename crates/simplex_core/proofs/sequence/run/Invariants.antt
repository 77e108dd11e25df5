use Rattle.std.proofs.Common.{◌-◌, ◌≤◌}
use Rattle.simplex_core.specs.Problem.{program_of}
use Rattle.simplex_core.specs.Tableau.{Tableau}
use Rattle.simplex_core.specs.Outcome.{ComesAfter}
use Rattle.simplex_core.proofs.sequence.run.Given as goal

-- the table shows the tableau after the pivots that were made
abbrev pub invariant-pivoting : goal.invariant-pivoting
invariant-pivoting g l = record {
  within : l.made ≤ l.pivots;
  last : Tableau;
  shows : g.T.SimplexTable.shows (program_of l.problem) l.table last;
  reached : ComesAfter (program_of l.problem) l.made last;
}

abbrev pub decreases-pivoting : goal.decreases-pivoting
decreases-pivoting g l = l.pivots - l.made
