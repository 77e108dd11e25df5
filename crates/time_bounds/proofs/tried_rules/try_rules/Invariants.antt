use Rattle.std.proofs.Common.{◌≡◌, length}
use Rattle.size_bounds.specs.Tables.{bounds_in}
use Rattle.time_bounds.specs.Parts.{AreParts}
use Rattle.time_bounds.specs.Questions.{program_in}
use Rattle.time_bounds.specs.TriedRules.{AreTried}
use Rattle.time_bounds.proofs.tried_rules.try_rules.Given as goal

abbrev pub invariant-loop-asked : goal.invariant-loop-asked
invariant-loop-asked l = record {
  one_each : length l.tries.items ≡ length l.yielded;
  tried : AreTried (program_in l.cx) (bounds_in l.table) l.cx.pivots l.cx.empties.items 1 l.tries.items;
  parts : AreParts (program_in l.cx) l.table l.parts;
}
