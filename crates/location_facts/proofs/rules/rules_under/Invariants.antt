use Rattle.std.proofs.Common.{◌≡◌, length}
use Rattle.its_model.specs.Views.{program_of}
use Rattle.location_facts.specs.Pointed.{ArePointed}
use Rattle.location_facts.proofs.DueRules.{EachUnder}
use Rattle.location_facts.proofs.rules.rules_under.Given as goal

-- the rules so far are under the list, or aren't due; marked ones have a point
abbrev pub invariant-loop-i : goal.invariant-loop-i
invariant-loop-i l = record {
  many : length l.rules_under_facts.items ≡ l.i;
  each : EachUnder (program_of l.search.program.now) l.search.pivots l.due l.kept l.rules_under_facts.items;
  points : ArePointed (program_of l.search.program.now) l.kept l.points.items;
}
