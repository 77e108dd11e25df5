use Rattle.std.proofs.Common.{◌≡◌, length}
use Rattle.its_model.specs.Views.{program_of}
use Rattle.location_facts.specs.Due.{AreDue}
use Rattle.location_facts.proofs.rules.due_rules.Given as goal

-- the flags are right for the rules so far
abbrev pub invariant-loop-i : goal.invariant-loop-i
invariant-loop-i l = record {
  many : length l.due.items ≡ l.i;
  are : AreDue (program_of l.p) l.old l.new l.due.items;
}
