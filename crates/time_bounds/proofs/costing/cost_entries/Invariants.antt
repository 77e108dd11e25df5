use Rattle.std.proofs.Common.{◌≡◌, ◌+◌, ◌≤◌, length, map}
use Rattle.cert_types.specs.Views.{proof_of}
use Rattle.size_bounds.specs.Tables.{bounds_in, number_at}
use Rattle.time_bounds.specs.CostEntries.{AreCostEntries}
use Rattle.time_bounds.specs.Questions.{program_in}
use Rattle.time_bounds.proofs.costing.cost_entries.Given as goal

-- the entries of the rules so far, with their lemmas, at most one for each rule
abbrev pub invariant-loop-i : goal.invariant-loop-i
invariant-loop-i l = record {
  one_each : length l.costs.items ≡ l.i;
  few : length l.lemmas.items ≤ length l.initial.lemmas.items + l.i;
  entries : AreCostEntries (program_in l.cx) l.cx.pivots (bounds_in l.table) (number_at l.table) (map proof_of l.initial.lemmas.items)
      l.costs.items (map proof_of l.lemmas.items);
}
