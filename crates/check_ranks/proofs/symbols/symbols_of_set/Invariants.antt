use Rattle.std.proofs.Common.{◌≡◌, length, take}
use Rattle.its_model.specs.Views.{program_of}
use Rattle.cert_types.specs.cert_rules.Graph.{touches}
use Rattle.check_ranks.specs.Marks.{AreMarks}
use Rattle.check_ranks.proofs.symbols.symbols_of_set.Given as goal

-- the symbols of the rules before this one are marked
abbrev pub invariant-loop-rule : goal.invariant-loop-rule
invariant-loop-rule l = record {
  one_each : length l.marks.items ≡ length l.p.symbols.items;
  marks : AreMarks (touches (program_of l.p) (take l.rule-index l.set)) l.marks.items;
}
