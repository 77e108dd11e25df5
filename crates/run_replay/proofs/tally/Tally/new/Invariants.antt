use Rattle.std.proofs.Common.{◌≡◌, [], map}
use Rattle.std.specs.List.{range_with_len}
use Rattle.its_model.specs.Views.{program_of}
use Rattle.run_replay.specs.Replays.{greatest_sizes}
use Rattle.run_replay.proofs.tally.Tally.new.Given as goal

-- the rows of the rules so far
abbrev pub invariant-loop-rule : goal.invariant-loop-rule
invariant-loop-rule l =
    map (λ row. row.items) l.greatest.items ≡ map (greatest_sizes (program_of l.p) [] []) (range_with_len 1 l.rule-index)
