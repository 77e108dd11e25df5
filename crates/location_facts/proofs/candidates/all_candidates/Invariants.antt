use Rattle.std.proofs.Common.{◌≡◌}
use Rattle.std.specs.List.{range_with_len}
use Rattle.its_model.specs.Views.{program_of}
use Rattle.location_facts.specs.Candidates.{candidates_among}
use Rattle.location_facts.proofs.candidates.all_candidates.Given as goal

-- the facts are those at the symbols so far
abbrev pub invariant-loop-symbol : goal.invariant-loop-symbol
invariant-loop-symbol l = l.all.items ≡ candidates_among (program_of l.p) (range_with_len 0 l.symbol)
