use Rattle.std.proofs.Common.{ℕ, take, ◌≤◌, ◌^◌}
use Rattle.its_graph.specs.Links.{LeadBelow}
use Rattle.its_graph.proofs.links.symbol_limit.Given as goal

abbrev pub invariant-loop-rule : goal.invariant-loop-rule
invariant-loop-rule l = record { below : LeadBelow l.limit (take l.rule-index l.rules); few : l.limit ≤ 2 ^ 32; least : (n : ℕ) → LeadBelow n l.rules → l.limit ≤ n }
