use Rattle.std.proofs.Common.{ℕ, All, take, ◌<◌, ◌≤◌, ◌^◌}
use Rattle.its_graph.proofs.links.link_limit.Given as goal

-- The ends of the links so far are below the limit.
abbrev pub invariant-loop-from : goal.invariant-loop-from
invariant-loop-from l = record {
  below : All (λ (e : ℕ × ℕ). (e.0 < l.limit) × (e.1 < l.limit)) (take l.from-index l.links);
  few : l.limit ≤ 2 ^ 32;
  least : (n : ℕ) → All (λ (e : ℕ × ℕ). (e.0 < n) × (e.1 < n)) l.links → l.limit ≤ n;
}
