use Rattle.std.proofs.Common.{ℕ, ◌-◌, ◌<◌, ◌≤◌, length, get_or}
use Rattle.its_graph.specs.Orders.{IsMarked}
use Rattle.its_graph.proofs.order.skip_listed.Given as goal

abbrev pub invariant-loop-position : goal.invariant-loop-position
invariant-loop-position l = record {
  onward : l.fn.from ≤ l.position;
  between : (k : ℕ) → l.fn.from ≤ k → k < l.position → IsMarked l.is_listed (get_or l.needs k 0);
}

abbrev pub decreases-loop-position : goal.decreases-loop-position
decreases-loop-position l = length l.needs - l.position
