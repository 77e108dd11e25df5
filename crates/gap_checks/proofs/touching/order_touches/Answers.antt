use Rattle.std.proofs.Common.{subst, rules}
use Rattle.std.specs.List.Sorted.{IsPermutation}
use Rattle.std.proofs.lemmas.List.Sorted.{IsNonDecreasingBy-from_sort_by_key}
use Rattle.gap_checks.proofs.touching.order_touches.Goals as goal

pub returns : goal.returns
returns c = record {
  all = subst (λ (ts : _). IsPermutation ts c.sort_unstable_by_key.new.self) c.put_touches.ensures c.sort_unstable_by_key.ensures.permutation;
  ordered = IsNonDecreasingBy-from_sort_by_key (λ t. t.symbol) _ c.sort_unstable_by_key.ensures.sorted (λ a r q k. search rules);
}
