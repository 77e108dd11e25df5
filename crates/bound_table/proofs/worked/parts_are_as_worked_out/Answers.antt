use Rattle.bound_table.proofs.WorkedNodes.{parts_spliced, constants_folded, zero_products, neutral_dropped}
use Rattle.bound_table.proofs.WorkedNodes.{parts_sorted, likes_joined_so, dominated_dropped, few_simple}
use Rattle.bound_table.proofs.worked.parts_are_as_worked_out.Goals as goal

pub returns : goal.returns
returns c = record {
  spliced = parts_spliced;
  folded = constants_folded;
  zero = zero_products;
  neutral = neutral_dropped;
  sorted = parts_sorted;
  likes = likes_joined_so;
  dominated = dominated_dropped;
  few = few_simple;
}
