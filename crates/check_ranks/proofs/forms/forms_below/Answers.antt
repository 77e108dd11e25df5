use Rattle.std.proofs.Common.{ltb, ltb-true, ltb-false, rules}
use Rattle.std.proofs.lemmas.List.Sorted.{IsPartitionPoint-from_clause, IsPartitionedBy-ltb}
use Rattle.check_ranks.proofs.forms.forms_below.Goals as goal

pub returns-clause-below : goal.returns-clause-below
returns-clause-below c =
    let parted = IsPartitionedBy-ltb (λ f. f.symbol) _ c.args.symbol c.requires in
    let point = IsPartitionPoint-from_clause (λ f. ltb f.symbol c.args.symbol) _ _ c.partition_point.ensures.partitioned parted (λ a r q k. search rules) in
    λ k d l h. ltb-true _ _ (point.0 k d l h)

pub returns-clause-behind : goal.returns-clause-behind
returns-clause-behind c =
    let parted = IsPartitionedBy-ltb (λ f. f.symbol) _ c.args.symbol c.requires in
    let point = IsPartitionPoint-from_clause (λ f. ltb f.symbol c.args.symbol) _ _ c.partition_point.ensures.partitioned parted (λ a r q k. search rules) in
    λ k d l h. ltb-false _ _ (point.1 k d l h)
