use Rattle.std.proofs.Common.{◌≡◌, ◌++◌, length, take, drop}
use Rattle.signed_bounds.specs.Covers.{missing_products, all_used_up}
use Rattle.signed_within.specs.declared.test.Test.TheVariants.{Equal}
use Rattle.signed_within.specs.Tests.{lists_match}
use Rattle.signed_within.specs.Views.{products_at, counted}
use Rattle.signed_within.proofs.covering.without_equal.Given as goal

-- the numbers missing of the products passed and of those left, and the numbers that these leave, are those of all
abbrev pub invariant-loop-p : goal.invariant-loop-p
invariant-loop-p l = record {
  lacking : counted (take l.p-index l.ps) l.missing.items
      ++ missing_products (lists_match Equal) (products_at (drop l.p-index l.ps)) (counted l.qs l.left.items)
      ≡ missing_products (lists_match Equal) (products_at l.ps) (products_at l.qs);
  rest : all_used_up (lists_match Equal) (products_at (drop l.p-index l.ps)) (counted l.qs l.left.items)
      ≡ all_used_up (lists_match Equal) (products_at l.ps) (products_at l.qs);
  lacking_size : length l.missing.items ≡ l.p-index;
  rest_size : length l.left.items ≡ length l.qs;
}
