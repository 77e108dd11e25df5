-- The worked values of the cases that splice, fold, drop, sort and join parts.
use Rattle.std.proofs.Common.{refl}
use Rattle.bound_table.specs.Below.{below}
use Rattle.bound_table.specs.Rewriting.{at_node}
use Rattle.bound_table.specs.WorkedParts.{PartsAreSpliced, ConstantsAreFolded, ProductsWithZeroAreZero}
use Rattle.bound_table.specs.WorkedParts.{NeutralPartsAreDropped, PartsAreSorted, LikePartsAreJoined}
use Rattle.bound_table.specs.WorkedParts.{DominatedPartsAreDropped, FewPartsAreSimple}

-- the worked values of splicing hold
pub parts_spliced : PartsAreSpliced
unfolding at_node
parts_spliced =
    record { sum = refl; product = refl; maximum = refl; one_level = refl; empty = refl; other_kind = refl }

-- the worked values of folding constants hold
pub constants_folded : ConstantsAreFolded
unfolding at_node
constants_folded = record {
  sum = refl;
  product = refl;
  maximum = refl;
  alone = refl;
  at_most = refl;
  beyond = refl;
  product_beyond = refl;
}

-- the worked values of products with a part 0 hold
pub zero_products : ProductsWithZeroAreZero
unfolding at_node
zero_products = record { last = refl; alone = refl; without = refl; sum = refl; maximum = refl }

-- the worked values of dropping neutral parts hold
pub neutral_dropped : NeutralPartsAreDropped
unfolding at_node
neutral_dropped = record {
  sum = refl;
  product = refl;
  maximum = refl;
  nothing_left = refl;
  one_in_sum = refl;
  one_in_maximum = refl;
  zero_in_product = refl;
}

-- the worked values of sorting hold
pub parts_sorted : PartsAreSorted
unfolding at_node
parts_sorted = record {
  factors = refl;
  of_one_kind = refl;
  in_order = refl;
  parts = refl;
  by_factors = refl;
  by_constant = refl;
  maximum = refl;
}

-- the worked values of joining like parts hold
pub likes_joined_so : LikePartsAreJoined
unfolding at_node
likes_joined_so = record {
  neighbours = refl;
  apart = refl;
  other_factors = refl;
  constants = refl;
  in_product = refl;
  in_maximum = refl;
  at_most = refl;
  beyond = refl;
}

-- the worked values of dropping dominated parts hold
pub dominated_dropped : DominatedPartsAreDropped
unfolding at_node below
dominated_dropped = record { first = refl; last = refl; same = refl; several = refl; apart = refl; in_sum = refl }

-- the worked values of nodes of at most one part hold
pub few_simple : FewPartsAreSimple
unfolding at_node
few_simple = record {
  empty_sum = refl;
  empty_product = refl;
  empty_maximum = refl;
  single_in_sum = refl;
  single_in_product = refl;
  single_in_maximum = refl;
  two = refl;
  power = refl;
}
